-- `consecutive` meets its contract. The loop's invariant: the bus fits the part, the end is where quota or trace stop, and what is left of the samples from its state leads to what all of them
-- give. Assumes nothing.
use Prim.Native.Nat.{◌-◌}
use lib.ListN.{length, drop}
use Rattle.samples.specs.Samples.{samples_of}
use Rattle.samples.proofs.BoundLaws.{Bound}
use Rattle.samples.proofs.SamplesLaws.{end, Going}
use Rattle.samples.proofs.consecutive.consecutive.Given as goal

abbrev pub invariant-loop-part : goal.invariant-loop-part
invariant-loop-part g l =
    let b = g.B.Kept in
    b.fits l.fn.part l.bus × Bound (length l.fn.trace) l.fn.quota l.count l.offset l.end
    × Going l.fn.trace l.fn.quota (end (length l.fn.trace) l.fn.from.flag l.fn.from.count l.fn.from.offset l.fn.answers (samples_of (l.fn.quota - l.fn.from.count) (drop l.fn.from.offset l.fn.trace) l.fn.from.model l.fn.memory)) (b.state l.bus) l.flag l.count l.offset l.memory l.answers

abbrev pub decreases-loop-part : goal.decreases-loop-part
decreases-loop-part g l =
    l.fn.quota - l.count
