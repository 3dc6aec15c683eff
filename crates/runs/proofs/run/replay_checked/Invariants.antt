-- `replay_checked` meets its contract. The loop's invariant: state and memory still pass 1 to 3, the part is the one of the
-- state, and what is left of the run, with what it has given so far, is the whole run. A turn takes the samples at hand, and then
-- one other event. Assumes nothing.
use mathlib.Core.Path.{◌≡◌}
use Prim.Native.Nat.{◌≤◌, ◌-◌}
use lib.ListN.{length, drop}
use lib.Seq.{sets}
use Rattle.parts.specs.Table.{part_of}
use Rattle.chip.specs.Check.{Sound}
use Rattle.runs.specs.Run.{ran_of, loop_of}
use Rattle.runs.proofs.RunLaws.{final, final_of}
use Rattle.runs.proofs.run.replay_checked.Given as goal

abbrev pub invariant-loop-at : goal.invariant-loop-at
invariant-loop-at l =
    (l.at.count ≤ l.quota) × (l.at.offset ≤ length l.trace) × Sound l.at.model l.memory × (l.part ≡ part_of l.at.model.part) × (length l.memory ≡ length l.initial.memory) × (length l.answers ≡ length l.initial.answers)
    × (final (length l.trace) l.at.flag l.at.count l.at.offset l.answers (loop_of (l.quota - l.at.count) (drop l.at.offset l.trace) l.at.model l.memory) ≡ final_of (ran_of (loop_of l.quota l.trace l.initial.at.model l.initial.memory)) (loop_of l.quota l.trace l.initial.at.model l.initial.memory).memory (sets l.initial.answers 0 (loop_of l.quota l.trace l.initial.at.model l.initial.memory).answers))

abbrev pub decreases-loop-at : goal.decreases-loop-at
decreases-loop-at l = l.quota - l.at.count
