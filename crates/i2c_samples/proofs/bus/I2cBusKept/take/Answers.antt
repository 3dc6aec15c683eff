-- A sample is taken: by the edge that was seen. Assumes nothing.
use mathlib.Core.Path.{◌≡◌, refl, sym, ◌∙◌}
use native.Mathlib.Omega.{arith}
use Rattle.transfer.specs.declared.edge.Edge.TheVariants.{Start, Stop, Rise, Fall, Quiet}
use Rattle.transfer.specs.Flag.{flag_of}
use Rattle.transfer.specs.Levels.{levels_of}
use Rattle.samples.specs.Samples.{i2c_of}
use Rattle.phase_bits.specs.Byte.{with_bits}
use Rattle.phase_bits.proofs.ByteLaws.{one_more_lem, none_written, buffer_stays, fresh, flag_same}
use Rattle.i2c_samples.proofs.I2cLaws.{ready, Turned, turn}
use Rattle.i2c_samples.proofs.bus.I2cBusKept.take.Goals as goal
use Rattle.i2c_samples.proofs.bus.I2cBusKept.take.Goals.{in-Start, in-Stop, in-Rise+then-self-lt8, in-Rise+else-self-lt8, in-Fall, in-Quiet}

pub store-requires : goal.store-requires
store-requires c =
    let r = ready c.args.self.now c.args.memory.now c.requires.1 in
    rw (c.with_bits-whole.ensures, c.requires.0.row) (r.inside, r.sized)

pub after_rise-self-requires : goal.after_rise-self-requires
after_rise-self-requires c =
    let r = ready c.args.self.now c.args.memory.now c.requires.1 in
    rw (c.with_bits-whole.ensures, c.requires.0.row) (r.placed, r.inside)

pub buffer_after-self-requires : goal.buffer_after-self-requires
buffer_after-self-requires c =
    let r = ready c.args.self.now c.args.memory.now c.requires.1 in
    rw (c.with_bits-whole.ensures, c.requires.0.row) (r.placed.fit, r.inside)

pub pulls_after-self-requires : goal.pulls_after-self-requires
pulls_after-self-requires c =
    let r = ready c.args.self.now c.args.memory.now c.requires.1 in
    rw (c.with_bits-whole-in-Fall.ensures, c.requires.0.row) (omega (arith, r.placed.wired, r.placed.fit.few), r.sized, r.inside)

pub returns-clause-taken : goal.returns-clause-taken
returns-clause-taken c =
    let p = c.args.part in
    let s = c.args.self.now in
    let m = c.args.memory.now in
    let levels = c.from-levels in
    let k = c.requires.0 in
    let to = c.match-clock_first in
    let now = to.self in
    let w : Turned c.clock_first.result p s.pins (i2c_of (levels_of s.last) s.pulling s.buffer (with_bits s.phase s.bits s.value)) levels.result m now.pulling now.buffer (with_bits now.phase now.bits now.value) to.memory × (now.number ≡ s.number) × (now.pins ≡ s.pins) × (now.status ≡ s.status) =
    elim to.branch [
      | in-Start w ↦ (record { edge = Start; seen = w.in-Start.is; memory = w.memory-is; pulling = rw w.self-is; buffer = rw w.self-is; phase = rw (w.self-is, w.taking-self.ensures) }, rw w.self-is, rw w.self-is, rw w.self-is)
      | in-Stop w ↦ (record { edge = Stop; seen = w.in-Stop.is; memory = w.memory-is; pulling = rw w.self-is; buffer = rw w.self-is; phase = rw w.self-is }, rw w.self-is, rw w.self-is, rw w.self-is)
      | in-Rise+then-self-lt8 w ↦ let few = w.if-self-lt8.true in (record { edge = Rise _; seen = w.in-Rise.is; memory = rw (none_written s.bits s.value few levels.result.wp s.phase) w.memory-is; pulling = rw w.self-is; buffer = rw (w.self-is, buffer_stays s.bits s.value few p s.buffer s.phase); phase = rw (w.self-is, w.shift_in-self.ensures) (sym (one_more_lem s.bits s.value few p s.pins s.buffer w.in-Rise.line s.phase)) }, rw w.self-is, rw w.self-is, rw w.self-is)
      | in-Rise+else-self-lt8 w ↦ (record { edge = Rise _; seen = w.in-Rise.is; memory = w.memory-is ∙ rw w.with_bits-whole.ensures at w.store.ensures; pulling = rw w.self-is; buffer = rw w.self-is (rw w.with_bits-whole.ensures at w.buffer_after-self.ensures); phase = rw (w.self-is, w.after_rise-self.ensures, w.with_bits-whole.ensures) (fresh p s.pins s.buffer s.bits s.value w.in-Rise.line s.phase w.if-self-lt8.false) }, rw w.self-is, rw w.self-is, rw w.self-is)
      | in-Fall w ↦ (record { edge = Fall; seen = w.in-Fall.is; memory = w.memory-is; pulling = rw w.self-is (rw w.with_bits-whole-in-Fall.ensures at w.pulls_after-self.ensures); buffer = rw w.self-is; phase = rw w.self-is }, rw w.self-is, rw w.self-is, rw w.self-is)
      | in-Quiet w ↦ (record { edge = Quiet; seen = w.in-Quiet.is; memory = w.memory-is; pulling = rw w.self-is; buffer = rw w.self-is; phase = rw w.self-is }, rw w.self-is, rw w.self-is, rw w.self-is)
    ] in
    rw (w.1, w.2, w.3) (turn s.number s.pins s.status s.last s.pulling s.buffer (with_bits s.phase s.bits s.value) m p k.row c.args.sample (levels_of s.last) levels.result refl levels.ensures c.clock_first.result (rw levels.ensures c.clock_first.ensures) (flag_of s.phase (levels_of s.last) (levels_of c.args.sample)) now.pulling now.buffer (with_bits now.phase now.bits now.value) to.memory (rw levels.ensures (sym (flag_same s.phase s.bits s.value (levels_of s.last) (levels_of c.args.sample)))) w.0)
