-- The state is sound, so its bus can be kept. Assumes nothing.
use native.Mathlib.Omega.{arith}
use Rattle.chip.proofs.CheckLaws.{sound_in, i2c_ready}
use Rattle.i2c_samples.proofs.consecutive.i2c_samples.Goals as goal

pub kept-bus-requires : goal.kept-bus-requires
kept-bus-requires c =
    let a = c.args in
    let r = i2c_ready a.from.model a.i2c a.memory.now c.requires.1 (sound_in a.from.model a.memory.now c.requires.2) in
    (c.requires.0, c.requires.1, omega (arith, r.placed.wired, r.placed.fit.few), rw c.requires.0 r.inside)
