-- The state is sound, so its bus can be kept. Assumes nothing.
use Rattle.chip.proofs.CheckLaws.{sound_in, spi_ready}
use Rattle.spi_samples.proofs.consecutive.spi_samples.Goals as goal

pub kept-bus-requires : goal.kept-bus-requires
kept-bus-requires c =
    let a = c.args in
    let r = spi_ready a.from.model a.spi a.memory.now c.requires.1 (sound_in a.from.model a.memory.now c.requires.2) in
    (c.requires.0, c.requires.1, rw c.requires.0 r.fit, rw c.requires.0 r.inside)
