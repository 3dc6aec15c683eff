-- The state of an SPI part under power as the loop keeps it: the state that it stands for, and what ties it to the row of its part.
use Rattle.std.specs.Prelude.{ℕ, ◌≡◌, ◌^◌, ◌<◌, Bool}
use Rattle.parts.specs.declared.answer.Answer.{Answer}
use Rattle.parts.specs.declared.part.Part.{Part}
use Rattle.parts.specs.declared.status.Status.{Status}
use Rattle.parts.specs.Table.{part_of}
use Rattle.selection.specs.declared.phase.Phase.{Phase}
use Rattle.selection.specs.Levels.{levels_of}
use Rattle.chip.specs.declared.model.BusState.TheVariants.{SpiOn}
use Rattle.chip.specs.declared.model.Model.{Model}
use Rattle.chip.specs.Model.{model_of}
use Rattle.phase_bits.specs.Field.{kept_of, early_of, with_bits}
use Rattle.samples.specs.Samples.{spi_of}
use Rattle.spi_samples.specs.declared.bus.SpiBus.{SpiBus}

-- the state of a part and its pins with this register, sample before, sleep, shown bit and phase
abbrev pub spi_model : ℕ → ℕ → Status → ℕ → Bool → Answer → Phase → Model
spi_model part pins st last z shown ph = model_of part pins st (SpiOn (spi_of (levels_of last) z shown ph))

abbrev pub state_of : SpiBus → Model
state_of b = spi_model b.number b.pins b.status b.last b.asleep b.shown (with_bits b.phase b.bits b.value)

-- the bits are few, the phase beside them is one that is kept, and as many as are told come before the one that does more
pub record KeptIn (p : Part) (b : SpiBus) : Type 0 where
  pub row : p ≡ part_of b.number
  pub small : b.value < 2 ^ b.bits
  pub early : b.early ≡ early_of p b.phase
  pub kept : kept_of b.phase ≡ b.phase
