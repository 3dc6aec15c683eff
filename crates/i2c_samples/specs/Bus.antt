-- The state of an I2C part under power as the loop keeps it: the state that it stands for, and what ties it to the row of its part.
use Rattle.std.specs.Prelude.{ℕ, ◌≡◌, ◌^◌, ◌<◌, Bool}
use Rattle.parts.specs.declared.part.Part.{Part}
use Rattle.parts.specs.declared.status.Status.{Status}
use Rattle.parts.specs.Table.{part_of}
use Rattle.transfer.specs.declared.buffer.AddressBuffer.{AddressBuffer}
use Rattle.transfer.specs.declared.phase.Phase.{Phase}
use Rattle.transfer.specs.Levels.{levels_of}
use Rattle.chip.specs.declared.model.BusState.TheVariants.{I2cOn}
use Rattle.chip.specs.declared.model.Model.{Model}
use Rattle.chip.specs.Model.{model_of}
use Rattle.phase_bits.specs.Byte.{with_bits}
use Rattle.samples.specs.Samples.{i2c_of}
use Rattle.i2c_samples.specs.declared.bus.I2cBus.{I2cBus}

-- the state of a part, its pins and this register with this sample before, pull, buffer and phase
abbrev pub i2c_model : ℕ → ℕ → Status → ℕ → Bool → AddressBuffer → Phase → Model
i2c_model part pins st last z b ph = model_of part pins st (I2cOn (i2c_of (levels_of last) z b ph))

abbrev pub state_of : I2cBus → Model
state_of b = i2c_model b.number b.pins b.status b.last b.pulling b.buffer (with_bits b.phase b.bits b.value)

-- the bits are few
pub record KeptIn (p : Part) (b : I2cBus) : Type 0 where
  pub row : p ≡ part_of b.number
  pub small : b.value < 2 ^ b.bits
