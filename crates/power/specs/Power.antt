-- What power on makes of each bus, and what power off leaves of the status register.
use Rattle.std.specs.Prelude.{ℕ, Bool, true, false, cond}
use Rattle.parts.specs.declared.answer.Answer.TheVariants.{HighZ}
use Rattle.parts.specs.declared.part.Part.{Part}
use Rattle.parts.specs.declared.status.Status.{Status}
use Rattle.parts.specs.Status.{cleared, with_wel}
use Rattle.selection.specs.declared.levels.Levels as SpiLevels
use Rattle.selection.specs.declared.phase.Phase as SpiPhase
use Rattle.selection.specs.declared.phase.Phase.TheVariants as SpiPhases
use Rattle.spi.specs.declared.sample.Spi as SpiState
use Rattle.transfer.specs.declared.levels.Levels as I2cLevels
use Rattle.transfer.specs.declared.phase.Phase.TheVariants as I2cPhases
use Rattle.i2c.specs.declared.sample.I2c as I2cState

-- the phase at power on, by CS#: if it is low the part ignores the bus until it has been high
abbrev pub at_power : Bool → SpiPhase.Phase
at_power true = SpiPhases.Rest
at_power false = SpiPhases.Ignoring

-- an SPI part comes up awake and drives nothing
abbrev pub spi_start : SpiLevels.Levels → SpiState.Spi
spi_start l = record { last = l; asleep = false; shown = HighZ; phase = at_power l.cs }

-- an I2C part comes up at rest without a pull, and its address buffer has the start address, unused
abbrev pub i2c_start : I2cLevels.Levels → ℕ → I2cState.I2c
i2c_start l a = record { last = l; pulling = false; buffer = record { address = a; used = false }; phase = I2cPhases.Rest }

-- SRWD, BP1 and BP0 outlive a loss of power on a part that saves them, and are 0 after it on the others; WEL is lost on all
abbrev pub kept_status : Part → Status → Status
kept_status p st = cond p.saved (with_wel st false) cleared
