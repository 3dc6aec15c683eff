-- The state of a model: part, address pins, the status register with the saved bits, and the bus, which is off or in a phase.
use Rattle.std.specs.Prelude.{ℕ}
use Rattle.parts.specs.declared.status.Status.{Status}
use Rattle.chip.specs.declared.model.BusState.{BusState}
use Rattle.chip.specs.declared.model.BusState.TheVariants.{Unpowered}
use Rattle.chip.specs.declared.model.Model.{Model}

abbrev pub model_of : ℕ → ℕ → Status → BusState → Model
model_of part pins st b = record { part = part; pins = pins; status = st; bus = b }

-- without power, as a making and a power off leave it
abbrev pub unpowered : ℕ → ℕ → Status → Model
unpowered part pins st = model_of part pins st Unpowered
