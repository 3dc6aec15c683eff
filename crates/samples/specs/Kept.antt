-- What the loop knows of the state of a bus as it is kept: the sample before, the present answer, and what one sample gives.
use Rattle.std.specs.Prelude.{ℕ, ◌≡◌, Bool, List}
use Rattle.parts.specs.Numbers.{answer_number}
use Rattle.selection.specs.Levels as SpiLevels
use Rattle.spi.specs.Show as SpiShow
use Rattle.transfer.specs.Levels as I2cLevels
use Rattle.i2c.specs.Sample as I2cSample
use Rattle.chip.specs.declared.model.BusState.{BusState}
use Rattle.chip.specs.declared.model.BusState.TheVariants.{Unpowered, SpiOn, I2cOn}
use Rattle.chip.specs.declared.model.Model.{Model}
use Rattle.events.specs.Event.{Outcome}

-- the present answer of a bus under power
abbrev pub present : BusState → ℕ
present Unpowered = 2
present (SpiOn x) = answer_number (SpiShow.answer_at x.last x.shown)
present (I2cOn x) = answer_number (I2cSample.answer_of x.pulling)

-- the sample x has the levels that a bus under power saw last
abbrev pub LastOn : BusState → ℕ → Type 0
LastOn Unpowered x = ⊥
LastOn (SpiOn b) x = b.last ≡ SpiLevels.levels_of x
LastOn (I2cOn b) x = b.last ≡ I2cLevels.levels_of x

-- an accepted sample, flagged or not, that leaves this state and this memory: its answer is the present one then
abbrev pub left_by : Bool → Model → List ℕ → Outcome
left_by f s m = record { result = record { number = 0; answer = present s.bus; flag = f; model = s }; memory = m }
