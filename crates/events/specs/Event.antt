-- One event of a model whose state and memory passed 1 to 3, and whose bytes passed 4, 5, 6, 10 and 11.
use Rattle.std.specs.Prelude.{ℕ, Bool, false, cond, List, eqb}
use Rattle.parts.specs.declared.answer.Answer.{Answer}
use Rattle.parts.specs.declared.answer.Answer.TheVariants.{HighZ}
use Rattle.parts.specs.declared.part.Part.{Part}
use Rattle.parts.specs.declared.refusal.Refusal.{Refusal}
use Rattle.parts.specs.declared.refusal.Refusal.TheVariants as R
use Rattle.parts.specs.Numbers.{answer_number, refusal_number}
use Rattle.parts.specs.Status.{with_wel}
use Rattle.parts.specs.Table.{part_of}
use Rattle.serial.specs.Write.{applied}
use Rattle.trace.specs.declared.event.Event.{Event}
use Rattle.trace.specs.declared.event.Event.TheVariants.{SpiPowerOn, I2cPowerOn, PowerOff, Sample, Expected}
use Rattle.spi.specs.declared.sample.Spi as SpiState
use Rattle.selection.specs.Flag as SpiFlag
use Rattle.selection.specs.Levels as SpiLevels
use Rattle.spi.specs.Sample as SpiSample
use Rattle.spi.specs.Show as SpiShow
use Rattle.i2c.specs.declared.sample.I2c as I2cState
use Rattle.transfer.specs.Flag as I2cFlag
use Rattle.transfer.specs.Levels as I2cLevels
use Rattle.i2c.specs.Sample as I2cSample
use Rattle.events.specs.Reply.{Reply}
use Rattle.chip.specs.declared.model.BusState.{BusState}
use Rattle.chip.specs.declared.model.BusState.TheVariants.{Unpowered, SpiOn, I2cOn}
use Rattle.chip.specs.declared.model.Model.{Model}
use Rattle.chip.specs.Model.{model_of, unpowered}
use Rattle.power.specs.Power.{spi_start, i2c_start, kept_status}

-- an accepted event that is no sample: its flag is clear
abbrev pub accepted : Answer → Model → Reply
accepted a s = record { number = 0; answer = answer_number a; flag = false; model = s }

-- an accepted sample, flagged or not
abbrev pub sampled : Bool → Answer → Model → Reply
sampled f a s = record { number = 0; answer = answer_number a; flag = f; model = s }

-- a refusal has its number, drives nothing, sets no flag and leaves the state as it was
abbrev pub refused : Refusal → Model → Reply
refused r s = record { number = refusal_number r; answer = 2; flag = false; model = s }

-- what an event gives, and the memory after it
pub record Outcome : Type 0 where
  pub result : Reply
  pub memory : List ℕ

-- with the memory as it was
abbrev pub keeping : List ℕ → Reply → Outcome
keeping m r = record { result = r; memory = m }

-- an expected answer v: if it is the part's answer at present, it is accepted with that answer and changes nothing, else refused
-- with 9
abbrev pub expected : Model → Answer → ℕ → Reply
expected s a v = cond (eqb v (answer_number a)) (accepted a s) (refused R.Unexpected s)

-- power on clears WEL, keeps the saved bits and drives nothing
abbrev pub powered_on : Model → BusState → Reply
powered_on s b = accepted HighZ (model_of s.part s.pins (with_wel s.status false) b)

-- power off drives nothing and leaves what a making with the bits that outlive it gives
abbrev pub powered_off : Part → Model → Reply
powered_off p s = accepted HighZ (unpowered s.part s.pins (kept_status p s.status))

-- without power: power on is accepted, and anything else is refused with 7
abbrev pub on_unpowered : Model → Event → Reply
on_unpowered s (SpiPowerOn x) = powered_on s (SpiOn (spi_start (SpiLevels.levels_of x)))
on_unpowered s (I2cPowerOn x a) = powered_on s (I2cOn (i2c_start (I2cLevels.levels_of x) a))
on_unpowered s PowerOff = refused R.Unpowered s
on_unpowered s (Sample x) = refused R.Unpowered s
on_unpowered s (Expected v) = refused R.Unpowered s

-- an accepted sample: what the bus rules give, with its flag
abbrev pub spi_sampled : Model → List ℕ → Bool → SpiSample.Outcome → Outcome
spi_sampled s m f o =
    record { result = sampled f o.answer (model_of s.part s.pins o.status (SpiOn o.spi)); memory = applied o.write m }

abbrev pub i2c_sampled : Model → List ℕ → Bool → I2cSample.Outcome → Outcome
i2c_sampled s m f o =
    record { result = sampled f o.answer (model_of s.part s.pins s.status (I2cOn o.i2c)); memory = applied o.write m }

-- under power, here on SPI and below on I2C: power on is refused with 8, and an expected answer is held against the present one
abbrev pub on_spi : Part → Model → SpiState.Spi → List ℕ → Event → Outcome
on_spi p s x m (SpiPowerOn v) = keeping m (refused R.Powered s)
on_spi p s x m (I2cPowerOn v a) = keeping m (refused R.Powered s)
on_spi p s x m PowerOff = keeping m (powered_off p s)
on_spi p s x m (Sample v) =
    spi_sampled s m (SpiFlag.flag_of x.last (SpiLevels.levels_of v)) (SpiSample.step_of p s.status x (SpiLevels.levels_of v) m)
on_spi p s x m (Expected v) = keeping m (expected s (SpiShow.answer_at x.last x.shown) v)

abbrev pub on_i2c : Part → Model → I2cState.I2c → List ℕ → Event → Outcome
on_i2c p s x m (SpiPowerOn v) = keeping m (refused R.Powered s)
on_i2c p s x m (I2cPowerOn v a) = keeping m (refused R.Powered s)
on_i2c p s x m PowerOff = keeping m (powered_off p s)
on_i2c p s x m (Sample v) =
    i2c_sampled s m (I2cFlag.flag_of x.phase x.last (I2cLevels.levels_of v)) (I2cSample.step_of p s.pins x (I2cLevels.levels_of v) m)
on_i2c p s x m (Expected v) = keeping m (expected s (I2cSample.answer_of x.pulling) v)

abbrev pub advance_on : BusState → Part → Model → List ℕ → Event → Outcome
advance_on Unpowered p s m e = keeping m (on_unpowered s e)
advance_on (SpiOn x) p s m e = on_spi p s x m e
advance_on (I2cOn x) p s m e = on_i2c p s x m e

-- one event of a state and a memory that passed
unfoldable pub advance_of : Model → List ℕ → Event → Outcome
advance_of s m e = advance_on s.bus (part_of s.part) s m e
