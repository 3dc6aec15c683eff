-- The events that are taken one by one: all but the samples of a part under power. They store nothing.
use Rattle.std.specs.Prelude.{ℕ, ◌≡◌, List}
use Rattle.parts.specs.declared.answer.Answer.{Answer}
use Rattle.trace.specs.declared.event.Event.{Event}
use Rattle.trace.specs.Sample.{NoSample}
use Rattle.spi.specs.Show as SpiShow
use Rattle.i2c.specs.Sample as I2cSample
use Rattle.events.specs.Reply.{Reply}
use Rattle.chip.specs.declared.model.BusState.{BusState}
use Rattle.chip.specs.declared.model.BusState.TheVariants.{Unpowered, SpiOn, I2cOn}
use Rattle.chip.specs.declared.model.Model.{Model}
use Rattle.events.specs.Event.{keeping, advance_of}

-- no sample, if there is power
abbrev pub OtherThanSample : BusState → Event → Type 0
OtherThanSample Unpowered e = Unit {0}
OtherThanSample (SpiOn x) e = NoSample e
OtherThanSample (I2cOn x) e = NoSample e

-- there is power, and the part answers a at present
abbrev pub Answering : BusState → Answer → Type 0
Answering Unpowered a = ⊥
Answering (SpiOn x) a = SpiShow.answer_at x.last x.shown ≡ a
Answering (I2cOn x) a = I2cSample.answer_of x.pulling ≡ a

-- the event gives r on any memory, and leaves the memory as it is
abbrev pub EventGives : Model → Event → Reply → Type 0
EventGives s e r = (m : List ℕ) → advance_of s m e ≡ keeping m r
