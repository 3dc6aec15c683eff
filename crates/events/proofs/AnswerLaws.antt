-- What an event answers is the number of an answer: 0, 1 or 2. By the cases of bus and event. Assumes nothing.
use Prim.Native.Nat.{ℕ, ◌<◌}
use mathlib.Core.Bool.{Bool, true, false, cond}
use mathlib.Core.List.{List}
use native.Mathlib.Omega.{arith}
use lib.Dec.{eqb}
use Rattle.parts.specs.declared.answer.Answer.{Answer}
use Rattle.parts.specs.declared.answer.Answer.TheVariants.{Low, High, HighZ}
use Rattle.parts.specs.declared.part.Part.{Part}
use Rattle.parts.specs.declared.refusal.Refusal.TheVariants as R
use Rattle.parts.specs.Numbers.{answer_number}
use Rattle.parts.specs.Table.{part_of}
use Rattle.trace.specs.declared.event.Event.{Event}
use Rattle.trace.specs.declared.event.Event.TheVariants.{SpiPowerOn, I2cPowerOn, PowerOff, Sample, Expected}
use Rattle.spi.specs.Show as SpiShow
use Rattle.i2c.specs.Sample as I2cSample
use Rattle.chip.specs.declared.model.BusState.{BusState}
use Rattle.chip.specs.declared.model.BusState.TheVariants.{Unpowered, SpiOn, I2cOn}
use Rattle.chip.specs.declared.model.Model.{Model}
use Rattle.events.specs.Event.{accepted, refused, expected, advance_on, advance_of}

pub number_in : (a : Answer) → answer_number a < 3
number_in Low = omega arith
number_in High = omega arith
number_in HighZ = omega arith

module _ (s : Model) (m : List ℕ) where
  by_answer : (a : Answer) (v : ℕ) → (expected s a v).answer < 3
  by_answer a v = by (eqb v (answer_number a))
    where
      by : (y : Bool) → (cond y (accepted a s) (refused R.Unexpected s)).answer < 3
      by true = number_in a
      by false = omega arith

  by_event : (b : BusState) (p : Part) (e : Event) → (advance_on b p s m e).result.answer < 3
  by_event Unpowered p (SpiPowerOn x) = omega arith
  by_event Unpowered p (I2cPowerOn x a) = omega arith
  by_event Unpowered p PowerOff = omega arith
  by_event Unpowered p (Sample x) = omega arith
  by_event Unpowered p (Expected v) = omega arith
  by_event (SpiOn x) p (SpiPowerOn v) = omega arith
  by_event (SpiOn x) p (I2cPowerOn v a) = omega arith
  by_event (SpiOn x) p PowerOff = omega arith
  by_event (SpiOn x) p (Sample v) = number_in _
  by_event (SpiOn x) p (Expected v) = by_answer (SpiShow.answer_at x.last x.shown) v
  by_event (I2cOn x) p (SpiPowerOn v) = omega arith
  by_event (I2cOn x) p (I2cPowerOn v a) = omega arith
  by_event (I2cOn x) p PowerOff = omega arith
  by_event (I2cOn x) p (Sample v) = number_in _
  by_event (I2cOn x) p (Expected v) = by_answer (I2cSample.answer_of x.pulling) v

  pub answer_in : (e : Event) → (advance_of s m e).result.answer < 3
  unfolding advance_of
  answer_in e = by_event s.bus (part_of s.part) e
