-- What one event does: it is refused with 7, 8 or 9, answers 2, sets no flag and changes nothing, or it is accepted and keeps part and pins. By the
-- cases of bus and event. Assumes nothing.
use Prim.Native.Nat.{ℕ, ◌≤◌}
use mathlib.Core.Path.{◌≡◌, refl}
use mathlib.Core.Bool.{Bool, true, false, cond}
use mathlib.Core.List.{List}
use native.Mathlib.Omega.{arith}
use lib.Dec.{eqb}
use Rattle.parts.specs.declared.answer.Answer.{Answer}
use Rattle.parts.specs.declared.part.Part.{Part}
use Rattle.parts.specs.declared.refusal.Refusal.TheVariants as R
use Rattle.parts.specs.Numbers.{answer_number}
use Rattle.parts.specs.Table.{part_of}
use Rattle.trace.specs.declared.event.Event.{Event}
use Rattle.trace.specs.declared.event.Event.TheVariants.{SpiPowerOn, I2cPowerOn, PowerOff, Sample, Expected}
use Rattle.spi.specs.Show as SpiShow
use Rattle.i2c.specs.Sample as I2cSample
use Rattle.chip.specs.declared.model.BusState.{BusState}
use Rattle.chip.specs.declared.model.BusState.TheVariants.{Unpowered, SpiOn, I2cOn}
use Rattle.chip.specs.declared.model.Model.{Model}
use Rattle.events.specs.Event.{Outcome, keeping, accepted, refused, expected, advance_on, advance_of}

-- what an event on the state s and the memory m gives
pub data Done (s : Model) (m : List ℕ) : Outcome → Type 0 where
  refused_with_lem : (n : ℕ) → 7 ≤ n → n ≤ 9 → Done s m (keeping m (record { number = n; answer = 2; flag = false; model = s }))
  accepted_as : (a : ℕ) (f : Bool) (after : Model) (left : List ℕ) → after.part ≡ s.part → after.pins ≡ s.pins
      → Done s m (keeping left (record { number = 0; answer = a; flag = f; model = after }))

module _ (s : Model) (m : List ℕ) where
  unpowered : Done s m (keeping m (refused R.Unpowered s))
  unpowered = refused_with_lem 7 (omega arith) (omega arith)

  powered : Done s m (keeping m (refused R.Powered s))
  powered = refused_with_lem 8 (omega arith) (omega arith)

  by_answer : (a : Answer) (v : ℕ) → Done s m (keeping m (expected s a v))
  by_answer a v = by (eqb v (answer_number a))
    where
      by : (y : Bool) → Done s m (keeping m (cond y (accepted a s) (refused R.Unexpected s)))
      by true = accepted_as _ _ _ _ refl refl
      by false = refused_with_lem 9 (omega arith) (omega arith)

  by_event_lem : (b : BusState) (p : Part) (e : Event) → Done s m (advance_on b p s m e)
  by_event_lem Unpowered p (SpiPowerOn x) = accepted_as _ _ _ _ refl refl
  by_event_lem Unpowered p (I2cPowerOn x a) = accepted_as _ _ _ _ refl refl
  by_event_lem Unpowered p PowerOff = unpowered
  by_event_lem Unpowered p (Sample x) = unpowered
  by_event_lem Unpowered p (Expected v) = unpowered
  by_event_lem (SpiOn x) p (SpiPowerOn v) = powered
  by_event_lem (SpiOn x) p (I2cPowerOn v a) = powered
  by_event_lem (SpiOn x) p PowerOff = accepted_as _ _ _ _ refl refl
  by_event_lem (SpiOn x) p (Sample v) = accepted_as _ _ _ _ refl refl
  by_event_lem (SpiOn x) p (Expected v) = by_answer (SpiShow.answer_at x.last x.shown) v
  by_event_lem (I2cOn x) p (SpiPowerOn v) = powered
  by_event_lem (I2cOn x) p (I2cPowerOn v a) = powered
  by_event_lem (I2cOn x) p PowerOff = accepted_as _ _ _ _ refl refl
  by_event_lem (I2cOn x) p (Sample v) = accepted_as _ _ _ _ refl refl
  by_event_lem (I2cOn x) p (Expected v) = by_answer (I2cSample.answer_of x.pulling) v

  pub done : (e : Event) → Done s m (advance_of s m e)
  unfolding advance_of
  done e = by_event_lem s.bus (part_of s.part) e
