-- An event that is no sample under power gives the same on any memory, leaves it, and sets no flag. By the cases of bus and event. Assumes
-- nothing.
use Prim.Native.Nat.{ℕ}
use mathlib.Core.Logic.{◌⊎◌, inl, inr}
use mathlib.Core.Path.{◌≡◌, refl, ap}
use mathlib.Core.Bool.{Bool, true, false, cond}
use mathlib.Core.List.{List}
use lib.Dec.{eqb}
use Rattle.parts.specs.declared.answer.Answer.{Answer}
use Rattle.parts.specs.declared.part.Part.{Part}
use Rattle.parts.specs.declared.refusal.Refusal.TheVariants as R
use Rattle.parts.specs.Numbers.{answer_number}
use Rattle.parts.specs.Table.{part_of}
use Rattle.trace.specs.declared.event.Event.{Event}
use Rattle.trace.specs.declared.event.Event.TheVariants.{SpiPowerOn, I2cPowerOn, PowerOff, Sample, Expected}
use Rattle.trace.specs.Sample.{NoSample}
use Rattle.spi.specs.Show as SpiShow
use Rattle.i2c.specs.Sample as I2cSample
use Rattle.events.specs.Reply.{Reply}
use Rattle.chip.specs.declared.model.BusState.{BusState}
use Rattle.chip.specs.declared.model.BusState.TheVariants.{Unpowered, SpiOn, I2cOn}
use Rattle.chip.specs.declared.model.Model.{Model}
use Rattle.events.specs.OtherEvent.{OtherThanSample, Answering, EventGives}
use Rattle.events.specs.Event.{Outcome, accepted, refused, expected, powered_off, on_unpowered, advance_on, advance_of}

-- ---- what such an event gives

-- under power, with this answer at present
module _ (s : Model) (a : Answer) where
  pub gives_spi_on : (b : BusState) → s.bus ≡ b → Answering b a → (x : ℕ) → EventGives s (SpiPowerOn x) (refused R.Powered s)
  unfolding advance_of
  gives_spi_on Unpowered k h x m = absurd h
  gives_spi_on (SpiOn y) k h x m = rw k
  gives_spi_on (I2cOn y) k h x m = rw k

  pub gives_i2c_on : (b : BusState) → s.bus ≡ b → Answering b a → (x start : ℕ) → EventGives s (I2cPowerOn x start) (refused R.Powered s)
  unfolding advance_of
  gives_i2c_on Unpowered k h x start m = absurd h
  gives_i2c_on (SpiOn y) k h x start m = rw k
  gives_i2c_on (I2cOn y) k h x start m = rw k

  -- the power on of either bus, as the code tells it from other events
  pub gives_on : Answering s.bus a → (e : Event) → ((x : ℕ) × (e ≡ SpiPowerOn x)) ⊎ ((x : ℕ) × (start : ℕ) × (e ≡ I2cPowerOn x start))
      → EventGives s e (refused R.Powered s)
  gives_on h e (inl q) = rw q.1 (gives_spi_on s.bus refl h q.0)
  gives_on h e (inr q) = rw q.2 (gives_i2c_on s.bus refl h q.0 q.1)

  pub gives_off : (b : BusState) → s.bus ≡ b → Answering b a → EventGives s PowerOff (powered_off (part_of s.part) s)
  unfolding advance_of
  gives_off Unpowered k h m = absurd h
  gives_off (SpiOn y) k h m = rw k
  gives_off (I2cOn y) k h m = rw k

  pub gives_expected : (b : BusState) → s.bus ≡ b → Answering b a → (v : ℕ) → EventGives s (Expected v) (expected s a v)
  unfolding advance_of
  gives_expected Unpowered k h v m = absurd h
  gives_expected (SpiOn y) k h v m = rw (k, h)
  gives_expected (I2cOn y) k h v m = rw (k, h)

pub gives_unpowered : (s : Model) (e : Event) → s.bus ≡ Unpowered → EventGives s e (on_unpowered s e)
unfolding advance_of
gives_unpowered s e k m = rw k

-- ---- so it leaves the memory

gives_powered : (s : Model) (a : Answer) (b : BusState) → s.bus ≡ b → Answering b a → (e : Event) → NoSample e → (r : Reply) × EventGives s e r
gives_powered s a b k h (SpiPowerOn x) n = (_, gives_spi_on s a b k h x)
gives_powered s a b k h (I2cPowerOn x start) n = (_, gives_i2c_on s a b k h x start)
gives_powered s a b k h PowerOff n = (_, gives_off s a b k h)
gives_powered s a b k h (Sample x) n = absurd n
gives_powered s a b k h (Expected v) n = (_, gives_expected s a b k h v)

gives : (b : BusState) (s : Model) (e : Event) → s.bus ≡ b → OtherThanSample b e → (r : Reply) × EventGives s e r
gives Unpowered s e k n = (_, gives_unpowered s e k)
gives (SpiOn x) s e k n = gives_powered s _ (SpiOn x) k refl e n
gives (I2cOn x) s e k n = gives_powered s _ (I2cOn x) k refl e n

pub other_keeps : (s : Model) (m : List ℕ) (e : Event) → OtherThanSample s.bus e → (advance_of s m e).memory ≡ m
other_keeps s m e n = ap (λ (o : Outcome). o.memory) ((gives s.bus s e refl n).1 m)

-- ---- and its flag is clear

pub expected_clear : (s : Model) (a : Answer) (v : ℕ) → (expected s a v).flag ≡ false
expected_clear s a v = by (eqb v (answer_number a))
  where
    by : (y : Bool) → (cond y (accepted a s) (refused R.Unexpected s)).flag ≡ false
    by true = refl
    by false = refl

clear_on : (b : BusState) (p : Part) (s : Model) (m : List ℕ) (e : Event) → OtherThanSample b e → (advance_on b p s m e).result.flag ≡ false
clear_on Unpowered p s m (SpiPowerOn x) n = refl
clear_on Unpowered p s m (I2cPowerOn x a) n = refl
clear_on Unpowered p s m PowerOff n = refl
clear_on Unpowered p s m (Sample x) n = refl
clear_on Unpowered p s m (Expected v) n = refl
clear_on (SpiOn y) p s m (SpiPowerOn x) n = refl
clear_on (SpiOn y) p s m (I2cPowerOn x a) n = refl
clear_on (SpiOn y) p s m PowerOff n = refl
clear_on (SpiOn y) p s m (Sample x) n = absurd n
clear_on (SpiOn y) p s m (Expected v) n = expected_clear s (SpiShow.answer_at y.last y.shown) v
clear_on (I2cOn y) p s m (SpiPowerOn x) n = refl
clear_on (I2cOn y) p s m (I2cPowerOn x a) n = refl
clear_on (I2cOn y) p s m PowerOff n = refl
clear_on (I2cOn y) p s m (Sample x) n = absurd n
clear_on (I2cOn y) p s m (Expected v) n = expected_clear s (I2cSample.answer_of y.pulling) v

pub other_clear : (s : Model) (m : List ℕ) (e : Event) → OtherThanSample s.bus e → (advance_of s m e).result.flag ≡ false
unfolding advance_of
other_clear s m e n = clear_on s.bus (part_of s.part) s m e n
