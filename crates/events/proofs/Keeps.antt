-- An event that suits the part keeps the tests passed: after it the state is in range and the memory has the part's size, for
-- every part of the table. Part and pins stay. Assumes nothing.
use Prim.Native.Nat.{ℕ}
use mathlib.Core.Path.{◌≡◌, refl}
use mathlib.Core.Bool.{Bool, true, false, cond, not}
use mathlib.Core.List.{List}
use lib.Dec.{eqb}
use borrow.Author.Tests.{lt-ltb}
use Rattle.parts.specs.declared.answer.Answer.{Answer}
use Rattle.parts.specs.declared.part.Part.{Part}
use Rattle.parts.specs.declared.refusal.Refusal.TheVariants as R
use Rattle.parts.specs.declared.status.Status.{Status}
use Rattle.parts.specs.Numbers.{answer_number}
use Rattle.parts.specs.Table.{is_spi, part_of}
use Rattle.parts.proofs.Rows.{and_both}
use Rattle.trace.specs.declared.event.Event.{Event}
use Rattle.trace.specs.declared.event.Event.TheVariants.{SpiPowerOn, I2cPowerOn, PowerOff, Sample, Expected}
use Rattle.trace.proofs.SuitLaws.{Suits}
use Rattle.spi.specs.declared.sample.Spi as SpiState
use Rattle.selection.specs.declared.levels.Levels as SpiLevel
use Rattle.selection.specs.Levels as SpiLevels
use Rattle.spi.specs.Sample as SpiSample
use Rattle.spi.specs.Show as SpiShow
use Rattle.spi.proofs.Keeps as SpiKeeps
use Rattle.selection.specs.Ranges as SpiTests
use Rattle.selection.proofs.RangeLaws as SpiRanges
use Rattle.i2c.specs.declared.sample.I2c as I2cState
use Rattle.transfer.specs.declared.levels.Levels as I2cLevel
use Rattle.transfer.specs.Levels as I2cLevels
use Rattle.i2c.specs.Sample as I2cSample
use Rattle.i2c.proofs.Keeps as I2cKeeps
use Rattle.transfer.proofs.RangeLaws as I2cRanges
use Rattle.chip.specs.declared.model.BusState.{BusState}
use Rattle.chip.specs.declared.model.BusState.TheVariants.{Unpowered, SpiOn, I2cOn}
use Rattle.chip.specs.declared.model.Model.{Model}
use Rattle.chip.specs.Check.{bits_clear, Sound}
use Rattle.events.specs.Event.{accepted, refused, expected, on_unpowered, on_spi, on_i2c, advance_on, advance_of}
use Rattle.chip.specs.Model.{model_of, unpowered}
use Rattle.power.specs.Power.{at_power, kept_status}
use Rattle.chip.proofs.CheckLaws.{SoundIn, sound_in, sound_test, spi_ready, i2c_ready}

-- bits under power: of an SPI part any, of another those that it had without power
spi_bits : (saved spi none : Bool) → spi ≡ true → cond (cond saved true spi) true none ≡ true
spi_bits true spi none h = refl
spi_bits false spi none h = rw h

i2c_bits : (saved spi none : Bool) → spi ≡ false → cond saved true none ≡ true → cond (cond saved true spi) true none ≡ true
i2c_bits true spi none e h = refl
i2c_bits false spi none e h = rw e h

-- what is left of the register at power off is what the part may hold without power
kept_bits_lem : (y : Bool) (st : Status) (p : Part) → p.saved ≡ y → cond y true (bits_clear (kept_status p st)) ≡ true
kept_bits_lem true st p e = refl
kept_bits_lem false st p e = rw e

kept_wel : (y : Bool) (p : Part) (st : Status) → p.saved ≡ y → not (kept_status p st).wel ≡ true
kept_wel true p st e = rw e
kept_wel false p st e = rw e

module _ (part pins : ℕ) (st : Status) (m : List ℕ) where
  -- ---- power off, from any bus
  off_in : (b : BusState) → SoundIn (model_of part pins st b) m → SoundIn (unpowered part pins (kept_status (part_of part) st)) m
  off_in b h =
      record {
        model = record {
          known = h.model.known;
          wired = h.model.wired;
          bits = kept_bits_lem (part_of part).saved st (part_of part) refl;
        };
        bus = kept_wel (part_of part).saved (part_of part) st refl;
        sized = h.sized;
      }

  -- ---- an expected answer changes nothing
  expected_in_lem : (b : BusState) (a : Answer) (v : ℕ) → SoundIn (model_of part pins st b) m → SoundIn (expected (model_of part pins st b) a v).model m
  expected_in_lem b a v h = by (eqb v (answer_number a))
    where
      by : (y : Bool) → SoundIn (cond y (accepted a (model_of part pins st b)) (refused R.Unexpected (model_of part pins st b))).model m
      by true = h
      by false = h

  -- ---- power on
  at_power_lem : (c : Bool) → SpiTests.phase_in (part_of part) (at_power c) ≡ true
  at_power_lem true = refl
  at_power_lem false = refl

  unpowered_in : (e : Event) → SoundIn (model_of part pins st Unpowered) m → Suits (part_of part) e
      → SoundIn (on_unpowered (model_of part pins st Unpowered) e).model m
  unpowered_in (SpiPowerOn x) h u =
      record {
        model = record { known = h.model.known; wired = h.model.wired; bits = spi_bits (part_of part).saved _ _ u };
        bus = rw u (at_power_lem (SpiLevels.levels_of x).cs);
        sized = h.sized;
      }
  unpowered_in (I2cPowerOn x a) h u =
      record {
        model = record { known = h.model.known; wired = h.model.wired; bits = i2c_bits (part_of part).saved _ _ u.0 h.model.bits };
        bus = rw (u.0, lt-ltb a (part_of part).size u.1);
        sized = h.sized;
      }
  unpowered_in PowerOff h u = h
  unpowered_in (Sample x) h u = h
  unpowered_in (Expected v) h u = h

  -- ---- an SPI part under power
  spi_in_lem : (x : SpiState.Spi) (e : Event) → SoundIn (model_of part pins st (SpiOn x)) m
      → SoundIn (on_spi (part_of part) (model_of part pins st (SpiOn x)) x m e).result.model (on_spi (part_of part) (model_of part pins st (SpiOn x)) x m e).memory
  spi_in_lem x (SpiPowerOn v) h = h
  spi_in_lem x (I2cPowerOn v a) h = h
  spi_in_lem x PowerOff h = off_in (SpiOn x) h
  spi_in_lem x (Sample v) h =
      let l : SpiLevel.Levels = SpiLevels.levels_of v in
      let spi = and_both (is_spi (part_of part).bus) _ h.bus in
      let r = SpiKeeps.keeps (part_of part) st x l m (spi_ready (model_of part pins st (SpiOn x)) x m refl h) in
      record {
        model = record { known = h.model.known; wired = h.model.wired; bits = spi_bits (part_of part).saved _ _ spi.0 };
        bus = rw spi.0 (SpiRanges.phase_test (part_of part) (SpiSample.step_of (part_of part) st x l m).spi.phase r.inside);
        sized = r.sized;
      }
  spi_in_lem x (Expected v) h = expected_in_lem (SpiOn x) (SpiShow.answer_at x.last x.shown) v h

  -- ---- an I2C part under power
  i2c_in_lem : (x : I2cState.I2c) (e : Event) → SoundIn (model_of part pins st (I2cOn x)) m
      → SoundIn (on_i2c (part_of part) (model_of part pins st (I2cOn x)) x m e).result.model (on_i2c (part_of part) (model_of part pins st (I2cOn x)) x m e).memory
  i2c_in_lem x (SpiPowerOn v) h = h
  i2c_in_lem x (I2cPowerOn v a) h = h
  i2c_in_lem x PowerOff h = off_in (I2cOn x) h
  i2c_in_lem x (Sample v) h =
      let l : I2cLevel.Levels = I2cLevels.levels_of v in
      let i2c = and_both (not (is_spi (part_of part).bus)) _ h.bus in
      let wel = and_both (not st.wel) _ i2c.1 in
      let r = I2cKeeps.keeps (part_of part) pins x l m (i2c_ready (model_of part pins st (I2cOn x)) x m refl h) in
      record {
        model = record { known = h.model.known; wired = h.model.wired; bits = h.model.bits };
        bus = rw (i2c.0, wel.0, lt-ltb _ _ r.placed.buffered) (I2cRanges.phase_test (part_of part) (I2cSample.step_of (part_of part) pins x l m).i2c.phase r.inside);
        sized = r.sized;
      }
  i2c_in_lem x (Expected v) h = expected_in_lem (I2cOn x) (I2cSample.answer_of x.pulling) v h

  on_in : (b : BusState) (e : Event) → SoundIn (model_of part pins st b) m → Suits (part_of part) e
      → SoundIn (advance_on b (part_of part) (model_of part pins st b) m e).result.model (advance_on b (part_of part) (model_of part pins st b) m e).memory
  on_in Unpowered e h u = unpowered_in e h u
  on_in (SpiOn x) e h u = spi_in_lem x e h
  on_in (I2cOn x) e h u = i2c_in_lem x e h

-- a state in range stays in range
pub keeps : (s : Model) (m : List ℕ) (e : Event) → Sound s m → Suits (part_of s.part) e
    → Sound (advance_of s m e).result.model (advance_of s m e).memory
unfolding advance_of
keeps s m e h u =
    sound_test (advance_on s.bus (part_of s.part) s m e).result.model (advance_on s.bus (part_of s.part) s m e).memory
    (on_in s.part s.pins s.status m s.bus e (sound_in s m h) u)
