-- What a state and a memory that pass the tests have: a part of the table, its pins, its memory, and a bus ready for the next
-- sample; and that such a state passes. Assumes nothing.
use Prim.Native.Nat.{ℕ, ◌<◌}
use mathlib.Core.Path.{◌≡◌, refl}
use mathlib.Core.Bool.{Bool, true, false, cond, not}
use mathlib.Core.List.{List}
use native.Mathlib.Omega.{arith}
use lib.Dec.{ltb, eqb}
use lib.ListN.{length}
use borrow.Author.Tests.{ltb-true, eqb-true, lt-ltb, eq-eqb}
use Rattle.parts.specs.declared.refusal.Refusal.{Refusal}
use Rattle.parts.specs.declared.refusal.Refusal.TheVariants.{ModelRange, StateRange, MemoryLength}
use Rattle.parts.specs.Table.{is_spi, part_of}
use Rattle.parts.proofs.Rows.{and_both, part_fits}
use Rattle.spi.specs.declared.sample.Spi as SpiState
use Rattle.spi.specs.Sample as SpiSample
use Rattle.selection.proofs.RangeLaws as SpiRanges
use Rattle.i2c.specs.declared.sample.I2c as I2cState
use Rattle.i2c.specs.Sample as I2cSample
use Rattle.transfer.proofs.RangeLaws as I2cRanges
use Rattle.chip.specs.declared.model.BusState.TheVariants.{SpiOn, I2cOn}
use Rattle.chip.specs.declared.model.Model.{Model}
use Rattle.chip.specs.Check.{bits_clear, holds_bits, model_in, bus_in, check_of, Sound, Verdict, Passed, Failed}

-- a test that passed, before others that would have failed with a refusal
passed : (t : Bool) (v : Verdict) (r : Refusal) → cond t v (Failed r) ≡ Passed → (t ≡ true) × (v ≡ Passed)
passed true v r h = (refl, h)
passed false v r h = let z : ◌≡◌ {A = ℕ} 0 1 = cc in absurd (omega arith)

-- ---- number 1

pub record ModelIn (s : Model) : Type 0 where
  pub known : s.part < 5
  pub wired : s.pins < (part_of s.part).pins
  pub bits : cond (holds_bits (part_of s.part) s.bus) true (bits_clear s.status) ≡ true

pub model_in_lem : (s : Model) → model_in s ≡ true → ModelIn s
model_in_lem s h =
    let a = and_both (ltb s.part 5) _ h in
    let b = and_both (ltb s.pins (part_of s.part).pins) _ a.1 in
    record { known = ltb-true s.part 5 a.0; wired = ltb-true s.pins (part_of s.part).pins b.0; bits = b.1 }

pub model_test : (s : Model) → ModelIn s → model_in s ≡ true
model_test s h = simp (lt-ltb s.part 5 h.known, lt-ltb s.pins (part_of s.part).pins h.wired, h.bits)

-- ---- all three

pub record SoundIn (s : Model) (m : List ℕ) : Type 0 where
  pub model : ModelIn s
  pub bus : bus_in (part_of s.part) s.status s.bus ≡ true
  pub sized : length m ≡ (part_of s.part).size

pub sound_in : (s : Model) (m : List ℕ) → Sound s m → SoundIn s m
unfolding check_of
sound_in s m h =
    let a = passed (model_in s) _ ModelRange h in
    let b = passed (bus_in (part_of s.part) s.status s.bus) _ StateRange a.1 in
    let c = passed (eqb (length m) (part_of s.part).size) Passed MemoryLength b.1 in
    record { model = model_in_lem s a.0; bus = b.0; sized = eqb-true (length m) (part_of s.part).size c.0 }

pub sound_test : (s : Model) (m : List ℕ) → SoundIn s m → Sound s m
unfolding check_of
sound_test s m h = simp (model_test s h.model, h.bus, eq-eqb (length m) (part_of s.part).size h.sized)

-- ---- a bus that is ready

pub spi_ready : (s : Model) (x : SpiState.Spi) (m : List ℕ) → s.bus ≡ SpiOn x → SoundIn s m → SpiSample.Ready (part_of s.part) x m
spi_ready s x m e h =
    let t = and_both (is_spi (part_of s.part).bus) _ (rw e at h.bus) in
    record { fit = part_fits s.part h.model.known; inside = SpiRanges.phase_in_lem (part_of s.part) x.phase t.1; sized = h.sized }

pub i2c_ready : (s : Model) (x : I2cState.I2c) (m : List ℕ) → s.bus ≡ I2cOn x → SoundIn s m → I2cSample.Ready (part_of s.part) s.pins x m
i2c_ready s x m e h =
    let t = and_both (not (is_spi (part_of s.part).bus)) _ (rw e at h.bus) in
    let u = and_both (not s.status.wel) _ t.1 in
    let v = and_both (ltb x.buffer.address (part_of s.part).size) _ u.1 in
    record {
      placed = record {
        fit = part_fits s.part h.model.known;
        wired = h.model.wired;
        buffered = ltb-true x.buffer.address (part_of s.part).size v.0;
      };
      inside = I2cRanges.phase_in_lem (part_of s.part) x.phase v.1;
      sized = h.sized;
    }
