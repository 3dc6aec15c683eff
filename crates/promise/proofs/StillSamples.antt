-- Samples with WP# at one level, on an SPI part that was deselected, or had WP# there too: none is flagged. By induction on the samples.
-- Assumes nothing.
use Prim.Native.Nat.{ℕ}
use mathlib.Core.Path.{◌≡◌, refl, sym, ap, ◌∙◌}
use mathlib.Core.Bool.{Bool, true, false, not, ◌&&◌}
use mathlib.Core.List.{List, [], ◌∷◌, ◌++◌}
use mathlib.Core.Logic.{◌⊎◌, inl, inr, ⊎_elim}
use lib.ListN.{length, replicate}
use Rattle.parts.specs.declared.part.Part.{Part}
use Rattle.parts.specs.Table.{part_of}
use Rattle.serial.specs.Level.{differ}
use Rattle.serial.proofs.LevelLaws.{same_level}
use Rattle.trace.specs.declared.event.Event.TheVariants.{Sample}
use Rattle.selection.specs.declared.levels.Levels.{Levels}
use Rattle.selection.specs.Flag.{flag_of}
use Rattle.selection.specs.Levels.{levels_of}
use Rattle.selection.proofs.LevelLaws.{levels_back}
use Rattle.chip.specs.declared.model.BusState.{BusState}
use Rattle.chip.specs.declared.model.BusState.TheVariants.{Unpowered, SpiOn, I2cOn}
use Rattle.chip.specs.declared.model.Model.{Model}
use Rattle.events.specs.Event.{advance_on, advance_of}
use Rattle.byte_path.specs.PinPath.{sample_of, Pins, sampled, bits_of, last_si}
use Rattle.promise.specs.Selects.{bit_samples, byte_samples, select_samples, sample_events}
use Rattle.promise.proofs.Agrees.{sample_last}
use Rattle.promise.proofs.PinSamples.{AllClear, flags_all}

-- ---- two levels

no_flag : (x y : Bool) → (x && (false && y)) ≡ false
no_flag true y = refl
no_flag false y = refl

-- CS# was 1, or WP# was where it is
not_flagged : (a b : Levels) → (a.cs ≡ true) ⊎ (a.wp ≡ b.wp) → flag_of a b ≡ false
not_flagged a b h =
    ⊎_elim (λ (e : a.cs ≡ true). rw e (no_flag (differ a.wp b.wp) (not b.cs))) (λ (e : a.wp ≡ b.wp). rw (e, same_level b.wp)) h

-- ---- a list of samples

module _ (wp : Bool) where
  abbrev Still : List ℕ → Type 0
  Still [] = Unit {0}
  Still (x ∷ xs) = ((levels_of x).wp ≡ wp) × Still xs

  -- at the sample before
  abbrev pub Before : BusState → Type 0
  Before Unpowered = ⊥
  Before (SpiOn x) = (x.last.cs ≡ true) ⊎ (x.last.wp ≡ wp)
  Before (I2cOn x) = ⊥

  module _ (p : Part) (s : Model) (m : List ℕ) (v : ℕ) (e : (levels_of v).wp ≡ wp) where
    clear_on : (b : BusState) → Before b → (advance_on b p s m (Sample v)).result.flag ≡ false
    clear_on Unpowered h = absurd h
    clear_on (SpiOn x) h = not_flagged x.last (levels_of v) (⊎_elim inl (λ (k : x.last.wp ≡ wp). inr (k ∙ sym e)) h)
    clear_on (I2cOn x) h = absurd h

    before_on : (b : BusState) → Before b → Before (advance_on b p s m (Sample v)).result.model.bus
    before_on Unpowered h = absurd h
    before_on (SpiOn x) h = inr (sym (ap (λ (l : Levels). l.wp) (sample_last p s.status x (levels_of v) m)) ∙ e)
    before_on (I2cOn x) h = absurd h

  pub all_clear : (xs : List ℕ) (a : Pins) → Before a.model.bus → Still xs → AllClear (flags_all a xs)
  unfolding advance_of
  all_clear [] a h k = tt
  all_clear (x ∷ xs) a h (e, k) = (
    clear_on (part_of a.model.part) a.model a.memory x e a.model.bus h,
    all_clear xs (sampled a x) (before_on (part_of a.model.part) a.model a.memory x e a.model.bus h) k,
  )

  -- ---- those of a selection

  still_sample : (cs sck si : Bool) → (levels_of (sample_of cs sck si wp)).wp ≡ wp
  still_sample cs sck si = ap (λ (l : Levels). l.wp) (levels_back cs sck si wp true)

  still_append : (xs ys : List ℕ) → Still xs → Still ys → Still (xs ++ ys)
  still_append [] ys h k = k
  still_append (x ∷ xs) ys (e, h) k = (e, still_append xs ys h k)

  still_bits : (bs : List Bool) → Still (bit_samples wp bs)
  still_bits [] = tt
  still_bits (b ∷ bs) = (still_sample false true b, (still_sample false false b, still_bits bs))

  still_bytes : (vs : List ℕ) → Still (byte_samples wp vs)
  still_bytes [] = tt
  still_bytes (v ∷ vs) = still_append (bit_samples wp (bits_of v)) (byte_samples wp vs) (still_bits (bits_of v)) (still_bytes vs)

  pub still_select : (input : List ℕ) → Still (select_samples wp input)
  still_select input =
      (still_sample false false false, still_append (byte_samples wp input) _ (still_bytes input) (still_sample true false (last_si false input), tt))

-- all clear, written out
pub clear_flags : (xs : List ℕ) (a : Pins) → AllClear (flags_all a xs) → flags_all a xs ≡ replicate (length (sample_events xs)) false
clear_flags [] a h = refl
clear_flags (x ∷ xs) a (e, h) = rw (e, clear_flags xs (sampled a x) h)
