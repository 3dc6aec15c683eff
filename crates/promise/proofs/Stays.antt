-- What an event of any bytes leaves as it is: part and pins always, state and memory if it is refused, memory if it is a cut; and
-- that an accepted one was read whole. From what an event that was read leaves. Assumes nothing.
use Prim.Native.Nat.{ℕ}
use mathlib.Core.Path.{◌≡◌, refl, sym, ◌∙◌}
use mathlib.Core.Bool.{true, false, false≢true}
use mathlib.Core.List.{List}
use lib.Dec.{eqb}
use lib.ListN.{length}
use borrow.Author.Tests.{eqb-true}
use Rattle.parts.specs.declared.part.Part.{Part}
use Rattle.parts.specs.Table.{part_of}
use Rattle.parts.proofs.NumberLaws.{refusal_counts}
use Rattle.trace.specs.declared.event.Event.{Event}
use Rattle.trace.specs.declared.event.Event.TheVariants.{PowerOff}
use Rattle.trace.specs.Read.{read_of, Read, Whole, Refused}
use Rattle.chip.specs.declared.model.BusState.{BusState}
use Rattle.chip.specs.declared.model.BusState.TheVariants.{Unpowered, SpiOn, I2cOn}
use Rattle.chip.specs.declared.model.Model.{Model}
use Rattle.chip.specs.Check.{check_of, Verdict, Passed, Failed}
use Rattle.chip.proofs.CheckLaws.{sound_in}
use Rattle.events.specs.Event.{advance_on, advance_of}
use Rattle.runs.specs.Event.{on_read, event_on_verdict, event_of}
use Rattle.runs.proofs.EventLaws.{accepted_sound}
use Rattle.promise.specs.Promise.{cut}

module _ (s : Model) (m : List ℕ) where
  -- an event is accepted only if the bytes hold a whole one, so every accepted event is fed
  pub accepted_whole : (t : List ℕ) → eqb (event_of s m t).result.number 0 ≡ true → (e : Event) × (n : ℕ) × read_of (part_of s.part) t ≡ Whole e n
  unfolding event_of
  accepted_whole t = by (check_of s (length m))
    where
      by_read : (r : Read) → read_of (part_of s.part) t ≡ r → eqb (on_read r s m).result.number 0 ≡ true
          → (e : Event) × (n : ℕ) × read_of (part_of s.part) t ≡ Whole e n
      by_read (Whole e n) q h = (e, n, q)
      by_read (Refused r place) q h = absurd (false≢true (sym (refusal_counts r) ∙ h))

      by : (v : Verdict) → eqb (event_on_verdict v s m t).result.number 0 ≡ true → (e : Event) × (n : ℕ) × read_of (part_of s.part) t ≡ Whole e n
      by Passed h = by_read (read_of (part_of s.part) t) refl h
      by (Failed r) h = absurd (false≢true (sym (refusal_counts r) ∙ h))

  -- and only if the memory has the part's size
  pub accepted_sized : (t : List ℕ) → eqb (event_of s m t).result.number 0 ≡ true → length m ≡ (part_of s.part).size
  accepted_sized t h = (sound_in s m (accepted_sound s m t (eqb-true _ _ h))).sized

  -- ---- a cut

  off_memory : (b : BusState) (p : Part) → (advance_on b p s m PowerOff).memory ≡ m
  off_memory Unpowered p = refl
  off_memory (SpiOn x) p = refl
  off_memory (I2cOn x) p = refl

  -- a cut changes no byte
  pub cut_memory_lem : (event_of s m cut).memory ≡ m
  unfolding event_of read_of advance_of
  cut_memory_lem = by (check_of s (length m))
    where
      by : (v : Verdict) → (event_on_verdict v s m cut).memory ≡ m
      by Passed = off_memory s.bus (part_of s.part)
      by (Failed r) = refl

  -- without power a cut is refused, and changes nothing
  pub cut_refused : s.bus ≡ Unpowered
      → (eqb (event_of s m cut).result.number 0 ≡ false) × ((event_of s m cut).result.model ≡ s) × ((event_of s m cut).memory ≡ m)
  unfolding event_of read_of advance_of
  cut_refused e = by (check_of s (length m))
    where
      by : (v : Verdict)
          → (eqb (event_on_verdict v s m cut).result.number 0 ≡ false) × ((event_on_verdict v s m cut).result.model ≡ s) × ((event_on_verdict v s m cut).memory ≡ m)
      by Passed = rw e (refl, refl, refl)
      by (Failed r) = (refusal_counts r, refl, refl)
