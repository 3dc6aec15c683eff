-- An expected answer that is the present one is accepted and changes nothing. Assumes nothing.
use Prim.Native.Nat.{ℕ, ◌<◌, ◌≤◌}
use mathlib.Core.Path.{◌≡◌, refl, sym, ap, ◌∙◌}
use mathlib.Core.Bool.{true, false}
use mathlib.Core.List.{List}
use Rattle.std.specs.Prelude.{Option, None, Some}
use lib.Dec.{eqb}
use lib.ListN.{length, get_or}
use borrow.Author.Tests.{eq-eqb, le-ltb}
use Rattle.parts.specs.declared.answer.Answer.{Answer}
use Rattle.parts.specs.Numbers.{answer_number}
use Rattle.parts.specs.Table.{part_of}
use Rattle.trace.specs.declared.event.Event.TheVariants.{Expected}
use Rattle.trace.specs.Event.{sample_limit}
use Rattle.trace.specs.Sample.{stays_first}
use Rattle.trace.proofs.SampleLaws.{stays_read}
use Rattle.selection.specs.Levels.{levels_of}
use Rattle.spi.specs.Show.{answer_at}
use Rattle.i2c.specs.Sample.{answer_of}
use Rattle.chip.specs.Check.{Sound}
use Rattle.events.specs.Event.{Outcome, keeping, accepted, expected, advance_of}
use Rattle.runs.proofs.EventLaws.{event_whole}
use Rattle.image_fields.specs.declared.fields.Fields.{Fields}
use Rattle.image_fields.specs.State.{answer_in, fields_of, state_in}
use Rattle.image_fields.proofs.StateLaws.{answer_small}
use Rattle.image.specs.Layout.{fields_in}
use Rattle.image.specs.Taken.{state_of}
use Rattle.image_sample.specs.declared.stepped.Stepped.{Stepped}
use Rattle.image_sample.specs.Stepped.{stepped_by}
use Rattle.image_sample.proofs.FieldLaws.{i2c_same}
use Rattle.image_run.specs.Sampled.{ImageGives, ExpectedGives}

-- what is held: the fields as they are, the value as the answer, no flag
abbrev held_by : Fields → ℕ → Stepped
held_by f v = record { fields = f; answer = v; flag = false }

module _ (f : Fields) (h : fields_of (state_in f) ≡ f) (v : ℕ) (r : Stepped) (e : r ≡ held_by f v) where
  by_answer : (a : Answer) (o : Outcome) (m : List ℕ) → o ≡ keeping m (expected (state_in f) a v) → v ≡ answer_number a
      → (v < 3) × (r ≡ stepped_by o) × (o.memory ≡ m) × (o.result.number ≡ 0)
  by_answer a o m q k =
      let small : v < 3 = rw k (answer_small a) in
      let test : eqb v (answer_number a) ≡ true = eq-eqb v (answer_number a) k in
      let n : o ≡ keeping m (accepted a (state_in f)) = q ∙ rw test in
      (small, e ∙ rw (n, k) (ap (λ (x : Fields). held_by x (answer_number a)) (sym h)), ap (λ (x : Outcome). x.memory) n, ap (λ (x : Outcome). x.result.number) n)

  pub spi_held : f.power ≡ 1 → v ≡ answer_number (answer_at (levels_of f.last) (answer_in f.driven)) → (m : List ℕ) → ExpectedGives f m v (Some r)
  unfolding advance_of
  spi_held p k m = by_answer (answer_at (levels_of f.last) (answer_in f.driven)) (advance_of (state_in f) m (Expected v)) m (rw (eq-eqb f.power 1 p)) k

  -- on I2C the answer is what the part drives
  pub i2c_held : f.power ≡ 2 → v ≡ f.driven → (m : List ℕ) → ExpectedGives f m v (Some r)
  unfolding advance_of
  i2c_held p k m = by_answer (answer_of (eqb f.driven 0)) (advance_of (state_in f) m (Expected v)) m (rw p) (k ∙ sym (i2c_same f h p).driven)

-- an event of two bytes or more, whose first is 5
module _ (b t m : List ℕ) (sound : Sound (state_of b) m) (image : List ℕ) (same : image ≡ b) (f : Fields) (e : f ≡ fields_in image) (l : 2 ≤ length t) (k : get_or t 0 0 ≡ 5) where
  pub expected_told : (r : Option Stepped) → ((m : List ℕ) → ExpectedGives f m (get_or t 1 0) r) → ImageGives b t m r
  expected_told None g = tt
  expected_told (Some r) g =
      let w = rw (e, same) at (g m) in
      let s : stays_first (sample_limit (part_of (state_of b).part).bus) (get_or t 1 0) t ≡ true = rw (le-ltb (length t) 2 l, k, eq-eqb (get_or t 1 0) (get_or t 1 0) refl) in
      let read = stays_read (part_of (state_of b).part) t (get_or t 1 0) w.0 s in
      let event = event_whole (state_of b) m t sound (Expected (get_or t 1 0)) 2 (rw k at read) in
      rw event (w.1, w.2, w.3)
