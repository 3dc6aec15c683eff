-- Which event comes next, on a state that passed the tests: a sample or an expected answer that is read and accepted, or another
-- event. Assumes nothing.
use Prim.Native.Nat.{ℕ, ◌<◌}
use mathlib.Core.Path.{◌≡◌, refl, sym, ◌∙◌}
use mathlib.Core.Bool.{Bool, true, false, not}
use mathlib.Core.List.{List}
use mathlib.Core.Logic.{◌⊎◌, inl, inr, ⊎_elim}
use native.Mathlib.Omega.{arith}
use lib.ListN.{get_or}
use borrow.Author.Tests.{not-true, eq-eqb}
use Rattle.parts.specs.declared.answer.Answer.{Answer}
use Rattle.parts.specs.declared.answer.Answer.TheVariants.{Low, High, HighZ}
use Rattle.parts.specs.declared.part.Bus.{Bus}
use Rattle.parts.specs.declared.part.Bus.TheVariants.{Spi, I2c}
use Rattle.parts.specs.Numbers.{answer_number}
use Rattle.parts.specs.Table.{is_spi, part_of}
use Rattle.parts.proofs.Rows.{and_both}
use Rattle.trace.specs.declared.event.Event.{Event}
use Rattle.trace.specs.declared.event.Event.TheVariants.{Sample, Expected}
use Rattle.trace.specs.Event.{sample_limit}
use Rattle.trace.specs.Read.{read_of, Whole}
use Rattle.trace.specs.Sample.{stays_first, first_event}
use Rattle.trace.proofs.SampleLaws.{stays_which, stays_none, stays_read, no_sample_lem}
use Rattle.spi.specs.Show as SpiShow
use Rattle.i2c.specs.Sample as I2cSample
use Rattle.chip.specs.declared.model.BusState.{BusState}
use Rattle.chip.specs.declared.model.BusState.TheVariants.{Unpowered, SpiOn, I2cOn}
use Rattle.chip.specs.declared.model.Model.{Model}
use Rattle.events.specs.OtherEvent.{OtherThanSample}
use Rattle.events.specs.Event.{advance_of}
use Rattle.chip.specs.Check.{Sound}
use Rattle.chip.proofs.CheckLaws.{sound_in}
use Rattle.samples.specs.Kept.{present}
use Rattle.samples.specs.Samples.{stays_on, first_done}

pub limit_spi : (b : Bus) → is_spi b ≡ true → sample_limit b ≡ 32
limit_spi Spi h = refl
limit_spi I2c h = let z : ◌≡◌ {A = ℕ} 0 1 = cc in absurd (omega arith)

pub limit_i2c : (b : Bus) → is_spi b ≡ false → sample_limit b ≡ 8
limit_i2c I2c h = refl
limit_i2c Spi h = let z : ◌≡◌ {A = ℕ} 0 1 = cc in absurd (omega arith)

-- an answer's number is in range
answer_small : (a : Answer) → answer_number a < 3
answer_small Low = omega arith
answer_small High = omega arith
answer_small HighZ = omega arith

present_small : (b : BusState) → present b < 3
present_small Unpowered = omega arith
present_small (SpiOn x) = answer_small (SpiShow.answer_at x.last x.shown)
present_small (I2cOn x) = answer_small (I2cSample.answer_of x.pulling)

-- which of the two the next event is
pub next_which : (b : BusState) (t : List ℕ) → stays_on b t ≡ true → (first_event t ≡ Sample (get_or t 1 0)) ⊎ (first_event t ≡ Expected (present b))
next_which Unpowered t n = let k : ◌≡◌ {A = ℕ} 0 1 = cc in absurd (omega arith)
next_which (SpiOn x) t n = ⊎_elim (λ w. inl w.1) (λ w. inr w.1) (stays_which 32 (present (SpiOn x)) t n)
next_which (I2cOn x) t n = ⊎_elim (λ w. inl w.1) (λ w. inr w.1) (stays_which 8 (present (I2cOn x)) t n)

module _ (s : Model) (m : List ℕ) (sound : Sound s m) where
  -- under power the limit of the samples is that of the part
  first_next : (b : BusState) → s.bus ≡ b → (t : List ℕ) → (b ≡ Unpowered → ⊥) → stays_on b t ≡ stays_first (sample_limit (part_of s.part).bus) (present b) t
  first_next Unpowered e t n = absurd (n refl)
  first_next (SpiOn x) e t n =
      let h = and_both (is_spi (part_of s.part).bus) _ (rw e at (sound_in s m sound).bus) in
      rw (limit_spi (part_of s.part).bus h.0)
  first_next (I2cOn x) e t n =
      let h = and_both (not (is_spi (part_of s.part).bus)) _ (rw e at (sound_in s m sound).bus) in
      rw (limit_i2c (part_of s.part).bus (not-true (is_spi (part_of s.part).bus) h.0))

  -- such an event is read
  pub next_read : (t : List ℕ) → stays_on s.bus t ≡ true → read_of (part_of s.part) t ≡ Whole (first_event t) 2
  next_read t n = stays_read (part_of s.part) t (present s.bus) (present_small s.bus) (sym (first_next s.bus refl t powered) ∙ n)
    where
      powered : s.bus ≡ Unpowered → ⊥
      powered e = let o : ◌≡◌ {A = Bool} false true = rw e at n in let k : ◌≡◌ {A = ℕ} 0 1 = cc in omega arith

  -- any other event is no sample under power
  other_by_lem : (b : BusState) → s.bus ≡ b → (t : List ℕ) (e : Event) (n : ℕ) → stays_on b t ≡ false → read_of (part_of s.part) t ≡ Whole e n → OtherThanSample b e
  other_by_lem Unpowered k t e n z r = tt
  other_by_lem (SpiOn x) k t e n z r =
      no_sample_lem (part_of s.part) t e n (stays_none _ (present (SpiOn x)) t (sym (first_next (SpiOn x) k t (λ u. let k : ◌≡◌ {A = ℕ} 0 1 = cc in omega arith)) ∙ z)) r
  other_by_lem (I2cOn x) k t e n z r =
      no_sample_lem (part_of s.part) t e n (stays_none _ (present (I2cOn x)) t (sym (first_next (I2cOn x) k t (λ u. let k : ◌≡◌ {A = ℕ} 0 1 = cc in omega arith)) ∙ z)) r

  pub next_other : (t : List ℕ) (e : Event) (n : ℕ) → stays_on s.bus t ≡ false → read_of (part_of s.part) t ≡ Whole e n → OtherThanSample s.bus e
  next_other t e n z r = other_by_lem s.bus refl t e n z r

  -- such an event is accepted
  accepted_by : (b : BusState) → s.bus ≡ b → (t : List ℕ) → stays_on b t ≡ true → (first_done s m t).result.number ≡ 0
  unfolding advance_of
  accepted_by Unpowered e t n = let k : ◌≡◌ {A = ℕ} 0 1 = cc in absurd (omega arith)
  accepted_by (SpiOn x) e t n =
      ⊎_elim (λ (w : first_event t ≡ Sample (get_or t 1 0)). rw (w, e)) (λ (w : first_event t ≡ Expected (present (SpiOn x))). rw (w, e, eq-eqb (present (SpiOn x)) (present (SpiOn x)) refl)) (next_which (SpiOn x) t n)
  accepted_by (I2cOn x) e t n =
      ⊎_elim (λ (w : first_event t ≡ Sample (get_or t 1 0)). rw (w, e)) (λ (w : first_event t ≡ Expected (present (I2cOn x))). rw (w, e, eq-eqb (present (I2cOn x)) (present (I2cOn x)) refl)) (next_which (I2cOn x) t n)

  pub next_accepted : (t : List ℕ) → stays_on s.bus t ≡ true → (first_done s m t).result.number ≡ 0
  next_accepted t n = accepted_by s.bus refl t n
