-- The laws of consecutive samples and expected answers: what is left of them after c events and o bytes. Assumes nothing.
use Prim.Native.Nat.{ℕ, zero, suc, ◌+◌, ◌-◌, ◌<◌, ◌≤◌}
use mathlib.Core.Path.{◌≡◌, refl, sym, ap, ◌∙◌}
use mathlib.Core.Bool.{Bool, true, false, cond}
use mathlib.Core.List.{List}
use native.Mathlib.Nat.{add-zero, add_assoc}
use native.Mathlib.Numerals.{add-one}
use native.Mathlib.Omega.{arith}
use lib.Dec.{eqb, ltb}
use lib.ListN.{length, take, drop, set, get_or, length-drop}
use lib.Seq.{drop-drop, take_all, sets}
use borrow.Author.Tests.{ltb-true, ltb-false}
use Rattle.parts.specs.declared.part.Part.{Part}
use Rattle.parts.specs.Table.{part_of}
use Rattle.trace.specs.declared.event.Event.TheVariants.{Sample, Expected}
use Rattle.trace.specs.Sample.{stays_first, first_event}
use Rattle.trace.proofs.SampleLaws.{stays_long}
use Rattle.trace.proofs.SuitLaws.{Suits}
use Rattle.chip.specs.declared.model.BusState.TheVariants.{Unpowered}
use Rattle.chip.specs.declared.model.Model.{Model}
use Rattle.events.specs.Event.{Outcome}
use Rattle.chip.specs.Check.{Sound}
use Rattle.events.specs.Flag.{flag_at}
use Rattle.events.proofs.FlagLaws.{first_none, first_step}
use Rattle.events.proofs.Keeps.{keeps}
use Rattle.samples.specs.declared.progress.Progress.{Progress}
use Rattle.samples.specs.Samples.{Samples, none, one, stays_on, first_done, samples_of, progress, progress_by, next_is}

-- the part of t from o on, as a slice of it has it
pub tail_part : (t : List ℕ) (o : ℕ) → take (length t - o) (drop o t) ≡ drop o t
tail_part t o = take_all (length t - o) (drop o t) (rw length-drop (omega arith))

-- no flag from o on is none in t
pub none_left : (t : List ℕ) (o : ℕ) → o ≤ length t → o + length (drop o t) ≡ length t
none_left t o l = rw length-drop (omega arith)

module _ (t : List ℕ) (s : Model) (m : List ℕ) where
  pub samples_zero : samples_of 0 t s m ≡ none t s m
  unfolding samples_of
  samples_zero = refl

  pub samples_none : (q : ℕ) → stays_on s.bus t ≡ false → samples_of q t s m ≡ none t s m
  unfolding samples_of
  samples_none zero h = refl
  samples_none (suc q) h = rw h

  pub samples_one : (q : ℕ) → stays_on s.bus t ≡ true
      → samples_of (suc q) t s m
      ≡ one (first_done s m t).result.answer (first_done s m t).result.flag
      (samples_of q (drop 2 t) (first_done s m t).result.model (first_done s m t).memory)
  unfolding samples_of
  samples_one q h = rw h

-- ---- those that have got so far

-- all that they give back
pub record End : Type 0 where
  pub progress : Progress
  pub memory : List ℕ
  pub answers : List ℕ

abbrev pub end_of : Progress → List ℕ → List ℕ → End
end_of r m buf = record { progress = r; memory = m; answers = buf }

-- what r gives after c events and o bytes of a trace of n bytes, with the first flag so far at f and the answers so far in buf
abbrev pub end : ℕ → ℕ → ℕ → ℕ → List ℕ → Samples → End
end n f c o buf r = end_of (progress_by n f c o r) r.memory (sets buf c r.answers)

-- the parts of two equal ends
pub three : (a b : End) → a ≡ b → (a.progress ≡ b.progress) × (a.memory ≡ b.memory) × (a.answers ≡ b.answers)
three a b e = (ap (λ (f : End). f.progress) e, ap (λ (f : End). f.memory) e, ap (λ (f : End). f.answers) e)

-- ---- the two tests before one of them

pub next_tests : (a b : Bool) → cond a b false ≡ true → (a ≡ true) × (b ≡ true)
next_tests true true h = (refl, refl)
next_tests true false h = let z : ◌≡◌ {A = ℕ} 0 1 = cc in absurd (omega arith)
next_tests false b h = let z : ◌≡◌ {A = ℕ} 0 1 = cc in absurd (omega arith)

module _ (limit a q c : ℕ) (u : List ℕ) (h : next_is limit a q c u ≡ true) where
  pub more : c < q
  more = ltb-true c q (next_tests (ltb c q) (stays_first limit a u) h).0

  pub first : stays_first limit a u ≡ true
  first = (next_tests (ltb c q) (stays_first limit a u) h).1

-- two bytes are left
pub room : (limit a q c o : ℕ) (t : List ℕ) → next_is limit a q c (drop o t) ≡ true → o + 2 ≤ length t
room limit a q c o t h = let l = stays_long limit a (drop o t) (first limit a q c (drop o t) h) in omega (arith, length-drop o t)

-- the event suits any part
first_suits : (p : Part) (u : List ℕ) → Suits p (first_event u)
first_suits p u = by (eqb (get_or u 0 0) 4)
  where
    by : (y : Bool) → Suits p (cond y (Sample (get_or u 1 0)) (Expected (get_or u 1 0)))
    by true = tt
    by false = tt

-- what is left of q events at offset o of t, of a bus with this limit of samples and this present answer
module _ (t : List ℕ) (limit a q f c o : ℕ) (s : Model) (m buf : List ℕ) (within : o ≤ length t)
    (bus : (u : List ℕ) → stays_on s.bus u ≡ stays_first limit a u) where
  abbrev pub left : Samples
  left = samples_of (q - c) (drop o t) s m

  stopped : left ≡ none (drop o t) s m → end (length t) f c o buf left ≡ end_of (progress s c o f) m buf
  stopped e = rw (e, add-zero c, add-zero o, none_left t o within, first_none (length t) f)

  -- no quota, or another event next
  pub left_none : next_is limit a q c (drop o t) ≡ false → end (length t) f c o buf left ≡ end_of (progress s c o f) m buf
  left_none h = by (ltb c q) refl h
    where
      by : (y : Bool) → ltb c q ≡ y → cond y (stays_first limit a (drop o t)) false ≡ false → end (length t) f c o buf left ≡ end_of (progress s c o f) m buf
      by true e n = stopped (samples_none (drop o t) s m (q - c) (bus (drop o t) ∙ n))
      by false e n = let l = ltb-false c q e in let z : q - c ≡ 0 = omega arith in stopped (rw z (samples_zero (drop o t) s m))

  -- one of them is next
  pub left_one : next_is limit a q c (drop o t) ≡ true
      → end (length t) f c o buf left
      ≡ end (length t) (flag_at (length t) f o (first_done s m (drop o t)).result.flag) (c + 1) (o + 2) (set buf c (first_done s m (drop o t)).result.answer)
      (samples_of (q - (c + 1)) (drop (o + 2) t) (first_done s m (drop o t)).result.model (first_done s m (drop o t)).memory)
  left_one h =
      let k : q - c ≡ suc (q - (c + 1)) = let l = more limit a q c (drop o t) h in omega arith in
      let inside : o < length t = let l = room limit a q c o t h in omega arith in
      rw (k, samples_one (drop o t) s m (q - (c + 1)) (bus (drop o t) ∙ first limit a q c (drop o t) h), drop-drop, first_step (length t) f o 2 _ _ inside, ← add_assoc, ← add_assoc, add-one c)

-- ---- from here to the goal

-- what is left at the state s leads to the goal
pub record Going (t : List ℕ) (q : ℕ) (goal : End) (s : Model) (f c o : ℕ) (m buf : List ℕ) : Type 0 where
  pub within : o ≤ length t
  pub sound : Sound s m
  pub left : end (length t) f c o buf (samples_of (q - c) (drop o t) s m) ≡ goal

module _ {t : List ℕ} {q : ℕ} {goal : End} {s : Model} {f c o : ℕ} {m buf : List ℕ} (g : Going t q goal s f c o m buf)
    (limit a : ℕ) (bus : (u : List ℕ) → stays_on s.bus u ≡ stays_first limit a u) where
  pub stops : next_is limit a q c (drop o t) ≡ false → end_of (progress s c o f) m buf ≡ goal
  stops h = sym (left_none t limit a q f c o s m buf g.within bus h) ∙ g.left

  -- one event more, and what it gives
  pub goes_on : next_is limit a q c (drop o t) ≡ true → (r : Outcome) → first_done s m (drop o t) ≡ r
      → Going t q goal r.result.model (flag_at (length t) f o r.result.flag) (c + 1) (o + 2) r.memory (set buf c r.result.answer)
  goes_on h r e =
      record {
        within = room limit a q c o t h;
        sound = rw e at (keeps s m (first_event (drop o t)) g.sound (first_suits (part_of s.part) (drop o t)));
        left = sym (rw e at (left_one t limit a q f c o s m buf g.within bus h)) ∙ g.left;
      }

-- without power there is none
pub none_unpowered : (t : List ℕ) (q f c o : ℕ) (s : Model) (m buf : List ℕ) → o ≤ length t → s.bus ≡ Unpowered
    → end (length t) f c o buf (samples_of (q - c) (drop o t) s m) ≡ end_of (progress s c o f) m buf
none_unpowered t q f c o s m buf l h =
    rw (samples_none (drop o t) s m (q - c) (rw h), add-zero c, add-zero o, none_left t o l, first_none (length t) f)
