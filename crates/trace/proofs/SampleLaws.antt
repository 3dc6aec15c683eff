-- Bytes that begin with a sample in range are read as that sample, and no others are; those that begin with an expected answer in
-- range as that. Assumes nothing.
use Prim.Native.Nat.{ℕ, ◌+◌, ◌≤◌, ◌<◌}
use mathlib.Core.Path.{◌≡◌, refl, sym, ap, ◌∙◌}
use mathlib.Core.Bool.{Bool, true, false, cond}
use mathlib.Core.Logic.{◌⊎◌, inl, inr, ⊎_elim}
use mathlib.Core.List.{List}
use native.Mathlib.Nat.{add-zero}
use native.Mathlib.Omega.{arith}
use lib.Dec.{eqb, ltb}
use lib.ListN.{length, drop, get_or, length-drop}
use lib.Seq.{get_or-drop}
use borrow.Author.Tests.{eqb-true, ltb-false, lt-ltb, le-ltb}
use Rattle.parts.specs.declared.part.Part.{Part}
use Rattle.trace.specs.declared.event.Event.{Event}
use Rattle.trace.specs.declared.event.Event.TheVariants.{SpiPowerOn, I2cPowerOn, PowerOff, Sample, Expected}
use Rattle.trace.specs.Event.{sample_limit, sample_in}
use Rattle.trace.specs.Read.{start_address, read_of, Whole}
use Rattle.trace.specs.Sample.{sample_first, expected_first, stays_first, first_event, NoSample}
use Rattle.trace.proofs.ReadLaws.{passed, reads_whole}

-- the three tests
tests : (a b c : Bool) → cond a false (cond b c false) ≡ true → (a ≡ false) × ((b ≡ true) × (c ≡ true))
tests false true true h = (refl, (refl, refl))
tests true b c h = let z : ◌≡◌ {A = ℕ} 0 1 = cc in absurd (omega arith)
tests false false c h = let z : ◌≡◌ {A = ℕ} 0 1 = cc in absurd (omega arith)
tests false true false h = let z : ◌≡◌ {A = ℕ} 0 1 = cc in absurd (omega arith)

pub sample_long : (limit : ℕ) (t : List ℕ) → sample_first limit t ≡ true → 2 ≤ length t
sample_long limit t h = ltb-false (length t) 2 (tests (ltb (length t) 2) (eqb (get_or t 0 0) 4) (ltb (get_or t 1 0) limit) h).0

pub sample_read : (p : Part) (t : List ℕ) → sample_first (sample_limit p.bus) t ≡ true → read_of p t ≡ Whole (Sample (get_or t 1 0)) 2
sample_read p t h =
    let s = tests (ltb (length t) 2) (eqb (get_or t 0 0) 4) (ltb (get_or t 1 0) (sample_limit p.bus)) h in
    let k : get_or t 0 0 ≡ 4 = eqb-true (get_or t 0 0) 4 s.1.0 in
    let l : 2 ≤ length t = ltb-false (length t) 2 s.0 in
    reads_whole p t (Sample (get_or t 1 0)) 2
    (record { some = λ z. omega arith; known = rw k; long = rw k l; sample = rw k s.1.1; start = rw k; expected = rw k; event = rw k; taken = rw k })

expected_long : (a : ℕ) (t : List ℕ) → expected_first a t ≡ true → 2 ≤ length t
expected_long a t h = ltb-false (length t) 2 (tests (ltb (length t) 2) (eqb (get_or t 0 0) 5) (eqb (get_or t 1 0) a) h).0

expected_at : (p : Part) (t : List ℕ) (a : ℕ) → a < 3 → expected_first a t ≡ true → read_of p t ≡ Whole (Expected a) 2
expected_at p t a l h =
    let s = tests (ltb (length t) 2) (eqb (get_or t 0 0) 5) (eqb (get_or t 1 0) a) h in
    let k : get_or t 0 0 ≡ 5 = eqb-true (get_or t 0 0) 5 s.1.0 in
    let v : get_or t 1 0 ≡ a = eqb-true (get_or t 1 0) a s.1.1 in
    let n : 2 ≤ length t = ltb-false (length t) 2 s.0 in
    reads_whole p t (Expected a) 2
    (record { some = λ z. omega arith; known = rw k; long = rw k n; sample = rw k; start = rw k; expected = rw (k, v) (lt-ltb a 3 l); event = rw (k, v); taken = rw k })

-- the two tests as one, by the kind and the value that stand at offset o
either : (b : Bool) → cond b true false ≡ b
either true = refl
either false = refl

module _ (t : List ℕ) (o : ℕ) where
  pub kind_at : get_or (drop o t) 0 0 ≡ get_or t o 0
  kind_at = get_or-drop o t 0 0 ∙ ap (λ (k : ℕ). get_or t k 0) (add-zero o)

  pub value_at : get_or (drop o t) 1 0 ≡ get_or t (o + 1) 0
  value_at = get_or-drop o t 1 0

  module _ (limit a : ℕ) (l : o + 2 ≤ length t) where
    long : 2 ≤ length (drop o t)
    long = rw length-drop (omega arith)

-- either of the two
module _ (limit a : ℕ) (t : List ℕ) where
  -- which of them
  pub stays_which : stays_first limit a t ≡ true
      → ((sample_first limit t ≡ true) × (first_event t ≡ Sample (get_or t 1 0))) ⊎ ((expected_first a t ≡ true) × (first_event t ≡ Expected a))
  stays_which h = by (sample_first limit t) refl h
    where
      by : (y : Bool) → sample_first limit t ≡ y → cond y true (expected_first a t) ≡ true
          → ((sample_first limit t ≡ true) × (first_event t ≡ Sample (get_or t 1 0))) ⊎ ((expected_first a t ≡ true) × (first_event t ≡ Expected a))
      by true e n =
          let s = tests (ltb (length t) 2) (eqb (get_or t 0 0) 4) (ltb (get_or t 1 0) limit) e in
          inl (e, rw s.1.0)
      by false e n =
          let s = tests (ltb (length t) 2) (eqb (get_or t 0 0) 5) (eqb (get_or t 1 0) a) n in
          inr (n, rw (eqb-true (get_or t 0 0) 5 s.1.0, eqb-true (get_or t 1 0) a s.1.1))

  pub stays_long : stays_first limit a t ≡ true → 2 ≤ length t
  stays_long h = ⊎_elim (λ x. sample_long limit t x.0) (λ x. expected_long a t x.0) (stays_which h)

  pub stays_none : stays_first limit a t ≡ false → sample_first limit t ≡ false
  stays_none h = by (sample_first limit t) h
    where
      by : (y : Bool) → cond y true (expected_first a t) ≡ false → y ≡ false
      by false n = refl
      by true n = n

pub stays_read : (p : Part) (t : List ℕ) (a : ℕ) → a < 3 → stays_first (sample_limit p.bus) a t ≡ true → read_of p t ≡ Whole (first_event t) 2
stays_read p t a l h =
    ⊎_elim (λ x. rw x.1 (sample_read p t x.0)) (λ x. rw x.1 (expected_at p t a l x.0)) (stays_which (sample_limit p.bus) a t h)

-- by the tests for the kinds, which choose the event: a sample would be in range
no_sample_by : (p : Part) (a b c d : Bool) (x y : ℕ) → (d ≡ true → ltb x (sample_limit p.bus) ≡ true → ⊥)
    → sample_in p (cond a (SpiPowerOn x) (cond b (I2cPowerOn x y) (cond c PowerOff (cond d (Sample x) (Expected x))))) ≡ true
    → NoSample (cond a (SpiPowerOn x) (cond b (I2cPowerOn x y) (cond c PowerOff (cond d (Sample x) (Expected x)))))
no_sample_by p true b c d x y n f = tt
no_sample_by p false true c d x y n f = tt
no_sample_by p false false true d x y n f = tt
no_sample_by p false false false true x y n f = n refl f
no_sample_by p false false false false x y n f = tt

pub no_sample_lem : (p : Part) (t : List ℕ) (e : Event) (n : ℕ) → sample_first (sample_limit p.bus) t ≡ false → read_of p t ≡ Whole e n → NoSample e
no_sample_lem p t e n z h =
    let s = passed p t e n h in
    let k : ℕ = get_or t 0 0 in
    rw s.event at
    (no_sample_by p (eqb k 1) (eqb k 2) (eqb k 3) (eqb k 4) (get_or t 1 0) (start_address (get_or t 2 0) (get_or t 3 0) (get_or t 4 0)) none s.sample)
  where
    none : eqb (get_or t 0 0) 4 ≡ true → ltb (get_or t 1 0) (sample_limit p.bus) ≡ true → ⊥
    none x y =
        let s = passed p t e n h in
        let l : 2 ≤ length t = rw (eqb-true (get_or t 0 0) 4 x) at s.long in
        let q : sample_first (sample_limit p.bus) t ≡ true = rw (le-ltb (length t) 2 l, x, y) in
        let r : ◌≡◌ {A = Bool} true false = sym q ∙ z in
        let o : ◌≡◌ {A = ℕ} 0 1 = cc in
        omega arith
