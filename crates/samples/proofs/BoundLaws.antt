-- One bound for quota and trace says what the two tests say. Assumes nothing.
use Prim.Native.Nat.{ℕ, ◌+◌, ◌*◌, ◌-◌, ◌/◌, ◌<◌, ◌≤◌}
use mathlib.Core.Path.{◌≡◌, refl, sym, ◌∙◌}
use mathlib.Core.Bool.{Bool, true, false, cond}
use mathlib.Core.List.{List}
use mathlib.Core.Logic.{◌⊎◌, inl, inr, ⊎_elim}
use native.Mathlib.Omega.{arith}
use lib.Dec.{ltb}
use lib.ListN.{length, drop, length-drop}
use borrow.Author.Tests.{ltb-true, ltb-false, lt-ltb, le-ltb}
use Rattle.trace.specs.Sample.{stays_first}
use Rattle.trace.proofs.SampleLaws.{stays_long}
use Rattle.samples.specs.Bound.{latest, next_before}
use Rattle.samples.specs.Samples.{next_is}
use Rattle.samples.proofs.SamplesLaws.{next_tests}

-- without quota nothing is left to do
pub latest_none : (n q c o : ℕ) → q ≤ c → o ≡ latest n q c o
latest_none n q c o l = by (ltb (q - c) ((n - o) / 2)) refl
  where
    by : (y : Bool) → ltb (q - c) ((n - o) / 2) ≡ y → o ≡ o + 2 * cond y (q - c) ((n - o) / 2)
    by true h = omega arith
    by false h = let k = ltb-false (q - c) ((n - o) / 2) h in omega arith

-- e is the bound of a trace of n bytes, at offset o after c of q events: so many turns are left, no more than there is quota and room
-- for, and all that there is quota or room for
pub record Bound (n q c o e : ℕ) : Type 0 where
  pub turns : ℕ
  pub ends : e ≡ o + 2 * turns
  pub allowed : turns ≤ q - c
  pub inside : e ≤ n
  pub most : (q - c ≤ turns) ⊎ (n < e + 2)

-- at first
pub bound_first : (n q c o : ℕ) → o ≤ n → Bound n q c o (latest n q c o)
bound_first n q c o l = by (ltb (q - c) ((n - o) / 2)) refl
  where
    by : (y : Bool) → ltb (q - c) ((n - o) / 2) ≡ y → Bound n q c o (o + 2 * cond y (q - c) ((n - o) / 2))
    by true h = let k = ltb-true (q - c) ((n - o) / 2) h in record { turns = q - c; ends = refl; allowed = omega arith; inside = omega arith; most = inl (omega arith) }
    by false h = let k = ltb-false (q - c) ((n - o) / 2) h in record { turns = (n - o) / 2; ends = refl; allowed = k; inside = omega arith; most = inr (omega arith) }

module _ {n q c o e : ℕ} (b : Bound n q c o e) where
  -- two bytes are left before it
  pub bound_room : o < e → o + 2 ≤ n
  bound_room l = let k = b.ends in let i = b.inside in omega arith

  -- after one turn more
  pub bound_next : o < e → Bound n q (c + 1) (o + 2) e
  bound_next l =
      let k = b.ends in
      let a = b.allowed in
      record { turns = b.turns - 1; ends = omega arith; allowed = omega arith; inside = b.inside; most = ⊎_elim (λ w. inl (omega arith)) (λ w. inr w) b.most }

-- the bound is the two tests
pub bound_says : (t : List ℕ) (q c o e : ℕ) → Bound (length t) q c o e → (limit a : ℕ) → next_before limit a e o t ≡ next_is limit a q c (drop o t)
bound_says t q c o e b limit a = by (ltb o e) refl
  where
    short : length t < o + 2 → stays_first limit a (drop o t) ≡ false
    short l = by (stays_first limit a (drop o t)) refl
      where
        by : (y : Bool) → stays_first limit a (drop o t) ≡ y → y ≡ false
        by true h = let k = stays_long limit a (drop o t) h in absurd (omega (arith, length-drop o t))
        by false h = refl

    none : (y : Bool) → cond y false false ≡ false
    none true = refl
    none false = refl

    by : (y : Bool) → ltb o e ≡ y → cond y (stays_first limit a (drop o t)) false ≡ next_is limit a q c (drop o t)
    by true h =
        let l = ltb-true o e h in
        let k = b.ends in
        let m = b.allowed in
        let i : c < q = omega arith in
        rw (lt-ltb c q i)
    by false h =
        let l = ltb-false o e h in
        let k = b.ends in
        ⊎_elim
        (λ w. let i : q ≤ c = omega arith in rw (le-ltb c q i))
        (λ w. rw (short (omega arith)) (sym (none (ltb c q))))
        b.most

-- what the loop asked, and the answer that it got
module _ (t : List ℕ) (limit a e o : ℕ) (r : Bool) (k : r ≡ next_before limit a e o t) where
  pub asked : (q c : ℕ) → Bound (length t) q c o e → (y : Bool) → r ≡ y → next_is limit a q c (drop o t) ≡ y
  asked q c b y h = sym (bound_says t q c o e b limit a) ∙ (sym k ∙ h)

  pub before_end : r ≡ true → o < e
  before_end h = ltb-true o e (next_tests (ltb o e) (stays_first limit a (drop o t)) (sym k ∙ h)).0
