-- A test of a case that computes, and that a case whose test passes holds on every memory of its length. Assumes nothing.
use Prim.Native.Nat.{ℕ}
use mathlib.Core.Path.{◌≡◌, refl, ◌∙◌}
use mathlib.Core.Bool.{Bool, true, false, ◌&&◌}
use mathlib.Core.List.{List, [], ◌∷◌}
use lib.Dec.{eqb}
use lib.ListN.{length, get_or}
use borrow.Author.Tests.{eqb-true}
use Rattle.parts.proofs.Rows.{and_both}
use Rattle.worked_examples.specs.Traces.{step_bytes, step_answers}
use Rattle.worked_examples.specs.Cases.{Cell, cell, with_cells, Case, Gives, trace_of, Holds, Every}
use Rattle.worked_examples.proofs.Trail.{described, cells_read, cells_length, Trail, run_from, run_by, run_by_lem}

abbrev same : List ℕ → List ℕ → Bool
same [] [] = true
same [] (y ∷ ys) = false
same (x ∷ xs) [] = false
same (x ∷ xs) (y ∷ ys) = eqb x y && same xs ys

abbrev same_cells : List Cell → List Cell → Bool
same_cells [] [] = true
same_cells [] (y ∷ ys) = false
same_cells (x ∷ xs) [] = false
same_cells (x ∷ xs) (y ∷ ys) = eqb x.address y.address && (eqb x.value y.value && same_cells xs ys)

same_equal : (xs ys : List ℕ) → same xs ys ≡ true → xs ≡ ys
same_equal [] [] h = refl
same_equal [] (y ∷ ys) h = cc
same_equal (x ∷ xs) [] h = cc
same_equal (x ∷ xs) (y ∷ ys) h =
    let b = and_both (eqb x y) (same xs ys) h in
    rw (eqb-true x y b.0, same_equal xs ys b.1)

cell_equal : (a b v w : ℕ) (xs ys : List Cell) → a ≡ b → v ≡ w → xs ≡ ys → cell a v ∷ xs ≡ cell b w ∷ ys
cell_equal a b v w xs ys p q r = cc

cells_equal : (xs ys : List Cell) → same_cells xs ys ≡ true → xs ≡ ys
cells_equal [] [] h = refl
cells_equal [] (y ∷ ys) h = cc
cells_equal (x ∷ xs) [] h = cc
cells_equal (x ∷ xs) (y ∷ ys) h =
    let a = and_both (eqb x.address y.address) _ h in
    let v = and_both (eqb x.value y.value) (same_cells xs ys) a.1 in
    cell_equal x.address y.address x.value y.value xs ys (eqb-true _ _ a.0) (eqb-true _ _ v.0) (cells_equal xs ys v.1)

-- what a run is to give, with the bytes that it writes in their order
abbrev gives : Case → Trail → Bool
gives c r =
    eqb r.number c.number
    && (eqb r.count (length c.steps)
    && (eqb r.offset (length (step_bytes c.steps))
    && (same r.answers (step_answers c.steps)
    && same_cells r.writes c.cells)))

gives_all : (c : Case) (m : List ℕ) (r : Trail) → gives c r ≡ true → Gives c m (run_from m r)
gives_all c m r h =
    let n = and_both (eqb r.number c.number) _ h in
    let k = and_both (eqb r.count (length c.steps)) _ n.1 in
    let o = and_both (eqb r.offset (length (step_bytes c.steps))) _ k.1 in
    let a = and_both (same r.answers (step_answers c.steps)) _ o.1 in
    record {
      number = eqb-true _ _ n.0;
      count = eqb-true _ _ k.0;
      offset = eqb-true _ _ o.0;
      answers = same_equal _ _ a.0;
      memory = rw (cells_equal r.writes c.cells a.1);
    }

-- the run, with g for the bytes that the case does not name
abbrev trail_of : (ℕ → ℕ) → Case → Trail
trail_of g c = run_by c.quota c.size (trace_of c) c.model (described c.size c.first g)

case_holds : (c : Case) → ((g : ℕ → ℕ) → gives c (trail_of g c) ≡ true) → Holds c
case_holds c test m e =
    let g : ℕ → ℕ = λ a. get_or m a 0 in
    let first : List ℕ = with_cells m c.first in
    rw (run_by_lem c.quota c.size (trace_of c) c.model first (described c.size c.first g) (cells_length m c.first ∙ e)
    (cells_read c.size m g c.first e (λ a. refl)))
    (gives_all c first (trail_of g c) (test g))

abbrev pub all : (ℕ → ℕ) → List Case → Bool
all g [] = true
all g (c ∷ cs) = gives c (trail_of g c) && all g cs

pub all_hold : (cs : List Case) → ((g : ℕ → ℕ) → all g cs ≡ true) → Every Holds cs
all_hold [] h = tt
all_hold (c ∷ cs) h =
    let b : (g : ℕ → ℕ) → (gives c (trail_of g c) ≡ true) × (all g cs ≡ true) = λ g. and_both (gives c (trail_of g c)) (all g cs) (h g) in
    (case_holds c (λ g. (b g).0), all_hold cs (λ g. (b g).1))
