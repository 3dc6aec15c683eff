-- The rules of the table, shown for every row at once: one test that is computed over the list of rows, and the law that
-- turns a test passed by every row into the rule at each part number. Assumes nothing.
use Prim.Native.Nat.{ℕ, zero, suc, ◌<◌, ◌≤◌, ◌^◌, ◌%◌}
use mathlib.Core.Path.{◌≡◌, refl}
use mathlib.Core.Bool.{Bool, true, false, cond, ◌&&◌}
use mathlib.Core.List.{List, [], ◌∷◌}
use native.Mathlib.Nat.{le_of_suc-le-suc, not-suc-le-zero}
use native.Mathlib.Omega.{arith}
use lib.Dec.{ltb, leb, eqb}
use lib.ListN.{length, get_or}
use borrow.Author.Tests.{ltb-true, leb-true, eqb-true}
use Rattle.parts.specs.declared.part.Part.{Part}
use Rattle.parts.specs.Table.{is_spi, parts, no_part, part_of, Fit, fits}

-- both of two tests that pass together pass
pub and_both : (a b : Bool) → (a && b) ≡ true → (a ≡ true) × (b ≡ true)
and_both true b h = (refl, h)
and_both false b h = let z : ◌≡◌ {A = ℕ} 0 1 = cc in absurd (omega arith)

-- the test passes at each row
abbrev every : {A : Type 0} → (A → Bool) → List A → Bool
every f [] = true
every f (x ∷ xs) = f x && every f xs

at : {A : Type 0} (f : A → Bool) (d : A) (xs : List A) → every f xs ≡ true → (k : ℕ) → k < length xs → f (get_or xs k d) ≡ true
at f d [] t k h = absurd (not-suc-le-zero h)
at f d (x ∷ xs) t zero h = (and_both (f x) (every f xs) t).0
at f d (x ∷ xs) t (suc k) h = at f d xs (and_both (f x) (every f xs) t).1 k (le_of_suc-le-suc h)

-- a test that is asked of some rows only
if_set : (a b : Bool) → cond a b true ≡ true → a ≡ true → b ≡ true
if_set true b h e = h
if_set false b h e = let z : ◌≡◌ {A = ℕ} 0 1 = cc in absurd (omega arith)

-- what the test of a row says
fit_of : (p : Part) → fits p ≡ true → Fit p
fit_of p t =
    let a = and_both (ltb 0 p.size) _ t in
    let b = and_both (leb p.size 262144) _ a.1 in
    let c = and_both (leb p.size (2 ^ p.width)) _ b.1 in
    let d = and_both (eqb (p.size % 4) 0) _ c.1 in
    let e = and_both (ltb 0 p.width) _ d.1 in
    let f = and_both (leb p.width 24) _ e.1 in
    let g = and_both (leb p.pins 8) _ f.1 in
    record {
      positive = ltb-true 0 p.size a.0;
      small = leb-true p.size 262144 b.0;
      addressable = leb-true p.size (2 ^ p.width) c.0;
      quartered = eqb-true (p.size % 4) 0 d.0;
      wide = ltb-true 0 p.width e.0;
      narrow = leb-true p.width 24 f.0;
      few = leb-true p.pins 8 g.0;
      a16_size = λ e. eqb-true p.size 131072 (if_set p.a16 (eqb p.size 131072) g.1 e);
    }

-- every part of the table fits
pub part_fits : (n : ℕ) → n < 5 → Fit (part_of n)
part_fits n h = fit_of (part_of n) (at fits no_part parts refl n h)

-- as many settings of the address pins as the device address word has room for: two pins beside A16, else three
pub pins_fit : (n : ℕ) → n < 5 → (part_of n).pins ≤ cond (part_of n).a16 4 8
pins_fit n h = leb-true _ _ (at (λ p. leb p.pins (cond p.a16 4 8)) no_part parts refl n h)

-- the address of an SPI part has whole bytes
pub bytewise : (n : ℕ) → n < 5 → is_spi (part_of n).bus ≡ true → (part_of n).width % 8 ≡ 0
bytewise n h spi =
    eqb-true ((part_of n).width % 8) 0
    (if_set (is_spi (part_of n).bus) (eqb ((part_of n).width % 8) 0)
    (at (λ p. cond (is_spi p.bus) (eqb (p.width % 8) 0) true) no_part parts refl n h) spi)

-- an identity is three bytes
pub identity_bytes : (n : ℕ) → n < 5 → (i : ℕ) → get_or (part_of n).identity i 0 < 256
identity_bytes n h i = get_d_below (part_of n).identity (at (λ p. every (λ v. ltb v 256) p.identity) no_part parts refl n h) i
  where
    get_d_below : (vs : List ℕ) → every (λ v. ltb v 256) vs ≡ true → (i : ℕ) → get_or vs i 0 < 256
    get_d_below [] t i = omega arith
    get_d_below (v ∷ vs) t zero = ltb-true v 256 (and_both (ltb v 256) _ t).0
    get_d_below (v ∷ vs) t (suc i) = get_d_below vs (and_both (ltb v 256) _ t).1 i
