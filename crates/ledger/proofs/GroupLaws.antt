-- Groups of n elements and one more: each has as many, a longer list begins with the same ones, and they and what is left are the
-- list by their count. Of bits: one more doubles the number, and a list begins with a byte exactly if it begins with eight of them.
-- Assumes nothing.
use Prim.Native.Nat.{ℕ, zero, suc, ◌+◌, ◌*◌, ◌≤◌}
use mathlib.Core.Path.{◌≡◌, refl, ap, ◌∙◌}
use mathlib.Core.Bool.{Bool}
use mathlib.Core.List.{List, [], ◌∷◌, ◌++◌, map, append_assoc}
use native.Mathlib.Nat.{mul-zero, mul-suc}
use native.Mathlib.Omega.{arith}
use lib.ListN.{length, length-append}
use Rattle.serial.specs.Bits.{shifted}
use Rattle.ledger.specs.Bits.{number_after, number, FieldBits, short, whole, put, field, eight_bits, bytes}
use Rattle.ledger.specs.Groups.{Group, groups_from, groups}

module _ {A : Type 0} (n : ℕ) where
  one_more_lem : (xs : List A) (y : A) (r : ℕ) → length xs + suc r ≡ n → length (xs ++ (y ∷ [])) + r ≡ n
  one_more_lem xs y r h = rw length-append (omega arith)

  -- each whole group has n elements before its last
  abbrev pub Fronts : List (Group A) → Type 0
  Fronts [] = Unit {0}
  Fronts (g ∷ gs) = (length g.front ≡ n) × Fronts gs

  fronts_from : (ys xs : List A) (r : ℕ) → length xs + r ≡ n → Fronts (groups_from n r xs ys).whole
  fronts_from [] xs r h = tt
  fronts_from (y ∷ ys) xs zero h = (omega arith, fronts_from ys [] n (omega arith))
  fronts_from (y ∷ ys) xs (suc r) h = fronts_from ys (xs ++ (y ∷ [])) r (one_more_lem xs y r h)

  pub fronts : (ys : List A) → Fronts (groups n ys).whole
  fronts ys = fronts_from ys [] n (omega arith)

  -- the whole groups of a list are the first ones of a longer list
  longer_from : (ys zs xs : List A) (r : ℕ)
      → (gs : List (Group A)) × (groups_from n r xs (ys ++ zs)).whole ≡ (groups_from n r xs ys).whole ++ gs
  longer_from [] zs xs r = ((groups_from n r xs zs).whole, refl)
  longer_from (y ∷ ys) zs xs zero =
      let more = longer_from ys zs [] n in
      (more.0, ap (λ (gs : List (Group A)). record { front = xs; last = y } ∷ gs) more.1)
  longer_from (y ∷ ys) zs xs (suc r) = longer_from ys zs (xs ++ (y ∷ [])) r

  pub longer : (ys zs : List A) → (gs : List (Group A)) × (groups n (ys ++ zs)).whole ≡ (groups n ys).whole ++ gs
  longer ys zs = longer_from ys zs [] n

  -- n and one elements for each whole group, and at most n more
  pub record Counted (xs ys : List A) (r : ℕ) : Type 0 where
    pub all : length xs + length ys ≡ suc n * length (groups_from n r xs ys).whole + length (groups_from n r xs ys).left
    pub fewer : length (groups_from n r xs ys).left ≤ n

  pub counted_from : (ys xs : List A) (r : ℕ) → length xs + r ≡ n → Counted xs ys r
  counted_from [] xs r h = record { all = rw (mul-zero (suc n)) (omega arith); fewer = omega arith }
  counted_from (y ∷ ys) xs zero h =
      let c = counted_from ys [] n (omega arith) in
      record { all = rw mul-suc (omega (arith, c.all)); fewer = c.fewer }
  counted_from (y ∷ ys) xs (suc r) h =
      let c = counted_from ys (xs ++ (y ∷ [])) r (one_more_lem xs y r h) in
      record { all = omega (arith, c.all, length-append xs (y ∷ [])); fewer = c.fewer }

after_snoc : (v : ℕ) (xs : List Bool) (x : Bool) → number_after v (xs ++ (x ∷ [])) ≡ shifted (number_after v xs) x
after_snoc v [] x = refl
after_snoc v (y ∷ xs) x = after_snoc (shifted v y) xs x

-- a bit more
pub number_snoc : (xs : List Bool) (x : Bool) → number (xs ++ (x ∷ [])) ≡ shifted (number xs) x
number_snoc xs x = after_snoc 0 xs x

-- the bytes after the bits xs of the first, by its other bits
abbrev pub first_bytes : List Bool → FieldBits → List ℕ
first_bytes xs (short ys) = []
first_bytes xs (whole ys rest) = number (xs ++ ys) ∷ bytes rest

first_put : (xs : List Bool) (y : Bool) (f : FieldBits) → first_bytes (xs ++ (y ∷ [])) f ≡ first_bytes xs (put y f)
first_put xs y (short ys) = refl
first_put xs y (whole ys rest) = rw append_assoc

first_from : (bs xs : List Bool) (r : ℕ) → map eight_bits (groups_from 7 r xs bs).whole ≡ first_bytes xs (field (suc r) bs)
first_from [] xs r = refl
first_from (b ∷ bs) xs zero = refl
first_from (b ∷ bs) xs (suc r) = first_from bs (xs ++ (b ∷ [])) r ∙ first_put xs b (field (suc r) bs)

-- the first byte is the first eight bits
pub first_byte : (bs : List Bool) → bytes bs ≡ first_bytes [] (field 8 bs)
first_byte bs = first_from bs [] 7
