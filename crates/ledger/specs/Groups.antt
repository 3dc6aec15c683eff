-- A list in groups of n elements and one more: the whole groups, the first first, and what is left over.
use Rattle.std.specs.Prelude.{ℕ, zero, suc, List, [], ◌∷◌, ◌++◌}

-- a whole group: n elements, and the one that makes it whole
pub record Group (A : Type 0) : Type 0 where
  pub front : List A
  pub last : A

pub record Groups (A : Type 0) : Type 0 where
  pub whole : List (Group A)
  pub left : List A

module _ {A : Type 0} where
  abbrev pub with_group : Group A → Groups A → Groups A
  with_group g gs = record { whole = g ∷ gs.whole; left = gs.left }

  -- the group begun has the elements xs, and r more come before its last one
  abbrev pub groups_from : ℕ → ℕ → List A → List A → Groups A
  groups_from n r xs [] = record { whole = []; left = xs }
  groups_from n zero xs (y ∷ ys) = with_group (record { front = xs; last = y }) (groups_from n n [] ys)
  groups_from n (suc r) xs (y ∷ ys) = groups_from n r (xs ++ (y ∷ [])) ys

  abbrev pub groups : ℕ → List A → Groups A
  groups n ys = groups_from n n [] ys
