-- A machine that takes a list of inputs, the first first: the state after one input more, and what is given out on the way.
-- Assumes nothing.
use mathlib.Core.Path.{◌≡◌, refl, ap}
use mathlib.Core.List.{List, [], ◌∷◌, ◌++◌, append_assoc, append-nil}

module _ {S I : Type 0} (step : S → I → S) where
  -- the state after the inputs
  abbrev pub after : S → List I → S
  after s [] = s
  after s (x ∷ xs) = after (step s x) xs

  pub after_snoc : (s : S) (xs : List I) (x : I) → after s (xs ++ (x ∷ [])) ≡ step (after s xs) x
  after_snoc s [] x = refl
  after_snoc s (y ∷ xs) x = after_snoc (step s y) xs x

  module _ {O : Type 0} (out : S → I → List O) where
    -- what the inputs give out, one after the other
    abbrev pub given : S → List I → List O
    given s [] = []
    given s (x ∷ xs) = out s x ++ given (step s x) xs

    pub given_snoc : (s : S) (xs : List I) (x : I) → given s (xs ++ (x ∷ [])) ≡ given s xs ++ out (after s xs) x
    given_snoc s [] x = append-nil (out s x)
    given_snoc s (y ∷ xs) x = rw append_assoc (ap (λ (l : List O). out s y ++ l) (given_snoc (step s y) xs x))
