-- The text of a run: a letter for each accepted event's answer, in lines of 64.
use Rattle.std.specs.Prelude.{ℕ, ◌+◌, cond, List, [], ◌∷◌, ◌++◌, eqb}

-- '0', '1', and 'Z' for nothing driven
abbrev pub letter : ℕ → ℕ
letter a = cond (eqb a 0) 48 (cond (eqb a 1) 49 90)

-- an answer at a column: the 64th ends its line
abbrev pub piece : ℕ → ℕ → List ℕ
piece column a = letter a ∷ cond (eqb column 63) (10 ∷ []) []

abbrev pub next_column : ℕ → ℕ
next_column column = cond (eqb column 63) 0 (column + 1)

-- the answers from a column on; a line that holds something is ended
abbrev pub text : ℕ → List ℕ → List ℕ
text column [] = cond (eqb column 0) [] (10 ∷ [])
text column (a ∷ rest) = piece column a ++ text (next_column column) rest
