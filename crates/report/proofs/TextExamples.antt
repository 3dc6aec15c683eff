-- Texts that a person sees, written out: a letter for each answer, 64 to a line, each line ended once. Computed. Assumes nothing.
use mathlib.Core.Path.{◌≡◌, refl}
use mathlib.Core.List.{[], ◌∷◌, ◌++◌}
use lib.ListN.{replicate}
use Rattle.report.specs.Text.{text}

-- nothing driven, low, high: `Z01`
pub three_answers : text 0 (2 ∷ 0 ∷ 1 ∷ []) ≡ 90 ∷ 48 ∷ 49 ∷ 10 ∷ []
three_answers = refl

-- no answers, no line
pub no_answers_lem : text 0 [] ≡ []
no_answers_lem = refl

-- 64 answers are one line, and the next one begins another
pub full_line : text 0 (replicate 64 1) ≡ replicate 64 49 ++ (10 ∷ [])
full_line = refl

pub second_line : text 0 (replicate 65 1) ≡ replicate 64 49 ++ (10 ∷ 49 ∷ 10 ∷ [])
second_line = refl
