-- No refusal has the number 0, and the answer of a number below 3 has that number. Assumes nothing.
use Prim.Native.Nat.{ℕ, ◌<◌}
use mathlib.Core.Path.{◌≡◌, refl, sym}
use mathlib.Core.Bool.{Bool, true, false, cond}
use native.Mathlib.Omega.{arith}
use lib.Dec.{eqb}
use borrow.Author.Tests.{eqb-true, eqb-false}
use Rattle.parts.specs.declared.answer.Answer.TheVariants.{Low, High, HighZ}
use Rattle.parts.specs.declared.refusal.Refusal.{Refusal}
use Rattle.parts.specs.declared.refusal.Refusal.TheVariants.{ModelRange, StateRange, MemoryLength, UnknownKind, Truncated, SampleRange, StartRange, ExpectedRange, Unpowered, Powered, Unexpected, NotDeselected, BufferLength}
use Rattle.parts.specs.Numbers.{refusal_number, answer_number, answer_in}

pub refusal_counts : (r : Refusal) → eqb (refusal_number r) 0 ≡ false
refusal_counts ModelRange = refl
refusal_counts StateRange = refl
refusal_counts MemoryLength = refl
refusal_counts UnknownKind = refl
refusal_counts Truncated = refl
refusal_counts SampleRange = refl
refusal_counts StartRange = refl
refusal_counts ExpectedRange = refl
refusal_counts Unpowered = refl
refusal_counts Powered = refl
refusal_counts Unexpected = refl
refusal_counts NotDeselected = refl
refusal_counts BufferLength = refl

pub number_positive : (r : Refusal) → refusal_number r ≡ 0 → ⊥
number_positive r = eqb-false (refusal_number r) 0 (refusal_counts r)

pub answer_numbered : (n : ℕ) → n < 3 → answer_number (answer_in n) ≡ n
answer_numbered n h = by (eqb n 0) (eqb n 1) refl refl
  where
    by : (a b : Bool) → eqb n 0 ≡ a → eqb n 1 ≡ b → answer_number (cond a Low (cond b High HighZ)) ≡ n
    by true b e f = sym (eqb-true n 0 e)
    by false true e f = sym (eqb-true n 1 f)
    by false false e f = omega (arith, h, eqb-false n 0 e, eqb-false n 1 f)
