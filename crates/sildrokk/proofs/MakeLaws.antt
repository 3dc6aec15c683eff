-- A making into a buffer: refused by its numbers, refused by the buffer's length, or done. Assumes nothing.
use Prim.Native.Nat.{ℕ}
use mathlib.Core.Path.{◌≡◌, refl}
use mathlib.Core.List.{List}
use lib.ListN.{length}
use borrow.Author.Tests.{eq-eqb, ne_eqb}
use Rattle.model.specs.Made.{Made}
use Rattle.model.specs.Make.{make_of}
use Rattle.image.specs.Taken.{image_of}
use Rattle.calls.specs.Calls.{make_call}

module _ (part pins bits : ℕ) (b : List ℕ) (made : Made) (e : made ≡ make_of part pins bits) where
  pub making_refused : (made.number ≡ 0 → ⊥) → (made.number ≡ (make_call part pins bits b).number) × (b ≡ (make_call part pins bits b).state)
  unfolding make_call
  making_refused h = rw (← e, ne_eqb made.number 0 h) (refl, refl)

  pub making_short : made.number ≡ 0 → (length b ≡ 32 → ⊥) → (2 ≡ (make_call part pins bits b).number) × (b ≡ (make_call part pins bits b).state)
  unfolding make_call
  making_short h k = rw (← e, eq-eqb made.number 0 h, ne_eqb (length b) 32 k) (refl, refl)

  pub making_done : made.number ≡ 0 → length b ≡ 32 → (0 ≡ (make_call part pins bits b).number) × (image_of made.model ≡ (make_call part pins bits b).state)
  unfolding make_call
  making_done h k = rw (← e, eq-eqb made.number 0 h, eq-eqb (length b) 32 k) (refl, refl)
