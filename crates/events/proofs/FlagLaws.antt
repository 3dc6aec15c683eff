-- Where the first flagged event stands, event by event. Assumes nothing.
use Prim.Native.Nat.{ℕ, ◌+◌, ◌<◌}
use mathlib.Core.Path.{◌≡◌, refl, sym}
use mathlib.Core.Bool.{Bool, true, false, cond}
use native.Mathlib.Nat.{add-zero, add_assoc}
use native.Mathlib.Omega.{arith}
use lib.Dec.{eqb}
use borrow.Author.Tests.{eq-eqb, ne_eqb, eqb-true, eqb-false}
use Rattle.events.specs.Flag.{flag_from, first_flag, flag_at}

module _ (n : ℕ) where
  -- none later: the flag before
  pub first_none : (f : ℕ) → first_flag n f n ≡ f
  first_none f = by (eqb f n) refl
    where
      by : (y : Bool) → eqb f n ≡ y → cond y n f ≡ f
      by true e = sym (eqb-true f n e)
      by false e = refl

  -- none before: the one later
  pub first_later : (g : ℕ) → first_flag n n g ≡ g
  first_later g = rw (eq-eqb n n refl)

  -- an event of k bytes at offset o is taken
  pub first_step : (f o k g : ℕ) (flagged : Bool) → o < n → first_flag n f (o + flag_from flagged k g) ≡ first_flag n (flag_at n f o flagged) ((o + k) + g)
  first_step f o k g flagged l = by (eqb f n) flagged refl
    where
      by : (y z : Bool) → eqb f n ≡ y → cond y (o + flag_from z k g) f ≡ first_flag n (cond y (cond z o n) f) ((o + k) + g)
      by true true e = rw (ne_eqb o n (λ q. omega arith), add-zero o)
      by true false e = rw (first_later ((o + k) + g)) (sym (add_assoc o k g))
      by false z e = rw e

-- the rest of a trace of n bytes, n' of them, from offset k on
module _ (n n' k : ℕ) (e : n ≡ k + n') where
  pub first_moved : (f g : ℕ) → k + first_flag n' f g ≡ first_flag n (k + f) (k + g)
  first_moved f g = by (eqb f n') refl
    where
      by : (y : Bool) → eqb f n' ≡ y → k + cond y g f ≡ first_flag n (k + f) (k + g)
      by true q = let h = eqb-true f n' q in rw (eq-eqb (k + f) n (omega arith))
      by false q = let h = eqb-false f n' q in rw (ne_eqb (k + f) n (λ z. h (omega arith)))

  -- behind an event of k bytes
  pub first_behind : (f g : ℕ) (flagged : Bool) → 0 < n → flag_from flagged k (first_flag n' f g) ≡ first_flag n (flag_from flagged k f) (k + g)
  first_behind f g true l = rw (ne_eqb 0 n (λ q. omega arith))
  first_behind f g false l = first_moved f g

  -- behind a flag at h
  pub first_joined : (h f g : ℕ) → first_flag n h (k + first_flag n' f g) ≡ first_flag n (first_flag n h (k + f)) (k + g)
  first_joined h f g = by (eqb h n) refl
    where
      by : (y : Bool) → eqb h n ≡ y → cond y (k + first_flag n' f g) h ≡ first_flag n (cond y (k + f) h) (k + g)
      by true q = first_moved f g
      by false q = rw q
