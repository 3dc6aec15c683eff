-- Numbers of a given count of bits: one bit more, and the test of it by a shift. Assumes nothing.
use Prim.Native.Nat.{ℕ, ◌+◌, ◌*◌, ◌/◌, ◌%◌, ◌^◌, ◌<◌, ◌≤◌}
use mathlib.Core.Path.{◌≡◌, refl}
use mathlib.Core.Bool.{Bool, true, false}
use native.Mathlib.Nat.{two-pow-succ, pow-le-pow_right, div-eq_of_lt, div-add-mod, mod-lt, one-le-pow}
use native.Mathlib.Numerals.{add-one}
use native.Mathlib.Omega.{arith}
use lib.Dec.{eqb, ltb}
use borrow.Author.Tests.{eq-eqb, ne_eqb, ltb-true, ltb-false}
use Rattle.parts.specs.Status.{bit}
use Rattle.serial.specs.Bits.{shifted}

two_positive : 0 < 2
two_positive = omega arith

-- one bit more doubles the room
pub shifted_within : (n v : ℕ) (b : Bool) → v < 2 ^ n → shifted v b < 2 ^ (n + 1)
shifted_within n v true h = rw (add-one n, two-pow-succ n) (omega arith)
shifted_within n v false h = rw (add-one n, two-pow-succ n) (omega arith)

-- few bits make a small number
pub small : (n k v : ℕ) → n ≤ k → v < 2 ^ n → v < 2 ^ k
small n k v l h = omega (arith, pow-le-pow_right two_positive l)

-- shifted out, nothing is left of a number exactly if it is one of n bits
pub shifted_out : (n v : ℕ) → eqb (v / 2 ^ n) 0 ≡ ltb v (2 ^ n)
shifted_out n v = by (ltb v (2 ^ n)) refl
  where
    by : (t : Bool) → ltb v (2 ^ n) ≡ t → eqb (v / 2 ^ n) 0 ≡ t
    by true e = eq-eqb _ _ (div-eq_of_lt (ltb-true v (2 ^ n) e))
    by false e = ne_eqb (v / 2 ^ n) 0 (λ z. left_over (rw z at (div-add-mod v (2 ^ n))) (ltb-false v (2 ^ n) e))
      where
        left_over : 2 ^ n * 0 + v % 2 ^ n ≡ v → 2 ^ n ≤ v → ⊥
        left_over q l = omega (arith, mod-lt v (one-le-pow n 2 two_positive))

-- ---- a level as a bit of a sample

pub bit_small : (b : Bool) → bit b ≤ 1
bit_small true = omega arith
bit_small false = omega arith

pub bit_is_one : (b : Bool) → eqb (bit b) 1 ≡ b
bit_is_one true = refl
bit_is_one false = refl

-- a number of two levels or more, by its lowest one
pub lowest_bit : (b : Bool) (y : ℕ) → (bit b + 2 * y) % 2 ≡ bit b
lowest_bit b y = omega (arith, bit_small b)
