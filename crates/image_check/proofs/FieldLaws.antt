-- The tests that the code makes, against what the definition compares: the number that a field reads as, against the field. Assumes nothing.
use Prim.Native.Nat.{ℕ, zero, suc, ◌/◌, ◌%◌, ◌<◌, ◌≤◌}
use mathlib.Core.Path.{◌≡◌, refl, sym, ap, ◌∙◌}
use mathlib.Core.Bool.{Bool, true, false, cond, ◌&&◌}
use native.Mathlib.Omega.{arith}
use lib.Dec.{eqb, ltb, eqb-zero-suc, eqb-suc-zero}
use mathlib.Core.List.{List, [], ◌∷◌}
use borrow.Author.Tests.{eq-eqb, ne_eqb, ltb-true, ltb-false}
use Rattle.std.specs.List.{list_all}
use Rattle.image.specs.Taken.{zeros}
use Rattle.parts.specs.Numbers.{answer_number}
use Rattle.parts.specs.Status.{bit}
use Rattle.serial.proofs.BitLaws.{bit_small}
use Rattle.selection.specs.Levels as SpiLevels
use Rattle.transfer.specs.Levels as I2cLevels
use Rattle.i2c.specs.Sample.{answer_of}
use Rattle.image_fields.specs.State.{answer_in}
use Rattle.image_fields.proofs.LevelLaws.{one_bit, spi_sample_same, i2c_sample_same}
use Rattle.image_fields.proofs.StateLaws.{answer_small}

-- ---- tests

pub and_true : (b : Bool) → (b && true) ≡ b
and_true true = refl
and_true false = refl

pub and_false : (b : Bool) → (b && false) ≡ false
and_false true = refl
and_false false = refl

pub and_assoc : (a b c : Bool) → ((a && b) && c) ≡ (a && (b && c))
and_assoc true b c = refl
and_assoc false b c = refl

pub zero_first : (n : ℕ) → eqb 0 n ≡ eqb n 0
zero_first zero = refl
zero_first (suc n) = eqb-zero-suc n ∙ sym (eqb-suc-zero n)

-- ---- bits

pub flag_small : (n : ℕ) → n < 2 → eqb (bit (eqb n 1)) n ≡ true
flag_small n h = eq-eqb _ n (one_bit n h)

pub flag_large : (n : ℕ) → 2 ≤ n → eqb (bit (eqb n 1)) n ≡ false
flag_large n h = ne_eqb _ n (λ e. omega (arith, bit_small (eqb n 1)))

-- a field that has this number, by the number that it reads as
test : (a b : Bool) → (b ≡ true → a ≡ true) → (b ≡ false → a ≡ false) → a ≡ b
test a true f g = f refl
test a false f g = g refl

pub flag_test : (n : ℕ) → eqb (bit (eqb n 1)) n ≡ ltb n 2
flag_test n = test _ (ltb n 2) (λ t. flag_small n (ltb-true n 2 t)) (λ t. flag_large n (ltb-false n 2 t))

-- ---- samples

pub spi_small : (n : ℕ) → n < 32 → eqb (SpiLevels.sample_of (SpiLevels.levels_of n)) n ≡ true
spi_small n h = eq-eqb _ n (spi_sample_same n h)

pub spi_large : (n : ℕ) → 32 ≤ n → eqb (SpiLevels.sample_of (SpiLevels.levels_of n)) n ≡ false
spi_large n h =
    ne_eqb _ n
    (λ e. omega (arith, e, bit_small (eqb (n % 2) 1), bit_small (eqb (n / 2 % 2) 1), bit_small (eqb (n / 4 % 2) 1), bit_small (eqb (n / 8 % 2) 1), bit_small (eqb (n / 16 % 2) 1)))

pub spi_test : (n : ℕ) → eqb (SpiLevels.sample_of (SpiLevels.levels_of n)) n ≡ ltb n 32
spi_test n = test _ (ltb n 32) (λ t. spi_small n (ltb-true n 32 t)) (λ t. spi_large n (ltb-false n 32 t))

pub i2c_small : (n : ℕ) → n < 8 → eqb (I2cLevels.sample_of (I2cLevels.levels_of n)) n ≡ true
i2c_small n h = eq-eqb _ n (i2c_sample_same n h)

pub i2c_large : (n : ℕ) → 8 ≤ n → eqb (I2cLevels.sample_of (I2cLevels.levels_of n)) n ≡ false
i2c_large n h = ne_eqb _ n (λ e. omega (arith, e, bit_small (eqb (n % 2) 1), bit_small (eqb (n / 2 % 2) 1), bit_small (eqb (n / 4 % 2) 1)))

pub i2c_test : (n : ℕ) → eqb (I2cLevels.sample_of (I2cLevels.levels_of n)) n ≡ ltb n 8
i2c_test n = test _ (ltb n 8) (λ t. i2c_small n (ltb-true n 8 t)) (λ t. i2c_large n (ltb-false n 8 t))

-- ---- answers

pub shown_small : (n : ℕ) → n < 3 → eqb (answer_number (answer_in n)) n ≡ true
shown_small zero h = refl
shown_small (suc zero) h = refl
shown_small (suc (suc zero)) h = refl
shown_small (suc (suc (suc n))) h = absurd (omega arith)

pub shown_large : (n : ℕ) → 3 ≤ n → eqb (answer_number (answer_in n)) n ≡ false
shown_large n h = ne_eqb _ n (λ e. omega (arith, e, answer_small (answer_in n)))

pub shown_test : (n : ℕ) → eqb (answer_number (answer_in n)) n ≡ ltb n 3
shown_test n = test _ (ltb n 3) (λ t. shown_small n (ltb-true n 3 t)) (λ t. shown_large n (ltb-false n 3 t))

pub pull_large : (n : ℕ) → 3 ≤ n → eqb (answer_number (answer_of (eqb n 0))) n ≡ false
pull_large n h = ne_eqb _ n (λ e. omega (arith, e, answer_small (answer_of (eqb n 0))))

pub pull_test : (n : ℕ) → eqb (answer_number (answer_of (eqb n 0))) n ≡ cond (eqb n 0) true (eqb n 2)
pull_test zero = refl
pull_test (suc zero) = refl
pull_test (suc (suc zero)) = refl
pull_test (suc (suc (suc n))) =
    pull_large (suc (suc (suc n))) (omega arith)
    ∙ sym (rw (eqb-suc-zero (suc (suc n))) (ne_eqb (suc (suc (suc n))) 2 (λ e. omega arith)))

-- ---- bytes that no field uses

pub zeros_all : (l : List ℕ) → list_all (λ x. eqb x 0) l ≡ zeros l
zeros_all [] = refl
zeros_all (x ∷ l) = ap (λ (b : Bool). eqb x 0 && b) (zeros_all l)
