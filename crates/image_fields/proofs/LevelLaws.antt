-- A bit is that of its level, and a sample in range that of its levels, on either bus: the three levels of I2C, and the first three of SPI,
-- are the three lowest bits. Assumes nothing.
use Prim.Native.Nat.{ℕ, zero, suc, ◌+◌, ◌*◌, ◌/◌, ◌%◌, ◌<◌}
use mathlib.Core.Path.{◌≡◌, refl, ◌∙◌}
use native.Mathlib.Omega.{arith}
use lib.Dec.{eqb}
use Rattle.parts.specs.Status.{bit}
use Rattle.selection.specs.Levels as SpiLevels
use Rattle.transfer.specs.Levels as I2cLevels

-- a bit is that of its level
pub one_bit : (k : ℕ) → k < 2 → bit (eqb k 1) ≡ k
one_bit zero h = refl
one_bit (suc zero) h = refl
one_bit (suc (suc k)) h = absurd (omega arith)

-- as the lowest bit of any number is
pub low_bit : (n : ℕ) → bit (eqb (n % 2) 1) ≡ n % 2
low_bit n = one_bit (n % 2) (omega arith)

-- three levels are the three lowest bits of a sample
three_bits : (x : ℕ) → bit (eqb (x % 2) 1) + 2 * bit (eqb (x / 2 % 2) 1) + 4 * bit (eqb (x / 4 % 2) 1) ≡ x % 8
three_bits x =
    let h4 : x / 4 ≡ x / 2 / 2 = omega arith in
    let h8 : x / 8 ≡ x / 4 / 2 = omega arith in
    rw (low_bit x, low_bit (x / 2), low_bit (x / 4)) (omega arith)

-- a sample in range is that of its levels
pub i2c_sample_same : (x : ℕ) → x < 8 → I2cLevels.sample_of (I2cLevels.levels_of x) ≡ x
i2c_sample_same x h = three_bits x ∙ omega arith

pub spi_sample_same : (x : ℕ) → x < 32 → SpiLevels.sample_of (SpiLevels.levels_of x) ≡ x
spi_sample_same x h =
    let h16 : x / 16 ≡ x / 8 / 2 = omega arith in
    let z : x / 16 % 2 ≡ x / 16 = omega arith in
    rw (three_bits x, low_bit (x / 8), low_bit (x / 16)) (omega arith)
