-- A sample made of its levels has these levels. Assumes nothing.
use Prim.Native.Nat.{ℕ, ◌+◌, ◌*◌, ◌/◌, ◌%◌}
use mathlib.Core.Path.{◌≡◌}
use mathlib.Core.Bool.{Bool}
use native.Mathlib.Omega.{arith}
use Rattle.parts.specs.Status.{bit}
use Rattle.serial.proofs.BitLaws.{bit_small, bit_is_one, lowest_bit}
use Rattle.transfer.specs.declared.levels.Levels.{Levels}
use Rattle.transfer.specs.Levels.{levels_of, sample_of}

pub levels_back : (scl sda wp : Bool) → levels_of (bit scl + 2 * bit sda + 4 * bit wp) ≡ record { scl = scl; sda = sda; wp = wp }
levels_back scl sda wp =
    let x : ℕ = bit scl + 2 * bit sda + 4 * bit wp in
    let a : x % 2 ≡ bit scl = omega (arith, bit_small scl) in
    let h2 : x / 2 ≡ bit sda + 2 * bit wp = omega (arith, bit_small scl) in
    let h4 : x / 4 ≡ bit wp + 2 * 0 = omega (arith, bit_small scl, bit_small sda) in
    simp (a, h2, h4, lowest_bit, bit_is_one)

pub sample_back : (l : Levels) → levels_of (sample_of l) ≡ l
sample_back l = levels_back l.scl l.sda l.wp
