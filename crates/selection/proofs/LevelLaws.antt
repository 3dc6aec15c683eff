-- A sample made of its levels has these levels. Assumes nothing.
use Prim.Native.Nat.{ℕ, ◌+◌, ◌*◌, ◌/◌, ◌%◌}
use mathlib.Core.Path.{◌≡◌}
use mathlib.Core.Bool.{Bool}
use native.Mathlib.Omega.{arith}
use Rattle.parts.specs.Status.{bit}
use Rattle.serial.proofs.BitLaws.{bit_small, bit_is_one, lowest_bit}
use Rattle.selection.specs.declared.levels.Levels.{Levels}
use Rattle.selection.specs.Levels.{levels_of, sample_of}

pub levels_back : (cs sck si wp hold : Bool)
    → levels_of (bit cs + 2 * bit sck + 4 * bit si + 8 * bit wp + 16 * bit hold) ≡ record { cs = cs; sck = sck; si = si; wp = wp; hold = hold }
levels_back cs sck si wp hold =
    let x : ℕ = bit cs + 2 * bit sck + 4 * bit si + 8 * bit wp + 16 * bit hold in
    let a : x % 2 ≡ bit cs = omega (arith, bit_small cs) in
    let h2 : x / 2 ≡ bit sck + 2 * (bit si + 2 * (bit wp + 2 * bit hold)) = omega (arith, bit_small cs) in
    let h4 : x / 4 ≡ bit si + 2 * (bit wp + 2 * bit hold) = omega (arith, bit_small cs, bit_small sck) in
    let h8 : x / 8 ≡ bit wp + 2 * bit hold = omega (arith, bit_small cs, bit_small sck, bit_small si) in
    let h16 : x / 16 ≡ bit hold + 2 * 0 = omega (arith, bit_small cs, bit_small sck, bit_small si, bit_small wp) in
    simp (a, h2, h4, h8, h16, lowest_bit, bit_is_one)

pub sample_back : (l : Levels) → levels_of (sample_of l) ≡ l
sample_back l = levels_back l.cs l.sck l.si l.wp l.hold
