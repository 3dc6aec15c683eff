-- Bits into numbers and out of bytes, most significant first.
use Rattle.std.specs.Prelude.{ℕ, ◌+◌, ◌*◌, ◌-◌, ◌/◌, ◌%◌, ◌^◌, Bool, eqb}
use Rattle.parts.specs.Status.{bit}

-- a number with one bit more
abbrev pub shifted : ℕ → Bool → ℕ
shifted v b = 2 * v + bit b

-- bit 7 - k of a byte
abbrev pub bit_at : ℕ → ℕ → Bool
bit_at v k = eqb (v / 2 ^ (7 - k) % 2) 1
