-- Numbers by their bytes: eight bytes make a number that has them, and a number of three is made by its bytes. Assumes nothing.
use Prim.Native.Nat.{ℕ, ◌+◌, ◌*◌, ◌/◌, ◌%◌, ◌<◌}
use mathlib.Core.Path.{◌≡◌}
use mathlib.Core.List.{[], ◌∷◌}
use native.Mathlib.Omega.{arith}
use Rattle.image.specs.Bytes.{byte_of, bytes_of}

-- the number that eight bytes make
abbrev pub word_of : ℕ → ℕ → ℕ → ℕ → ℕ → ℕ → ℕ → ℕ → ℕ
word_of a b c d e f g h =
    0x100000000000000 * a + 0x1000000000000 * b + 0x10000000000 * c + 0x100000000 * d + 0x1000000 * e + 0x10000 * f + 0x100 * g + h

-- eight fields of a byte each
pub head_bytes_lem : (a b c d e f g h : ℕ) → a < 256 → b < 256 → c < 256 → d < 256 → e < 256 → f < 256 → g < 256 → h < 256
    → bytes_of 8 (word_of a b c d e f g h) ≡ a ∷ b ∷ c ∷ d ∷ e ∷ f ∷ g ∷ h ∷ []
head_bytes_lem a b c d e f g h p q r s t u v w =
    let x : ℕ = word_of a b c d e f g h in
    let k7 : x / 0x100000000000000 % 256 ≡ a = omega arith in
    let k6 : x / 0x1000000000000 % 256 ≡ b = omega arith in
    let k5 : x / 0x10000000000 % 256 ≡ c = omega arith in
    let k4 : x / 0x100000000 % 256 ≡ d = omega arith in
    let k3 : x / 0x1000000 % 256 ≡ e = omega arith in
    let k2 : x / 0x10000 % 256 ≡ f = omega arith in
    let k1 : x / 0x100 % 256 ≡ g = omega arith in
    let k0 : x / 1 % 256 ≡ h = omega arith in
    simp (k7, k6, k5, k4, k3, k2, k1, k0)

-- a number of three bytes by these
pub three_bytes : (n : ℕ) → n < 16777216 → n ≡ 65536 * byte_of n 2 + 256 * byte_of n 1 + byte_of n 0
three_bytes n h = omega arith
