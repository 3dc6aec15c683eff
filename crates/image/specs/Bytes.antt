-- Numbers as bytes, most significant first.
use Rattle.std.specs.Prelude.{ℕ, zero, suc, ◌+◌, ◌*◌, ◌/◌, ◌%◌, ◌^◌, List, [], ◌∷◌, get_or}

-- byte k of a number, the least significant being byte 0
abbrev pub byte_of : ℕ → ℕ → ℕ
byte_of n k = n / 2 ^ (8 * k) % 256

-- the k low bytes of a number, most significant first
abbrev pub bytes_of : ℕ → ℕ → List ℕ
bytes_of zero n = []
bytes_of (suc k) n = byte_of n k ∷ bytes_of k n

-- the number that the three bytes from index i on make
abbrev pub three_at : List ℕ → ℕ → ℕ
three_at b i = 65536 * get_or b i 0 + 256 * get_or b (i + 1) 0 + get_or b (i + 2) 0
