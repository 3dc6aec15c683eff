-- Numbers and bytes in a list of bits, most significant first.
use Rattle.std.specs.Prelude.{ℕ, zero, suc, Bool, List, [], ◌∷◌, ◌++◌, map}
use Rattle.serial.specs.Bits.{shifted}
use Rattle.ledger.specs.Groups.{Group, groups}

-- the number that bits make, after the number v
abbrev pub number_after : ℕ → List Bool → ℕ
number_after v [] = v
number_after v (b ∷ bs) = number_after (shifted v b) bs

abbrev pub number : List Bool → ℕ
number bs = number_after 0 bs

-- the first n bits of a list and what follows them, or fewer than n
pub data FieldBits : Type 0 where
  short : List Bool → FieldBits
  whole : List Bool → List Bool → FieldBits

abbrev pub put : Bool → FieldBits → FieldBits
put b (short xs) = short (b ∷ xs)
put b (whole xs rest) = whole (b ∷ xs) rest

abbrev pub field : ℕ → List Bool → FieldBits
field zero bs = whole [] bs
field (suc n) [] = short []
field (suc n) (b ∷ bs) = put b (field n bs)

-- the whole bytes of a list of bits, seven bits and one more each
abbrev pub eight_bits : Group Bool → ℕ
eight_bits g = number (g.front ++ (g.last ∷ []))

abbrev pub bytes : List Bool → List ℕ
bytes bs = map eight_bits (groups 7 bs).whole
