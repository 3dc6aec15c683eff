-- The device address word of an I2C part and the address after it, by the bits that the sheets draw, most significant first.
use Rattle.std.specs.Prelude.{ℕ, ◌/◌, ◌%◌, ◌^◌, ◌<◌, Bool, true, false, cond, not, ◌&&◌, List, [], ◌∷◌, ◌++◌, eqb}
use Rattle.parts.specs.declared.part.Part.{Part}
use Rattle.transfer.specs.declared.word.DeviceWord.{DeviceWord}
use Rattle.transfer.specs.declared.word.DeviceWord.TheVariants.{ReadWord, WriteWord, OtherWord}
use Rattle.ledger.specs.Bits.{number}

abbrev pub same_bit : Bool → Bool → Bool
same_bit true b = b
same_bit false b = not b

abbrev pub same_bits : List Bool → List Bool → Bool
same_bits [] [] = true
same_bits [] (b ∷ bs) = false
same_bits (a ∷ xs) [] = false
same_bits (a ∷ xs) (b ∷ bs) = same_bit a b && same_bits xs bs

-- address pin number i, the lowest being 0
abbrev pub pin : ℕ → ℕ → Bool
pin pins i = eqb (pins / 2 ^ i % 2) 1

-- 1 0 1 0, then A2 A1 A0 as the pins are, or A2 A1 and A16 on a part that has A16 in its word, then R/W, 1 for a read
abbrev pub drawn_word : Part → ℕ → Bool → Bool → List Bool
drawn_word p pins a16 read =
    true ∷ false ∷ true ∷ false ∷ cond p.a16 (pin pins 1 ∷ pin pins 0 ∷ a16 ∷ read ∷ []) (pin pins 2 ∷ pin pins 1 ∷ pin pins 0 ∷ read ∷ [])

-- address pins that a word can draw: two of them beside A16, else three
abbrev pub Wired : Part → ℕ → Type 0
Wired p pins = pins < cond p.a16 4 8

-- what the bits of a word say: they are one of the words drawn, with A16 at 0 or 1, or the word is not the part's
abbrev pub word_in : Part → ℕ → List Bool → DeviceWord
word_in p pins bs =
    cond (same_bits bs (drawn_word p pins false true)) (ReadWord false)
    (cond (same_bits bs (drawn_word p pins true true)) (ReadWord true)
    (cond (same_bits bs (drawn_word p pins false false)) (WriteWord false) (cond (same_bits bs (drawn_word p pins true false)) (WriteWord true) OtherWord)))

-- A16 and the bits of the two address bytes make a number; addresses count modulo the size
abbrev pub address_after : Part → Bool → List Bool → List Bool → ℕ
address_after p a16 high low = number (a16 ∷ (high ++ low)) % p.size
