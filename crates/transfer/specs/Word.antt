-- The device address word: from the top 1010, the pins A2 A1 A0 or, on part 4, A2 A1 with A16 below them, and R/W, 1 to read. No
-- other is the part's: not 00001xxx, which asks for high-speed mode, nor F8h (own choice, since I2C sleep is not modelled).
use Rattle.std.specs.Prelude.{ℕ, ◌+◌, ◌/◌, ◌%◌, Bool, false, cond, eqb}
use Rattle.parts.specs.declared.part.Part.{Part}
use Rattle.transfer.specs.declared.word.DeviceWord.{DeviceWord}
use Rattle.transfer.specs.declared.word.DeviceWord.TheVariants.{ReadWord, WriteWord, OtherWord}

-- 1010 and the address pins stand above A16 and R/W, or above R/W alone
abbrev pub own : Part → ℕ → ℕ → Bool
own p pins w = cond p.a16 (eqb (w / 4) (40 + pins)) (eqb (w / 2) (80 + pins))

-- A16 of a word, 0 on a part whose word has none
abbrev pub top_bit : Part → ℕ → Bool
top_bit p w = cond p.a16 (eqb (w / 2 % 2) 1) false

unfoldable pub word_of : Part → ℕ → ℕ → DeviceWord
word_of p pins w = cond (own p pins w) (cond (eqb (w % 2) 1) (ReadWord (top_bit p w)) (WriteWord (top_bit p w))) OtherWord
