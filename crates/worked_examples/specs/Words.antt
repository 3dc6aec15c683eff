-- The device address words of the I2C parts as their sheets draw them: what each of the 256 words is at each setting of the address pins.
use Rattle.std.specs.Prelude.{ℕ, ◌+◌, ◌*◌, ◌≡◌, true, false, cond, List, [], ◌∷◌, map, eqb}
use Rattle.parts.specs.Table.{part_of}
use Rattle.transfer.specs.declared.word.DeviceWord.{DeviceWord}
use Rattle.transfer.specs.declared.word.DeviceWord.TheVariants.{ReadWord, WriteWord, OtherWord}
use Rattle.transfer.specs.Word.{word_of}
use Rattle.worked_examples.specs.Refusals.{up_from}

pub record Word : Type 0 where
  pub value : ℕ
  pub meaning : DeviceWord

abbrev pub is : ℕ → DeviceWord → Word
is v w = record { value = v; meaning = w }

-- part 3: 1010 A2 A1 A0 R/W, so A0h and A1h with pins 0, and AEh and AFh with pins 7
abbrev pub words3 : ℕ → List Word
words3 pins = is (0xa0 + 2 * pins) (WriteWord false) ∷ is (0xa1 + 2 * pins) (ReadWord false) ∷ []

-- part 4: 1010 A2 A1 A16 R/W, so A0h to A3h with pins 0, and ACh to AFh with pins 3
abbrev pub words4 : ℕ → List Word
words4 pins =
    is (0xa0 + 4 * pins) (WriteWord false)
    ∷ is (0xa1 + 4 * pins) (ReadWord false)
    ∷ is (0xa2 + 4 * pins) (WriteWord true)
    ∷ is (0xa3 + 4 * pins) (ReadWord true)
    ∷ []

-- a word that is not drawn is not the part's
abbrev pub drawn : List Word → ℕ → DeviceWord
drawn [] v = OtherWord
drawn (w ∷ ws) v = cond (eqb v w.value) w.meaning (drawn ws v)

abbrev pub Drawn : ℕ → (ℕ → List Word) → ℕ → Type 0
Drawn part words pins = map (word_of (part_of part) pins) (up_from 0 256) ≡ map (drawn (words pins)) (up_from 0 256)
