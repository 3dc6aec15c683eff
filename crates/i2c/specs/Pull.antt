-- When the part pulls the line low, which a fall of SCL decides: before the ninth rise to acknowledge a byte that came in, and before
-- each of the eight rises of a byte that goes out if its bit is 0, most significant first.
use Rattle.std.specs.Prelude.{ℕ, Bool, true, false, cond, not, List, ltb, get_or}
use Rattle.parts.specs.declared.part.Part.{Part}
use Rattle.serial.specs.Bits.{bit_at}
use Rattle.transfer.specs.declared.word.DeviceWord.{DeviceWord}
use Rattle.transfer.specs.declared.word.DeviceWord.TheVariants.{ReadWord, WriteWord, OtherWord}
use Rattle.transfer.specs.declared.phase.Field.{Field}
use Rattle.transfer.specs.declared.phase.Field.TheVariants.{Word, HighByte, LowByte, Data}
use Rattle.transfer.specs.declared.phase.Phase.{Phase}
use Rattle.transfer.specs.declared.phase.Phase.TheVariants.{Rest, Ignoring, Taking, Sending}
use Rattle.transfer.specs.Word.{word_of}

abbrev pub ours : DeviceWord → Bool
ours (ReadWord a16) = true
ours (WriteWord a16) = true
ours OtherWord = false

-- whether a byte that came in as v is acknowledged: each is, but for a word that is not the part's
abbrev pub acknowledges : Part → ℕ → Field → ℕ → Bool
acknowledges p pins Word v = ours (word_of p pins v)
acknowledges p pins (HighByte a16) v = true
acknowledges p pins (LowByte a16 high) v = true
acknowledges p pins (Data a) v = true

-- whether the part pulls after a fall of SCL
abbrev pub pulls_after : Part → ℕ → List ℕ → Phase → Bool
pulls_after p pins m Rest = false
pulls_after p pins m Ignoring = false
pulls_after p pins m (Taking f n v) = cond (ltb n 8) false (acknowledges p pins f v)
pulls_after p pins m (Sending a n) = cond (ltb n 8) (not (bit_at (get_or m a 0) n)) false
