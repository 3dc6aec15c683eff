-- The bits of an I2C part's byte apart from its phase: put together they are the phase, a rise before the ninth only adds one, and the ninth
-- leaves a phase without any. By the phase. Assumes nothing.
use Prim.Native.Nat.{ℕ, ◌+◌, ◌^◌, ◌<◌, ◌≤◌}
use mathlib.Core.Path.{◌≡◌, refl}
use mathlib.Core.Bool.{Bool, true, false}
use native.Mathlib.Omega.{arith}
use borrow.Author.Tests.{lt-ltb, le-ltb}
use Rattle.parts.specs.declared.part.Part.{Part}
use Rattle.std.specs.Prelude.{None}
use Rattle.serial.specs.Bits.{shifted}
use Rattle.serial.proofs.BitLaws.{small}
use Rattle.transfer.specs.declared.buffer.AddressBuffer.{AddressBuffer}
use Rattle.transfer.specs.declared.levels.Levels.{Levels}
use Rattle.transfer.specs.declared.phase.Field.{Field}
use Rattle.transfer.specs.declared.phase.Field.TheVariants.{Word, HighByte, LowByte, Data}
use Rattle.transfer.specs.declared.phase.Phase.{Phase}
use Rattle.transfer.specs.declared.phase.Phase.TheVariants.{Rest, Ignoring, Taking, Sending}
use Rattle.transfer.specs.declared.word.DeviceWord.{DeviceWord}
use Rattle.transfer.specs.declared.word.DeviceWord.TheVariants.{ReadWord, WriteWord, OtherWord}
use Rattle.transfer.specs.Buffer.{buffer_after}
use Rattle.transfer.specs.Flag.{flag_of}
use Rattle.transfer.specs.Phase.{phase_after_word, phase_after_byte, after_rise}
use Rattle.transfer.specs.Ranges.{PhaseIn}
use Rattle.transfer.specs.Word.{word_of}
use Rattle.i2c.specs.Store.{rise_write}
use Rattle.phase_bits.specs.Byte.{bits_of, value_of, with_bits}
use Rattle.phase_bits.proofs.FieldLaws.{one_small}

pub same_bits_lem : (ph : Phase) → with_bits ph (bits_of ph) (value_of ph) ≡ ph
same_bits_lem Rest = refl
same_bits_lem Ignoring = refl
same_bits_lem (Taking f n v) = refl
same_bits_lem (Sending a n) = refl

-- ---- a rise before the ninth

module _ (n v : ℕ) (few : n < 8) where
  pub one_more_lem : (p : Part) (pins : ℕ) (b : AddressBuffer) (line : Bool) (ph : Phase) → after_rise p pins b (with_bits ph n v) line ≡ with_bits ph (n + 1) (shifted v line)
  one_more_lem p pins b line Rest = refl
  one_more_lem p pins b line Ignoring = refl
  one_more_lem p pins b line (Taking f m u) = rw (lt-ltb n 8 few)
  one_more_lem p pins b line (Sending a m) = rw (lt-ltb n 8 few)

  pub none_written : (wp : Bool) (ph : Phase) → rise_write (with_bits ph n v) wp ≡ None
  none_written wp Rest = refl
  none_written wp Ignoring = refl
  none_written wp (Taking f m u) = rw (lt-ltb n 8 few)
  none_written wp (Sending a m) = refl

  pub buffer_stays : (p : Part) (b : AddressBuffer) (ph : Phase) → buffer_after p b (with_bits ph n v) ≡ b
  buffer_stays p b Rest = refl
  buffer_stays p b Ignoring = refl
  buffer_stays p b (Taking f m u) = rw (lt-ltb n 8 few)
  buffer_stays p b (Sending a m) = rw (lt-ltb n 8 few)

-- ---- the ninth

word_fresh : (p : Part) (b : AddressBuffer) (w : DeviceWord) → with_bits (phase_after_word p b w) 0 0 ≡ phase_after_word p b w
word_fresh p b (ReadWord a16) = refl
word_fresh p b (WriteWord a16) = refl
word_fresh p b OtherWord = refl

byte_fresh : (p : Part) (pins : ℕ) (b : AddressBuffer) (f : Field) (v : ℕ) → with_bits (phase_after_byte p pins b f v) 0 0 ≡ phase_after_byte p pins b f v
byte_fresh p pins b Word v = word_fresh p b (word_of p pins v)
byte_fresh p pins b (HighByte a16) v = refl
byte_fresh p pins b (LowByte a16 high) v = refl
byte_fresh p pins b (Data a) v = refl

pub fresh : (p : Part) (pins : ℕ) (b : AddressBuffer) (n v : ℕ) (line : Bool) (ph : Phase) → 8 ≤ n
    → with_bits (after_rise p pins b (with_bits ph n v) line) 0 0 ≡ after_rise p pins b (with_bits ph n v) line
fresh p pins b n v line Rest l = refl
fresh p pins b n v line Ignoring l = refl
fresh p pins b n v line (Taking f m u) l = rw (le-ltb n 8 l) (byte_fresh p pins b f v)
fresh p pins b n v true (Sending a m) l = rw (le-ltb n 8 l)
fresh p pins b n v false (Sending a m) l = rw (le-ltb n 8 l)

-- ---- the flag does not ask for the bits

pub flag_same : (ph : Phase) (n v : ℕ) (before now : Levels) → flag_of (with_bits ph n v) before now ≡ flag_of ph before now
flag_same Rest n v before now = refl
flag_same Ignoring n v before now = refl
flag_same (Taking f m u) n v before now = refl
flag_same (Sending a m) n v before now = refl

-- ---- the number that the bits make is small

pub value_small : (p : Part) (ph : Phase) → PhaseIn p ph → value_of ph < 2 ^ bits_of ph
value_small p Rest h = omega arith
value_small p Ignoring h = omega arith
value_small p (Taking f n v) h = h.2
value_small p (Sending a n) h = one_small n

-- one bit more has room
pub room_for_one : (n v : ℕ) → n < 8 → v < 2 ^ n → v < 2147483648
room_for_one n v l h = small n 31 v (omega arith) h
