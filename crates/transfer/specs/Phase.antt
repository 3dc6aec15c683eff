-- What a rise of SCL makes of the phase. A byte takes nine rises: eight bits, most significant first, and its acknowledge.
use Rattle.std.specs.Prelude.{ℕ, ◌+◌, Bool, cond, ltb}
use Rattle.parts.specs.declared.part.Part.{Part}
use Rattle.serial.specs.Bits.{shifted}
use Rattle.serial.specs.Address.{next_address}
use Rattle.transfer.specs.declared.buffer.AddressBuffer.{AddressBuffer}
use Rattle.transfer.specs.declared.word.DeviceWord.{DeviceWord}
use Rattle.transfer.specs.declared.word.DeviceWord.TheVariants.{ReadWord, WriteWord, OtherWord}
use Rattle.transfer.specs.declared.phase.Field.{Field}
use Rattle.transfer.specs.declared.phase.Field.TheVariants.{Word, HighByte, LowByte, Data}
use Rattle.transfer.specs.declared.phase.Phase.{Phase}
use Rattle.transfer.specs.declared.phase.Phase.TheVariants.{Rest, Ignoring, Taking, Sending}
use Rattle.transfer.specs.Word.{word_of}
use Rattle.transfer.specs.Buffer.{address_of_bytes, read_address}

-- the phase after the ninth rise of a word: after its write word the part takes in an address, after its read word it sends from
-- where the buffer says, and after any other it ignores the bus until START or STOP
abbrev pub phase_after_word : Part → AddressBuffer → DeviceWord → Phase
phase_after_word p b (ReadWord a16) = Sending (read_address p b a16) 0
phase_after_word p b (WriteWord a16) = Taking (HighByte a16) 0 0
phase_after_word p b OtherWord = Ignoring

-- the phase after the ninth rise of a byte that came in as v: after the two address bytes comes data, and the next data byte is for
-- the next address, which is 0 after the top
abbrev pub phase_after_byte : Part → ℕ → AddressBuffer → Field → ℕ → Phase
phase_after_byte p pins b Word v = phase_after_word p b (word_of p pins v)
phase_after_byte p pins b (HighByte a16) v = Taking (LowByte a16 v) 0 0
phase_after_byte p pins b (LowByte a16 high) v = Taking (Data (address_of_bytes p a16 high v)) 0 0
phase_after_byte p pins b (Data a) v = Taking (Data (next_address p.size a)) 0 0

-- one rise more of a byte that comes in
abbrev pub after_taken : Part → ℕ → AddressBuffer → Field → ℕ → ℕ → Bool → Phase
after_taken p pins b f n v line = cond (ltb n 8) (Taking f (n + 1) (shifted v line)) (phase_after_byte p pins b f v)

-- one rise more of a byte that goes out. With the line low at the ninth, the byte at the next address follows, 0 after the top; with
-- the line high there, the master wants no more, and the part ignores the bus until START or STOP
abbrev pub after_sent : Part → ℕ → ℕ → Bool → Phase
after_sent p a n line = cond (ltb n 8) (Sending a (n + 1)) (cond line Ignoring (Sending (next_address p.size a) 0))

-- the phase after a rise of SCL with the line at that level
abbrev pub after_rise : Part → ℕ → AddressBuffer → Phase → Bool → Phase
after_rise p pins b Rest line = Rest
after_rise p pins b Ignoring line = Ignoring
after_rise p pins b (Taking f n v) line = after_taken p pins b f n v line
after_rise p pins b (Sending a n) line = after_sent p a n line
