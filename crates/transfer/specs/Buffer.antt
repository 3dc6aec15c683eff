-- The address buffer: an address and whether it has been used, what changes it, and where a read starts (document 01, I2C rules).
use Rattle.std.specs.Prelude.{ℕ, ◌+◌, ◌*◌, ◌%◌, Bool, true, false, cond, ltb}
use Rattle.parts.specs.declared.part.Part.{Part}
use Rattle.parts.specs.Status.{bit}
use Rattle.serial.specs.Address.{next_address}
use Rattle.transfer.specs.declared.buffer.AddressBuffer.{AddressBuffer}
use Rattle.transfer.specs.declared.phase.Field.{Field}
use Rattle.transfer.specs.declared.phase.Field.TheVariants.{Word, HighByte, LowByte, Data}
use Rattle.transfer.specs.declared.phase.Phase.{Phase}
use Rattle.transfer.specs.declared.phase.Phase.TheVariants.{Rest, Ignoring, Taking, Sending}

-- A16 above the two address bytes, the high one first, modulo the size
abbrev pub address_of_bytes : Part → Bool → ℕ → ℕ → ℕ
address_of_bytes p a16 high low = (65536 * bit a16 + 256 * high + low) % p.size

-- where the word carries A16, which is on part 4, it takes the place of the address's bit 16 (sheet 002)
abbrev pub with_a16 : Part → Bool → ℕ → ℕ
with_a16 p a16 n = cond p.a16 (65536 * bit a16 + n % 65536) n

-- where a read word starts: at the buffer's address, A16 put in, if it is unused, else at the one after it, which is 0 after the top
abbrev pub read_address : Part → AddressBuffer → Bool → ℕ
read_address p b a16 = cond b.used (next_address p.size (with_a16 p a16 b.address)) (with_a16 p a16 b.address)

-- the buffer after the ninth rise of a byte that came in as v: the second address byte completes an address, not yet used; a data
-- byte, written or dropped, leaves its own address, used; word and first address byte change nothing
abbrev pub field_buffer : Part → AddressBuffer → Field → ℕ → AddressBuffer
field_buffer p b Word v = b
field_buffer p b (HighByte a16) v = b
field_buffer p b (LowByte a16 high) v = record { address = address_of_bytes p a16 high v; used = false }
field_buffer p b (Data a) v = record { address = a; used = true }

-- the buffer after a rise of SCL: only the ninth of a byte changes it, and a byte that went out leaves its own address, used
abbrev pub buffer_after : Part → AddressBuffer → Phase → AddressBuffer
buffer_after p b Rest = b
buffer_after p b Ignoring = b
buffer_after p b (Taking f n v) = cond (ltb n 8) b (field_buffer p b f v)
buffer_after p b (Sending a n) = cond (ltb n 8) b (record { address = a; used = true })
