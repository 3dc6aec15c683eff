-- The addresses that the buffer takes up or gives lie within the part. Assumes nothing.
use Prim.Native.Nat.{ℕ, ◌+◌, ◌*◌, ◌%◌, ◌<◌}
use mathlib.Core.Path.{◌≡◌, refl}
use mathlib.Core.Bool.{Bool, true, false, cond}
use native.Mathlib.Nat.{mod-lt}
use native.Mathlib.Omega.{arith}
use lib.Dec.{ltb}
use Rattle.parts.specs.declared.part.Part.{Part}
use Rattle.parts.specs.Status.{bit}
use Rattle.parts.specs.Table.{Fit}
use Rattle.serial.specs.Address.{next_address}
use Rattle.serial.proofs.AddressLaws.{next_within}
use Rattle.transfer.specs.declared.buffer.AddressBuffer.{AddressBuffer}
use Rattle.transfer.specs.declared.phase.Field.{Field}
use Rattle.transfer.specs.declared.phase.Field.TheVariants.{Word, HighByte, LowByte, Data}
use Rattle.transfer.specs.declared.phase.Phase.{Phase}
use Rattle.transfer.specs.declared.phase.Phase.TheVariants.{Rest, Ignoring, Taking, Sending}
use Rattle.transfer.specs.Buffer.{address_of_bytes, with_a16, read_address, field_buffer, buffer_after}
use Rattle.transfer.specs.Ranges.{FieldIn, PhaseIn}

-- two address bytes and A16 count modulo the size
pub address_within : (p : Part) (a16 : Bool) (high low : ℕ) → Fit p → address_of_bytes p a16 high low < p.size
address_within p a16 high low f = mod-lt (65536 * bit a16 + 256 * high + low) f.positive

-- 17 bits make an address of a part whose word carries A16
pub with_a16_within : (p : Part) (a16 : Bool) (n : ℕ) → Fit p → n < p.size → with_a16 p a16 n < p.size
with_a16_within p a16 n f h = by p.a16 refl
  where
    bits : (b : Bool) → 65536 * bit b + n % 65536 < 131072
    bits true = omega arith
    bits false = omega arith

    by : (t : Bool) → p.a16 ≡ t → cond t (65536 * bit a16 + n % 65536) n < p.size
    by true e = omega (arith, bits a16, f.a16_size e)
    by false e = h

pub read_within : (p : Part) (b : AddressBuffer) (a16 : Bool) → Fit p → b.address < p.size → read_address p b a16 < p.size
read_within p b a16 f h = by b.used
  where
    by : (t : Bool) → cond t (next_address p.size (with_a16 p a16 b.address)) (with_a16 p a16 b.address) < p.size
    by true = next_within p.size (with_a16 p a16 b.address) f.positive
    by false = with_a16_within p a16 b.address f h

-- the buffer after a rise of SCL holds an address of the part
module _ (p : Part) (b : AddressBuffer) (f : Fit p) (h : b.address < p.size) where
  field_within : (x : Field) (v : ℕ) → FieldIn p x → (field_buffer p b x v).address < p.size
  field_within Word v i = h
  field_within (HighByte a16) v i = h
  field_within (LowByte a16 high) v i = address_within p a16 high v f
  field_within (Data a) v i = i

  pub buffer_within : (ph : Phase) → PhaseIn p ph → (buffer_after p b ph).address < p.size
  buffer_within Rest i = h
  buffer_within Ignoring i = h
  buffer_within (Taking x n v) i = by (ltb n 8)
    where
      by : (t : Bool) → (cond t b (field_buffer p b x v)).address < p.size
      by true = h
      by false = field_within x v i.0
  buffer_within (Sending a n) i = by (ltb n 8)
    where
      by : (t : Bool) → (cond t b (record { address = a; used = true })).address < p.size
      by true = h
      by false = i.0
