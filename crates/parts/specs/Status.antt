-- The status register of an SPI part: the byte that it reads as, and where block protection begins.
use Rattle.std.specs.Prelude.{ℕ, ◌+◌, ◌-◌, ◌*◌, ◌/◌, Bool, true, false, eqb, ◌%◌}
use Rattle.parts.specs.declared.part.Part.{Part}
use Rattle.parts.specs.declared.status.Status.{Status}

-- 1 for a bit that is set
abbrev pub bit : Bool → ℕ
bit true = 1
bit false = 0

abbrev pub cleared : Status
cleared = record { srwd = false; bp1 = false; bp0 = false; wel = false }

-- the byte that RDSR shows: SRWD is its bit 7, BP1 bit 3, BP0 bit 2 and WEL bit 1; the others read 0
abbrev pub status_byte : Status → ℕ
status_byte s = 128 * bit s.srwd + 8 * bit s.bp1 + 4 * bit s.bp0 + 2 * bit s.wel

-- BP1 BP0 as a number
abbrev pub block_bits : Status → ℕ
block_bits s = 2 * bit s.bp1 + bit s.bp0

-- how much of a memory is protected, by BP1, BP0 and its size: nothing, the top quarter, the top half, all
abbrev pub protected_bytes : Bool → Bool → ℕ → ℕ
protected_bytes false false size = 0
protected_bytes false true size = size / 4
protected_bytes true false size = size / 2
protected_bytes true true size = size

-- block protection covers the addresses from here to the top; for BP1 BP0 = 00 this is the size, so that it covers none
unfoldable pub protected_start : Status → Part → ℕ
protected_start s p = p.size - protected_bytes s.bp1 s.bp0 p.size

-- the register that a byte names; its other bits are left out
abbrev pub status_in : ℕ → Status
status_in v = record { srwd = eqb (v / 128 % 2) 1; bp1 = eqb (v / 8 % 2) 1; bp0 = eqb (v / 4 % 2) 1; wel = eqb (v / 2 % 2) 1 }

abbrev pub with_wel : Status → Bool → Status
with_wel s w = record { srwd = s.srwd; bp1 = s.bp1; bp0 = s.bp0; wel = w }
