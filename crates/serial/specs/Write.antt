-- What a sample writes: nothing, or one byte at one address.
use Rattle.std.specs.Prelude.{ℕ, ◌<◌, List, set, Option, Some, None}
use Rattle.serial.specs.declared.write.Write.{Write}

-- the write of a byte
abbrev pub write_at : ℕ → ℕ → Option Write
write_at a v = Some (record { address = a; value = v })

-- the memory after what a sample writes
abbrev pub applied : Option Write → List ℕ → List ℕ
applied None m = m
applied (Some w) m = set m w.address w.value

-- a write stays within a memory of that size
abbrev pub Within : ℕ → Option Write → Type 0
Within size None = Unit {0}
Within size (Some w) = w.address < size
