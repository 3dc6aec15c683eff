-- Bytes written to a memory from an address up, and on from 0 after the top.
use Rattle.std.specs.Prelude.{ℕ, zero, suc, cond, List, [], ◌∷◌, ltb, length, set}
use Rattle.serial.specs.Address.{next_address}

-- the memory after bytes from address a up; those at the protected start or above are passed over
abbrev pub written_from : ℕ → List ℕ → ℕ → List ℕ → List ℕ
written_from start m a [] = m
written_from start m a (v ∷ vs) = written_from start (cond (ltb a start) (set m a v) m) (next_address (length m) a) vs

-- the address after n bytes
abbrev pub address_after : ℕ → ℕ → ℕ → ℕ
address_after size a zero = a
address_after size a (suc n) = address_after size (next_address size a) n
