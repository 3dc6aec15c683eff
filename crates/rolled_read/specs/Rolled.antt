-- Bytes of a memory in the order of addresses that go up, and from the top to 0.
use Rattle.std.specs.Prelude.{ℕ, zero, suc, List, [], ◌∷◌, length, get_or}
use Rattle.serial.specs.Address.{next_address}

-- n bytes of a memory from address a up, and on from 0 after the top
abbrev pub rolled_from : List ℕ → ℕ → ℕ → List ℕ
rolled_from m a zero = []
rolled_from m a (suc n) = get_or m a 0 ∷ rolled_from m (next_address (length m) a) n
