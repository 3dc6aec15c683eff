-- Stores to a memory: what an address holds after a list of them, the first first.
use Rattle.std.specs.Prelude.{ℕ, cond, List, [], ◌∷◌, eqb, set}

-- one byte to one address
pub record Store : Type 0 where
  pub address : ℕ
  pub value : ℕ

-- the last byte stored at a, or else d
abbrev pub last_at : ℕ → ℕ → List Store → ℕ
last_at a d [] = d
last_at a d (w ∷ ws) = last_at a (cond (eqb w.address a) w.value d) ws

-- the memory after the stores
abbrev pub stored : List ℕ → List Store → List ℕ
stored m [] = m
stored m (w ∷ ws) = stored (set m w.address w.value) ws
