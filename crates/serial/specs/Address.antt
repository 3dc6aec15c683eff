-- Addresses of a memory of a given size.
use Rattle.std.specs.Prelude.{ℕ, ◌+◌, cond, ltb}

-- up by one, and from the top to 0
abbrev pub next_address : ℕ → ℕ → ℕ
next_address size a = cond (ltb (a + 1) size) (a + 1) 0
