-- The next address stays within the size. Assumes nothing.
use Prim.Native.Nat.{ℕ, ◌+◌, ◌<◌}
use mathlib.Core.Path.{◌≡◌, refl}
use mathlib.Core.Bool.{Bool, true, false, cond}
use lib.Dec.{ltb}
use borrow.Author.Tests.{ltb-true}
use Rattle.serial.specs.Address.{next_address}

pub next_within : (size a : ℕ) → 0 < size → next_address size a < size
next_within size a h = by (ltb (a + 1) size) refl
  where
    by : (t : Bool) → ltb (a + 1) size ≡ t → cond t (a + 1) 0 < size
    by true e = ltb-true (a + 1) size e
    by false e = h
