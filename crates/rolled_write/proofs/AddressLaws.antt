-- Addresses that go up byte by byte: they stay within the size, the one after the top is 0, the one after n bytes and k more is the
-- one after their sum, and it can be worked out at once, by a remainder. Assumes nothing.
use Prim.Native.Nat.{ℕ, zero, suc, ◌+◌, ◌<◌, ◌≤◌}
use mathlib.Core.Path.{◌≡◌, ap, ◌∙◌}
use native.Mathlib.Omega.{arith}
use borrow.Author.Tests.{lt-ltb, le-ltb}
use Rattle.serial.specs.Address.{next_address}
use Rattle.serial.proofs.AddressLaws.{next_within}
use Rattle.rolled_write.specs.Written.{address_after}

pub next_up : (size a : ℕ) → a + 1 < size → next_address size a ≡ a + 1
next_up size a h = rw (lt-ltb (a + 1) size h)

pub next_at_top : (size a : ℕ) → size ≤ a + 1 → next_address size a ≡ 0
next_at_top size a h = rw (le-ltb (a + 1) size h)

pub address_within : (size a n : ℕ) → a < size → address_after size a n < size
address_within size a zero h = h
address_within size a (suc n) h = address_within size (next_address size a) n (next_within size a (omega arith))

-- the byte at the top is followed by address 0
pub address_after_top : (size a n : ℕ) → a < size → a + n ≡ size → address_after size a n ≡ 0
address_after_top size a zero l e = absurd (omega arith)
address_after_top size a (suc zero) l e = next_at_top size a (omega arith)
address_after_top size a (suc (suc n)) l e =
    ap (λ (b : ℕ). address_after size b (suc n)) (next_up size a (omega arith))
    ∙ address_after_top size (a + 1) (suc n) (omega arith) (omega arith)
