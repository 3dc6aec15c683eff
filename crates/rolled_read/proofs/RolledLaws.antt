-- Bytes from an address up, and on from 0 after the top: how many they are, where a reading goes on, and that a stretch up to the
-- top is a plain part of the memory. Assumes nothing.
use Prim.Native.Nat.{ℕ, zero, suc, ◌+◌, ◌-◌, ◌<◌, ◌≤◌, min}
use mathlib.Core.Path.{◌≡◌, refl, sym, ap, ◌∙◌}
use mathlib.Core.List.{List, ◌∷◌, ◌++◌}
use native.Mathlib.Nat.{zero-add, suc-add}
use native.Mathlib.Numerals.{add-one}
use native.Mathlib.Omega.{arith}
use borrow.Author.Tests.{lt-ltb, le-ltb}
use lib.ListN.{length, take, drop, get_or}
use lib.Seq.{drop-cons}
use Rattle.serial.specs.Address.{next_address}
use Rattle.rolled_read.specs.Rolled.{rolled_from}

-- the address n further
abbrev pub address_after : ℕ → ℕ → ℕ → ℕ
address_after size a zero = a
address_after size a (suc n) = address_after size (next_address size a) n

next_below : (size a : ℕ) → a + 1 < size → next_address size a ≡ a + 1
next_below size a h = simp (lt-ltb (a + 1) size h)

next_top : (size a : ℕ) → size ≤ a + 1 → next_address size a ≡ 0
next_top size a h = simp (le-ltb (a + 1) size h)

-- short of the top the address n further is n up
pub after_below : (size a n : ℕ) → a + n < size → address_after size a n ≡ a + n
after_below size a zero h = omega arith
after_below size a (suc n) h =
    let up : next_address size a ≡ a + 1 = next_below size a (omega arith) in
    let sum : a + 1 + n ≡ a + suc n = omega arith in
    rw (up, ← sum) (after_below size (a + 1) n (omega arith))

-- after the top it is 0
pub after_top : (size a n : ℕ) → a < size → a + n ≡ size → address_after size a n ≡ 0
after_top size a zero h e = absurd (omega arith)
after_top size a (suc zero) h e = next_top size a (omega arith)
after_top size a (suc (suc n)) h e =
    let up : next_address size a ≡ a + 1 = next_below size a (omega arith) in
    rw up (after_top size (a + 1) (suc n) (omega arith) (omega arith))

-- i bytes, then j bytes from where those end
pub rolled_append : (m : List ℕ) (a i j : ℕ) → rolled_from m a (i + j) ≡ rolled_from m a i ++ rolled_from m (address_after (length m) a i) j
rolled_append m a zero j = rw zero-add
rolled_append m a (suc i) j = rw suc-add (ap (λ (l : List ℕ). get_or m a 0 ∷ l) (rolled_append m (next_address (length m) a) i j))

-- a stretch that ends at the top or below it is a part of the memory
pub rolled_within : (m : List ℕ) (a n : ℕ) → a + n ≤ length m → rolled_from m a n ≡ take n (drop a m)
rolled_within m a zero h = refl
rolled_within m a (suc zero) h = let in-m : a < length m = omega arith in rw (drop-cons m a 0)
rolled_within m a (suc (suc n)) h =
    let in-m : a < length m = omega arith in
    let up : next_address (length m) a ≡ suc a = next_below (length m) a (omega arith) ∙ add-one a in
    rw (drop-cons m a 0) (ap (λ (l : List ℕ). get_or m a 0 ∷ l) (ap (λ (b : ℕ). rolled_from m b (suc n)) up ∙ rolled_within m (suc a) (suc n) (omega arith)))

-- it matters where a reading goes on only if something is left of it
rest_from_0 : (m : List ℕ) (a j : ℕ) → (0 < j → a ≡ 0) → rolled_from m a j ≡ rolled_from m 0 j
rest_from_0 m a zero h = refl
rest_from_0 m a (suc j) h = rw (h (omega arith))

-- what lies ahead, as far as is asked, and what is left then goes on from 0
pub rolled_ahead : (m ahead : List ℕ) (n left : ℕ) → 0 < length ahead → length ahead ≤ length m → ahead ≡ drop (length m - length ahead) m → n ≡ min (length ahead) left
    → rolled_from m (length m - length ahead) left ≡ take n ahead ++ rolled_from m 0 (left - n)
rolled_ahead m ahead n left some part is e =
    let a : ℕ = length m - length ahead in
    let whole : left ≡ n + (left - n) = omega arith in
    let rest : rolled_from m (address_after (length m) a n) (left - n) ≡ rolled_from m 0 (left - n) =
    rest_from_0 m (address_after (length m) a n) (left - n) (λ more. after_top (length m) a n (omega arith) (omega arith)) in
    ap (rolled_from m a) whole ∙ rolled_append m a n (left - n) ∙ rw rest (ap (λ (l : List ℕ). l ++ rolled_from m 0 (left - n)) (rolled_within m a n (omega arith) ∙ ap (take n) (sym is)))
