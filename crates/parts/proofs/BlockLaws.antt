-- The protected start over any size: it is at most the size; and where four divides the size, block bits that protect more begin no
-- higher, and the protected addresses are exactly the top quarters that the sheets name. From the rule alone. Assumes nothing.
use Prim.Native.Nat.{ℕ, zero, suc, ◌+◌, ◌-◌, ◌*◌, ◌%◌, ◌≤◌}
use mathlib.Core.Path.{◌≡◌, refl, ap, ◌∙◌}
use mathlib.Core.Bool.{Bool, true, false, not}
use native.Mathlib.Nat.{mul-le-mul_right}
use native.Mathlib.Omega.{arith}
use lib.Dec.{ltb, leb}
use borrow.Author.Tests.{ltb-true, ltb-false, le-leb, lt-leb}
use Rattle.parts.specs.declared.part.Part.{Part}
use Rattle.parts.specs.declared.status.Status.{Status}
use Rattle.parts.specs.Status.{bit, protected_bytes, protected_start}
use Rattle.parts.specs.Blocks.{quarters, in_top, covers, count_below}

-- what is protected is at most the whole
pub share_within : (b1 b0 : Bool) (size : ℕ) → protected_bytes b1 b0 size ≤ size
share_within false false size = omega arith
share_within false true size = omega arith
share_within true false size = omega arith
share_within true true size = omega arith

-- where four divides the whole, four times a share is its quarters, and four times what it leaves is the others
share_exact : (b1 b0 : Bool) (size : ℕ) → size % 4 ≡ 0
    → (4 * protected_bytes b1 b0 size ≡ quarters b1 b0 * size) × (4 * (size - protected_bytes b1 b0 size) ≡ (4 - quarters b1 b0) * size)
share_exact false false size h = (omega arith, omega arith)
share_exact false true size h = (omega arith, omega arith)
share_exact true false size h = (omega arith, omega arith)
share_exact true true size h = (omega arith, omega arith)

-- ---- counting

-- of the numbers below n, those from s on are n less s
count_from : (s n : ℕ) → count_below (λ a. not (ltb a s)) n ≡ n - s
count_from s zero = omega arith
count_from s (suc n) = by (ltb n s) refl (count_from s n)
  where
    by : (t : Bool) → ltb n s ≡ t → count_below (λ a. not (ltb a s)) n ≡ n - s → count_below (λ a. not (ltb a s)) n + bit (not (ltb n s)) ≡ suc n - s
    by true e q = let h = ltb-true n s e in rw (e, q) (omega arith)
    by false e q = let h = ltb-false n s e in rw (e, q) (omega arith)

-- a is not below s exactly if four times a reaches four times s
test_four : (s a m : ℕ) → 4 * s ≡ m → not (ltb a s) ≡ leb m (4 * a)
test_four s a m q = by (ltb a s) refl
  where
    by : (t : Bool) → ltb a s ≡ t → not (ltb a s) ≡ leb m (4 * a)
    by true e = let h = ltb-true a s e in rw (e, lt-leb m (4 * a) (omega arith))
    by false e = let h = ltb-false a s e in rw (e, le-leb m (4 * a) (omega arith))

-- ---- the laws

-- and so is a start
pub start_within : (s : Status) (p : Part) → protected_start s p ≤ p.size
unfolding protected_start
start_within s p = omega arith

-- where four divides the size, block bits that protect more quarters begin no higher
pub start_falls : (s t : Status) (p : Part) → p.size % 4 ≡ 0 → quarters s.bp1 s.bp0 ≤ quarters t.bp1 t.bp0 → protected_start t p ≤ protected_start s p
unfolding protected_start
start_falls s t p h k =
    let a = (share_exact s.bp1 s.bp0 p.size h).1 in
    let b = (share_exact t.bp1 t.bp0 p.size h).1 in
    let q : 4 - quarters t.bp1 t.bp0 ≤ 4 - quarters s.bp1 s.bp0 = omega arith in
    let r = mul-le-mul_right p.size q in
    omega arith

-- where four divides the size, four times as many addresses as are protected are as many sizes as quarters
pub fraction_protected : (s : Status) (p : Part) → p.size % 4 ≡ 0 → 4 * count_below (covers s p) p.size ≡ quarters s.bp1 s.bp0 * p.size
unfolding protected_start
fraction_protected s p h =
    let w = share_within s.bp1 s.bp0 p.size in
    let q : p.size - (p.size - protected_bytes s.bp1 s.bp0 p.size) ≡ protected_bytes s.bp1 s.bp0 p.size = omega arith in
    ap (λ (n : ℕ). 4 * n) (count_from (protected_start s p) p.size ∙ q) ∙ (share_exact s.bp1 s.bp0 p.size h).0

-- where four divides the size, an address is protected exactly if it lies in the top quarters that the block bits name
pub top_protected : (s : Status) (p : Part) → p.size % 4 ≡ 0 → (a : ℕ) → covers s p a ≡ in_top (quarters s.bp1 s.bp0) p.size a
unfolding protected_start
top_protected s p h a = test_four (protected_start s p) a _ (share_exact s.bp1 s.bp0 p.size h).1
