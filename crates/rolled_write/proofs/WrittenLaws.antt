-- Bytes written from an address up: the memory keeps its length, bytes in two parts are written one part after the other, and bytes
-- that end at the top or before it are stored side by side, up to the protected start. From the definition alone, and the laws of
-- addresses. Assumes nothing.
use Prim.Native.Nat.{ℕ, suc, ◌+◌, ◌-◌, ◌<◌, ◌≤◌, min}
use mathlib.Core.Path.{◌≡◌, refl, sym, ap, ◌∙◌}
use mathlib.Core.Bool.{Bool, true, false, cond}
use mathlib.Core.List.{List, [], ◌∷◌, ◌++◌}
use native.Mathlib.Numerals.{add-one}
use native.Mathlib.Omega.{arith}
use lib.Dec.{ltb}
use lib.ListN.{length, take, set, length-set, length-append, length-take}
use lib.Seq.{sets, sets-eq, take-nil, take_all}
use Rattle.std.proofs.lemmas.List.{take_min}
use Rattle.std.proofs.lemmas.Slice.{put_mid-paste}
use borrow.Rule.Slice.PartMut.{put_mid}
use borrow.Author.Tests.{ltb-true, ltb-false}
use Rattle.serial.specs.Address.{next_address}
use Rattle.rolled_write.specs.Written.{written_from, address_after}
use Rattle.rolled_write.proofs.AddressLaws.{next_up, address_after_top}

length_stored : (t : Bool) (m : List ℕ) (a v : ℕ) → length (cond t (set m a v) m) ≡ length m
length_stored true m a v = length-set m a v
length_stored false m a v = refl

-- in two parts
pub written_append : (start : ℕ) (m : List ℕ) (a : ℕ) (vs us : List ℕ)
    → written_from start m a (vs ++ us) ≡ written_from start (written_from start m a vs) (address_after (length m) a (length vs)) us
written_append start m a [] us = refl
written_append start m a (v ∷ vs) us =
    let stored = cond (ltb a start) (set m a v) m in
    let next = next_address (length m) a in
    written_append start stored next vs us
    ∙ ap (λ (size : ℕ). written_from start (written_from start stored next vs) (address_after size next (length vs)) us) (length_stored (ltb a start) m a v)

-- a byte below the top is followed by the address above it, and after the last byte no address matters
on_up : (start : ℕ) (m : List ℕ) (size a : ℕ) (vs : List ℕ) → suc a + length vs ≤ size
    → written_from start m (next_address size a) vs ≡ written_from start m (suc a) vs
on_up start m size a [] h = refl
on_up start m size a (v ∷ vs) h = ap (λ (b : ℕ). written_from start m b (v ∷ vs)) (next_up size a (omega arith) ∙ add-one a)

-- up to the top: what lies below the protected start is stored in one run
pub written_stretch : (start : ℕ) (m : List ℕ) (a : ℕ) (vs : List ℕ) → a + length vs ≤ length m
    → written_from start m a vs ≡ sets m a (take (start - a) vs)
written_stretch start m a [] h = rw take-nil
written_stretch start m a (v ∷ vs) h =
    by (λ k e. on_up start k (length m) a vs (omega arith) ∙ written_stretch start k (suc a) vs (omega (arith, e))) (ltb a start) refl
  where
    by : ((k : List ℕ) → length k ≡ length m → written_from start k (next_address (length m) a) vs ≡ sets k (suc a) (take (start - suc a) vs))
        → (t : Bool) → ltb a start ≡ t
        → written_from start (cond t (set m a v) m) (next_address (length m) a) vs ≡ sets m a (take (start - a) (v ∷ vs))
    by on true e =
        let below = ltb-true a start e in
        let more : start - a ≡ suc (start - suc a) = omega arith in
        rw more (on (set m a v) (length-set m a v))
    by on false e =
        let above = ltb-false a start e in
        let none : start - a ≡ 0 = omega arith in
        let none-on : start - suc a ≡ 0 = omega arith in
        on m refl ∙ rw (none, none-on)

-- ---- a stretch of as many bytes as fit up to the top, and the rest from 0

pub written_on : (start : ℕ) (m new : List ℕ) (a : ℕ) (all vs us : List ℕ) → a < length m → all ≡ vs ++ us → length vs ≡ min (length all) (length m - a)
    → new ≡ written_from start m a vs → written_from start new 0 us ≡ written_from start m a all
written_on start m new a all vs us l e n w =
    rw (w, e, written_append) (by us (ap length e ∙ length-append vs us))
  where
    by : (us : List ℕ) → length all ≡ length vs + length us
        → written_from start (written_from start m a vs) 0 us ≡ written_from start (written_from start m a vs) (address_after (length m) a (length vs)) us
    by [] k = refl
    by (u ∷ us) k = let top : a + length vs ≡ length m = omega arith in rw (address_after_top (length m) a (length vs) l top)

-- ---- the copy of a stretch: all of it, or what lies below the protected start

pub stretch_copied : (start : ℕ) (m : List ℕ) (a : ℕ) (vs : List ℕ) (k : ℕ) (copied : List ℕ) → a + length vs ≤ length m → k ≡ min (start - a) (length vs) → copied ≡ take k vs
    → put_mid a (a + k - a) m copied ≡ written_from start m a vs
stretch_copied start m a vs k copied fits below e =
    let count : k ≡ a + k - a = omega arith in
    let long : k ≡ length (take k vs) = omega (arith, length-take k vs) in
    let stored : take (start - a) vs ≡ take k vs = sym (take_min (start - a) vs) ∙ ap (λ (i : ℕ). take i vs) (sym below) in
    put_mid-paste a (a + k - a) m copied (take k vs) k e count long
    ∙ sym (written_stretch start m a vs fits ∙ rw (stored, sets-eq (take k vs) m a (omega arith), ← long, take_all k (take k vs) (omega arith)))
