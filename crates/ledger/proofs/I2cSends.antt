-- A sequential read: as long as the lines at the ninth rises are low, the byte that goes out is the one at the read address plus the
-- number of bytes sent before, modulo the size. Assumes nothing.
use Prim.Native.Nat.{ℕ, suc, ◌+◌, ◌%◌, ◌<◌, ◌≤◌}
use mathlib.Core.Path.{◌≡◌, refl, sym, ap, ◌∙◌}
use mathlib.Core.Bool.{Bool, true, false, cond, not}
use mathlib.Core.List.{List, [], ◌∷◌}
use native.Mathlib.Omega.{arith}
use native.Mathlib.Nat.{mod-eq_of_lt, add-mod_left}
use lib.Dec.{ltb}
use lib.ListN.{length, get_or}
use borrow.Author.Tests.{ltb-false, lt-ltb}
use Rattle.parts.specs.declared.part.Part.{Part}
use Rattle.serial.specs.Address.{next_address}
use Rattle.serial.specs.Bits.{bit_at}
use Rattle.serial.proofs.AddressLaws.{next_within}
use Rattle.transfer.specs.declared.buffer.AddressBuffer.{AddressBuffer}
use Rattle.transfer.specs.declared.word.DeviceWord.TheVariants.{ReadWord}
use Rattle.transfer.specs.Buffer.{read_address}
use Rattle.ledger.specs.Word.{word_in}
use Rattle.ledger.specs.I2cLedger.{Clock, Byte, bytes, unfinished}
use Rattle.ledger.specs.I2cAnswers.{AllAcknowledged, shows_low, sends_low, span_pulls}

-- one step up is a step modulo the size
next_mod : (size a n : ℕ) → a < size → (next_address size a + n) % size ≡ (a + suc n) % size
next_mod size a n h = by (ltb (a + 1) size) refl
  where
    by : (t : Bool) → ltb (a + 1) size ≡ t → (cond t (a + 1) 0 + n) % size ≡ (a + suc n) % size
    by true e = let q : a + 1 + n ≡ a + suc n = omega arith in rw q
    by false e =
        let z : size ≤ a + 1 = ltb-false (a + 1) size e in
        let q : a + suc n ≡ size + n = omega arith in
        let r : 0 + n ≡ n = omega arith in
        ap (λ (x : ℕ). x % size) r ∙ sym (ap (λ (x : ℕ). x % size) q ∙ add-mod_left size n)

module _ (p : Part) (m : List ℕ) where
  sends_up : (vs : List Byte) (a : ℕ) (bs : List Bool) → AllAcknowledged vs → a < p.size
      → sends_low p m a vs bs ≡ shows_low (get_or m ((a + length vs) % p.size) 0) bs
  sends_up [] a bs l h = let q : a + 0 ≡ a = omega arith in rw (q, mod-eq_of_lt h)
  sends_up (v ∷ vs) a bs (l, ls) h =
      rw (l, sends_up vs (next_address p.size a) bs ls (next_within p.size a (omega arith)), next_mod p.size a (length vs) h)

  -- after an own read word and bytes that each asked for the next one, with k of the rises of a byte over
  pub span_sends : (pins : ℕ) (b : AddressBuffer) (ks : List Clock) (word : Byte) (vs : List Byte) (a16 : Bool) → read_address p b a16 < p.size
      → bytes ks ≡ word ∷ vs → word_in p pins word.bits ≡ ReadWord a16 → AllAcknowledged vs → length (unfinished ks) < 8
      → span_pulls p pins m b (bytes ks) (unfinished ks)
      ≡ not (bit_at (get_or m ((read_address p b a16 + length vs) % p.size) 0) (length (unfinished ks)))
  span_sends pins b ks word vs a16 i n w l k =
      rw (n, w, sends_up vs (read_address p b a16) (unfinished ks) l i, lt-ltb (length (unfinished ks)) 8 k)
