-- What a source comes to when a selection's bits go on: the next address, which is 0 after the top, the same status again, an
-- identity that ends with its third byte; and the answer is bit 7 - k of its byte. For every part with a positive size. Assumes
-- nothing.
use Prim.Native.Nat.{ℕ, zero, suc, ◌+◌, ◌-◌, ◌/◌, ◌%◌, ◌<◌}
use mathlib.Core.Path.{◌≡◌, refl, sym, ap, ◌∙◌}
use mathlib.Core.Bool.{Bool, true, false, cond}
use mathlib.Core.List.{List, [], ◌∷◌}
use native.Mathlib.Nat.{mod-lt, mod-eq_of_lt, mod_self, mod-add-mod}
use native.Mathlib.Omega.{arith}
use lib.Dec.{ltb, eqb}
use lib.ListN.{length, get_or}
use borrow.Author.Tests.{le-ltb, ltb-true, ltb-false}
use Rattle.parts.specs.declared.answer.Answer.TheVariants.{HighZ}
use Rattle.parts.specs.declared.part.Part.{Part}
use Rattle.parts.specs.declared.status.Status.{Status}
use Rattle.parts.specs.Numbers.{answer_number, level_of}
use Rattle.parts.specs.Status.{status_byte}
use Rattle.serial.specs.Address.{next_address}
use Rattle.selection.specs.declared.phase.Phase.{Phase}
use Rattle.selection.specs.declared.phase.Phase.TheVariants.{Showing}
use Rattle.selection.specs.declared.phase.Source.{Source}
use Rattle.selection.specs.declared.phase.Source.TheVariants.{Memory, Register, Identity}
use Rattle.selection.specs.Phase.{next_source}
use Rattle.spi.specs.Show.{shown_bit, after_fall}
use Rattle.ledger.specs.SpiAnswers.{Output, nothing, byte, bit_shown}
use Rattle.ledger.proofs.SpiReads.{phase_after}

-- ---- numbers

-- a bit driven is the answer of its number
bit_answer : (x : ℕ) → x < 2 → answer_number (level_of (eqb x 1)) ≡ x
bit_answer zero h = refl
bit_answer (suc zero) h = refl
bit_answer (suc (suc x)) h = absurd (omega arith)

-- ---- what a source comes to

-- one up, or from the top to 0, is one up modulo the size
next_rolled : (size a : ℕ) → a < size → next_address size a ≡ (a + 1) % size
next_rolled size a h = by (ltb (a + 1) size) refl
  where
    by : (t : Bool) → ltb (a + 1) size ≡ t → cond t (a + 1) 0 ≡ (a + 1) % size
    by true e = sym (mod-eq_of_lt (ltb-true (a + 1) size e))
    by false e = let q : a + 1 ≡ size = omega (arith, ltb-false (a + 1) size e) in rw (q, mod_self size)

module _ (p : Part) (positive : 0 < p.size) where
  -- i bytes further
  abbrev pub further : ℕ → Source → Source
  further zero s = s
  further (suc i) s = further i (next_source p s)

  -- the next address, and 0 after the top
  pub rolled : (i a : ℕ) → a < p.size → further i (Memory a) ≡ Memory ((a + i) % p.size)
  rolled zero a h = ap Memory (sym (ap (λ (x : ℕ). x % p.size) (omega arith) ∙ mod-eq_of_lt h))
  rolled (suc i) a h =
      let q = next_rolled p.size a h in
      ap (λ (x : ℕ). further i (Memory x)) q
      ∙ rolled i ((a + 1) % p.size) (mod-lt (a + 1) positive)
      ∙ ap Memory (mod-add-mod (a + 1) p.size i ∙ ap (λ (x : ℕ). x % p.size) (omega arith))

  -- the status repeats
  repeats : (i : ℕ) → further i Register ≡ Register
  repeats zero = refl
  repeats (suc i) = repeats i

  past : (i : ℕ) → further i (Identity 3) ≡ Identity 3
  past zero = refl
  past (suc i) = past i

  -- what is shown with k bits of a byte out before, k below 8, and n more
  pub showing : (bs : List Bool) (s : Source) (k : ℕ) → k < 8
      → phase_after p (Showing s k) bs ≡ Showing (further ((k + length bs) / 8) s) ((k + length bs) % 8)
  showing [] s k h =
      let q : (k + 0) / 8 ≡ 0 = omega arith in
      let r : (k + 0) % 8 ≡ k = omega arith in
      rw (q, r)
  showing (x ∷ bs) s k h = by (ltb k 7) refl (λ l. showing bs s (k + 1) l) (showing bs (next_source p s) 0 (omega arith))
    where
      by : (t : Bool) → ltb k 7 ≡ t
          → (k + 1 < 8 → phase_after p (Showing s (k + 1)) bs ≡ Showing (further ((k + 1 + length bs) / 8) s) ((k + 1 + length bs) % 8))
          → phase_after p (Showing (next_source p s) 0) bs ≡ Showing (further ((0 + length bs) / 8) (next_source p s)) ((0 + length bs) % 8)
          → phase_after p (cond t (Showing s (k + 1)) (Showing (next_source p s) 0)) bs
          ≡ Showing (further ((k + suc (length bs)) / 8) s) ((k + suc (length bs)) % 8)
      by true e more next =
          let l = ltb-true k 7 e in
          let q : k + 1 + length bs ≡ k + suc (length bs) = omega arith in
          more (omega arith) ∙ ap (λ (n : ℕ). Showing (further (n / 8) s) (n % 8)) q
      by false e more next =
          let l = ltb-false k 7 e in
          let q : (k + suc (length bs)) / 8 ≡ suc ((0 + length bs) / 8) = omega arith in
          let r : (k + suc (length bs)) % 8 ≡ (0 + length bs) % 8 = omega arith in
          next ∙ rw (q, r)

  module _ (st : Status) (m : List ℕ) where
    -- the answer after a counted fall, where nothing was shown before
    abbrev pub phase_shows : Phase → ℕ
    phase_shows ph = answer_number (after_fall p st m ph HighZ)

    abbrev pub out : Phase → List Bool → ℕ
    out ph bs = phase_shows (phase_after p ph bs)

    -- bit 7 - k of each kind of source, i bytes further
    pub memory_bit : (a i k : ℕ) → a < p.size
        → answer_number (shown_bit p st m (further i (Memory a)) k) ≡ bit_shown (byte (get_or m ((a + i) % p.size) 0)) k
    memory_bit a i k h = rw (rolled i a h) (bit_answer _ (omega arith))

    pub status_bit : (i k : ℕ) → answer_number (shown_bit p st m (further i Register) k) ≡ bit_shown (byte (status_byte st)) k
    status_bit i k = rw (repeats i) (bit_answer _ (omega arith))

    pub identity_bit : (i k : ℕ)
        → answer_number (shown_bit p st m (further i (Identity 0)) k) ≡ bit_shown (cond (ltb i 3) (byte (get_or p.identity i 0)) nothing) k
    identity_bit zero k = bit_answer _ (omega arith)
    identity_bit (suc zero) k = bit_answer _ (omega arith)
    identity_bit (suc (suc zero)) k = bit_answer _ (omega arith)
    identity_bit (suc (suc (suc i))) k = rw (past i, le-ltb (suc (suc (suc i))) 3 (omega arith))

    -- output that starts at h rises, after n of which the bits bs are those past h
    pub from_h : (s : Source) (o : ℕ → Output) → ((i k : ℕ) → answer_number (shown_bit p st m (further i s) k) ≡ bit_shown (o i) k)
        → (bs : List Bool) (h n : ℕ) → n ≡ h + length bs
        → out (Showing s 0) bs ≡ cond (ltb n h) 2 (bit_shown (o ((n - h) / 8)) ((n - h) % 8))
    from_h s o same bs h n q =
        let d : 0 + length bs ≡ n - h = omega arith in
        rw (le-ltb n h (omega arith), showing bs s 0 (omega arith), d) (same ((n - h) / 8) ((n - h) % 8))
