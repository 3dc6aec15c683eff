-- The bytes that come back, by their number: which bytes they are, how many are driven and which is the first. By induction on the number.
-- Assumes nothing.
use Prim.Native.Nat.{ℕ, zero, suc, ◌+◌, ◌-◌, ◌<◌, ◌≤◌, min}
use mathlib.Core.Path.{◌≡◌, refl, sym, ap, ◌∙◌}
use mathlib.Core.Bool.{Bool, true, false, cond}
use mathlib.Core.List.{List, ◌∷◌, ◌++◌}
use native.Mathlib.Numerals.{add-one}
use native.Mathlib.Omega.{arith}
use lib.Dec.{ltb, eqb}
use lib.ListN.{length, take, get_or, set, replicate}
use lib.Seq.{take-suc-set, append_snoc}
use borrow.Author.Tests.{ltb-true, ltb-false, eq-eqb, ne_eqb}
use Rattle.parts.specs.declared.part.Part.{Part}
use Rattle.parts.specs.declared.status.Status.{Status}
use Rattle.parts.specs.Status.{status_byte}
use Rattle.serial.specs.Address.{next_address}
use Rattle.rolled_read.specs.Rolled.{rolled_from}
use Rattle.selection.specs.declared.phase.Phase.{Phase}
use Rattle.selection.specs.declared.phase.Phase.TheVariants.{Rest, Ignoring, Taking, Showing, Waiting, Pending}
use Rattle.selection.specs.declared.phase.Source.{Source}
use Rattle.selection.specs.declared.phase.Source.TheVariants.{Memory, Register, Identity}
use Rattle.byte_path.specs.PinPath.{Back, bytes_of, first_driven, driven_count}
use Rattle.byte_path.specs.ByBytes.{undriven}
use Rattle.byte_rest.specs.Rest.{shown_from, rest_back, identity_from}

-- ---- after n bytes that are not driven

pub quiet_bytes : (n : ℕ) (bs : List Back) → bytes_of (replicate n undriven ++ bs) ≡ replicate n 255 ++ bytes_of bs
quiet_bytes zero bs = refl
quiet_bytes (suc n) bs = ap (λ (l : List ℕ). 255 ∷ l) (quiet_bytes n bs)

pub quiet_first : (n : ℕ) (bs : List Back) → first_driven (replicate n undriven ++ bs) ≡ n + first_driven bs
quiet_first zero bs = omega arith
quiet_first (suc n) bs = let q = quiet_first n bs in omega arith

pub quiet_count : (n : ℕ) (bs : List Back) → driven_count (replicate n undriven ++ bs) ≡ driven_count bs
quiet_count zero bs = refl
quiet_count (suc n) bs = let q = quiet_count n bs in omega arith

-- ---- what is shown

-- the driven bytes come first: c of n
pub record Leading (bs : List Back) (n c : ℕ) : Type 0 where
  pub count : driven_count bs ≡ c
  pub first : first_driven bs ≡ cond (eqb c 0) n 0

pub all_quiet : (n : ℕ) → Leading (replicate n undriven) n 0
all_quiet zero = record { count = refl; first = refl }
all_quiet (suc n) = let q = all_quiet n in record { count = omega (arith, q.count); first = ap suc q.first }

pub all_quiet_bytes : (n : ℕ) → bytes_of (replicate n undriven) ≡ replicate n 255
all_quiet_bytes zero = refl
all_quiet_bytes (suc n) = ap (λ (l : List ℕ). 255 ∷ l) (all_quiet_bytes n)

-- where nothing is shown
pub quiet_rest : (p : Part) (st : Status) (m : List ℕ) (ph : Phase) (n : ℕ) → ((s : Source) (k : ℕ) → ph ≡ Showing s k → ⊥) → rest_back p st m ph n ≡ replicate n undriven
quiet_rest p st m Rest n h = refl
quiet_rest p st m Ignoring n h = refl
quiet_rest p st m (Taking f k v) n h = refl
quiet_rest p st m (Showing s k) n h = absurd (h s k refl)
quiet_rest p st m (Waiting a) n h = refl
quiet_rest p st m (Pending w a) n h = refl

module _ (p : Part) (st : Status) (m : List ℕ) where
  pub memory_bytes : length m ≡ p.size → (n a : ℕ) → bytes_of (shown_from p st m (Memory a) n) ≡ rolled_from m a n
  memory_bytes l zero a = refl
  memory_bytes l (suc n) a = ap (λ (r : List ℕ). get_or m a 0 ∷ r) (memory_bytes l n (next_address p.size a) ∙ rw l)

  pub register_bytes : (n : ℕ) → bytes_of (shown_from p st m Register n) ≡ replicate n (status_byte st)
  register_bytes zero = refl
  register_bytes (suc n) = ap (λ (r : List ℕ). status_byte st ∷ r) (register_bytes n)

  pub identity_bytes : (n i : ℕ) → bytes_of (shown_from p st m (Identity i) n) ≡ identity_from p.identity i n
  identity_bytes zero i = refl
  identity_bytes (suc n) i = by (ltb i 3) (identity_bytes n (i + 1)) (identity_bytes n i)
    where
      by : (t : Bool) → bytes_of (shown_from p st m (Identity (i + 1)) n) ≡ identity_from p.identity (i + 1) n
          → bytes_of (shown_from p st m (Identity i) n) ≡ identity_from p.identity i n
          → bytes_of (cond t (record { byte = get_or p.identity i 0; driven = true }) undriven ∷ shown_from p st m (cond t (Identity (i + 1)) (Identity i)) n)
          ≡ cond t (get_or p.identity i 0) 255 ∷ identity_from p.identity (cond t (i + 1) i) n
      by true h k = ap (λ (r : List ℕ). get_or p.identity i 0 ∷ r) h
      by false h k = ap (λ (r : List ℕ). 255 ∷ r) k

  -- memory and register are driven for ever
  memory_count : (n a : ℕ) → driven_count (shown_from p st m (Memory a) n) ≡ n
  memory_count zero a = refl
  memory_count (suc n) a = let q = memory_count n (next_address p.size a) in omega arith

  register_count : (n : ℕ) → driven_count (shown_from p st m Register n) ≡ n
  register_count zero = refl
  register_count (suc n) = let q = register_count n in omega arith

  -- an identity up to its third byte
  identity_count : (n i : ℕ) → i ≤ 3 → driven_count (shown_from p st m (Identity i) n) ≡ min (3 - i) n
  identity_count zero i h = omega arith
  identity_count (suc n) i h = by (ltb i 3) refl (λ k. identity_count n (i + 1) k) (identity_count n i h)
    where
      by : (t : Bool) → ltb i 3 ≡ t → (i + 1 ≤ 3 → driven_count (shown_from p st m (Identity (i + 1)) n) ≡ min (3 - (i + 1)) n)
          → driven_count (shown_from p st m (Identity i) n) ≡ min (3 - i) n
          → driven_count (cond t (record { byte = get_or p.identity i 0; driven = true }) undriven ∷ shown_from p st m (cond t (Identity (i + 1)) (Identity i)) n)
          ≡ min (3 - i) (suc n)
      by true e f g = let l = ltb-true i 3 e in omega (arith, f (omega arith))
      by false e f g = let l = ltb-false i 3 e in omega (arith, g)

  -- ---- the driven bytes come first

  some_first : (n : ℕ) → cond (eqb (suc n) 0) (suc n) 0 ≡ 0
  some_first n = rw (ne_eqb (suc n) 0 (λ q. omega arith))

  pub memory_leading : (n a : ℕ) → Leading (shown_from p st m (Memory a) n) n n
  memory_leading zero a = record { count = refl; first = refl }
  memory_leading (suc n) a = record { count = memory_count (suc n) a; first = sym (some_first n) }

  pub register_leading : (n : ℕ) → Leading (shown_from p st m Register n) n n
  register_leading zero = record { count = refl; first = refl }
  register_leading (suc n) = record { count = register_count (suc n); first = sym (some_first n) }

  identity_first : (n i : ℕ) → i ≤ 3 → first_driven (shown_from p st m (Identity i) n) ≡ cond (eqb (min (3 - i) n) 0) n 0
  identity_first zero i h = let q : min (3 - i) 0 ≡ 0 = omega arith in rw (eq-eqb (min (3 - i) 0) 0 q)
  identity_first (suc n) i h = by (ltb i 3) refl (identity_first n i h)
    where
      by : (t : Bool) → ltb i 3 ≡ t → first_driven (shown_from p st m (Identity i) n) ≡ cond (eqb (min (3 - i) n) 0) n 0
          → first_driven (cond t (record { byte = get_or p.identity i 0; driven = true }) undriven ∷ shown_from p st m (cond t (Identity (i + 1)) (Identity i)) n)
          ≡ cond (eqb (min (3 - i) (suc n)) 0) (suc n) 0
      by true e g =
          let l = ltb-true i 3 e in
          rw (ne_eqb (min (3 - i) (suc n)) 0 (λ q. omega arith))
      by false e g =
          let l = ltb-false i 3 e in
          let a : min (3 - i) n ≡ 0 = omega arith in
          let b : min (3 - i) (suc n) ≡ 0 = omega arith in
          ap suc g ∙ rw (eq-eqb _ 0 a, eq-eqb _ 0 b)

  pub identity_leading : (n i : ℕ) → i ≤ 3 → Leading (shown_from p st m (Identity i) n) n (min (3 - i) n)
  identity_leading n i h = record { count = identity_count n i h; first = identity_first n i h }

-- ---- a buffer with one byte of an identity more

pub identity_on : (id out : List ℕ) (at i size : ℕ) → at < length out → at < size
    → take (at + 1) (set out at (cond (ltb i 3) (get_or id i 0) 255)) ++ identity_from id (cond (ltb i 3) (i + 1) i) (size - (at + 1))
    ≡ take at out ++ identity_from id i (size - at)
identity_on id out at i size h k =
    let one : size - at ≡ suc (size - (at + 1)) = omega arith in
    rw (one, add-one, take-suc-set, append_snoc)
