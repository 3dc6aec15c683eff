-- Eight bits at a byte's border are one byte step: what they make of the phase, store and bring back. For every part, by the phases, over
-- its size and address width. Assumes nothing.
use Prim.Native.Nat.{ℕ, zero, suc, ◌+◌, ◌*◌, ◌/◌, ◌%◌, ◌^◌, ◌<◌, ◌≤◌}
use mathlib.Core.Path.{◌≡◌, refl, ap, ◌∙◌}
use mathlib.Core.Bool.{Bool, true, false, cond}
use mathlib.Core.List.{List, [], ◌∷◌}
use native.Mathlib.Omega.{arith}
use lib.Dec.{eqb, ltb}
use lib.ListN.{length, get_or, replicate}
use borrow.Author.Tests.{lt-ltb}
use Rattle.parts.specs.declared.answer.Answer.TheVariants.{HighZ}
use Rattle.parts.specs.declared.part.Part.{Part}
use Rattle.parts.specs.declared.status.Status.{Status}
use Rattle.parts.specs.Numbers.{answer_number, level_of}
use Rattle.parts.specs.Status.{bit, status_byte}
use Rattle.parts.specs.Table.{part_of}
use Rattle.std.specs.Prelude.{None}
use Rattle.serial.specs.Bits.{shifted, bit_at}
use Rattle.serial.specs.Write.{applied}
use Rattle.serial.proofs.BitLaws.{bit_small}
use Rattle.selection.specs.declared.phase.Field.{Field}
use Rattle.selection.specs.declared.phase.Field.TheVariants.{Opcode, ReadAddress, FastAddress, WriteAddress, Dummy, Data, StatusByte}
use Rattle.selection.specs.declared.phase.Phase.{Phase}
use Rattle.selection.specs.declared.phase.Phase.TheVariants.{Rest, Ignoring, Taking, Showing, Waiting, Pending}
use Rattle.selection.specs.declared.phase.Source.{Source}
use Rattle.selection.specs.declared.phase.Source.TheVariants.{Memory, Register, Identity}
use Rattle.selection.specs.Phase.{width, phase_after_field}
use Rattle.spi.specs.Store.{field_write}
use Rattle.byte_path.specs.PinPath.{bits_of, back_bit, back_from, driven_in, back_of}
use Rattle.byte_path.specs.ByBytes.{AtBorder, phase_after_byte, field_stores, byte_write, undriven, source_back, byte_back}
use Rattle.byte_path.proofs.PinLaws.{phase_bits, memory_bits, answer_bits}

-- a list of bytes
abbrev pub AllBytes : List ℕ → Type 0
AllBytes m = (a : ℕ) → get_or m a 0 < 256

-- ---- a byte and its bits

-- the number that bits make after the number w
abbrev number_bits : ℕ → List Bool → ℕ
number_bits w [] = w
number_bits w (b ∷ bs) = number_bits (shifted w b) bs

bit_back : (x : ℕ) → bit (eqb (x % 2) 1) ≡ x % 2
bit_back x = by (x % 2) (omega arith)
  where
    by : (y : ℕ) → y < 2 → bit (eqb y 1) ≡ y
    by zero h = refl
    by (suc zero) h = refl
    by (suc (suc y)) h = absurd (omega arith)

-- a number halved eight times, with the bits left over
from_halves : (w v a b c d e f g : ℕ) (x₇ x₆ x₅ x₄ x₃ x₂ x₁ x₀ : Bool)
    → v ≡ 2 * a + bit x₇ → a ≡ 2 * b + bit x₆ → b ≡ 2 * c + bit x₅ → c ≡ 2 * d + bit x₄ → d ≡ 2 * e + bit x₃ → e ≡ 2 * f + bit x₂ → f ≡ 2 * g + bit x₁
    → g ≡ bit x₀ → number_bits w (x₀ ∷ x₁ ∷ x₂ ∷ x₃ ∷ x₄ ∷ x₅ ∷ x₆ ∷ x₇ ∷ []) ≡ 256 * w + v
from_halves w v a b c d e f g x₇ x₆ x₅ x₄ x₃ x₂ x₁ x₀ p₁ p₂ p₃ p₄ p₅ p₆ p₇ p₈ = omega arith

-- those of a byte make it
eight_bits_lem : (w v : ℕ) → v < 256 → number_bits w (bits_of v) ≡ 256 * w + v
eight_bits_lem w v h =
    from_halves w v (v / 2) (v / 4) (v / 8) (v / 16) (v / 32) (v / 64) (v / 128) (bit_at v 7) (bit_at v 6) (bit_at v 5) (bit_at v 4) (bit_at v 3) (bit_at v 2)
    (bit_at v 1) (bit_at v 0) (omega (arith, bit_back (v / 2 ^ 0))) (omega (arith, bit_back (v / 2 ^ 1))) (omega (arith, bit_back (v / 2 ^ 2)))
    (omega (arith, bit_back (v / 2 ^ 3))) (omega (arith, bit_back (v / 2 ^ 4))) (omega (arith, bit_back (v / 2 ^ 5))) (omega (arith, bit_back (v / 2 ^ 6)))
    (omega (arith, bit_back (v / 2 ^ 7)))

byte_bits : (v : ℕ) → v < 256 → number_bits 0 (bits_of v) ≡ v
byte_bits v h = eight_bits_lem 0 v h ∙ omega arith

-- a status byte is a byte
status_below : (st : Status) → status_byte st < 256
status_below st = omega (arith, bit_small st.srwd, bit_small st.bp1, bit_small st.bp0, bit_small st.wel)

-- ---- what comes back

-- a driven bit comes back as it is
answer_bit : (b : Bool) → answer_number (level_of b) ≡ bit b
answer_bit true = refl
answer_bit false = refl

back_bit_lem : (b : Bool) → back_bit (bit b) ≡ bit b
back_bit_lem true = refl
back_bit_lem false = refl

not_two : (b : Bool) → eqb (answer_number (level_of b)) 2 ≡ false
not_two true = refl
not_two false = refl

-- the answers of the eight bits of a byte that is shown
abbrev shown : ℕ → List ℕ
shown v =
    answer_number (level_of (bit_at v 0)) ∷ answer_number (level_of (bit_at v 1)) ∷ answer_number (level_of (bit_at v 2)) ∷ answer_number (level_of (bit_at v 3))
    ∷ answer_number (level_of (bit_at v 4)) ∷ answer_number (level_of (bit_at v 5)) ∷ answer_number (level_of (bit_at v 6)) ∷ answer_number (level_of (bit_at v 7)) ∷ []

shown_back : (v : ℕ) → v < 256 → back_of (shown v) ≡ record { byte = v; driven = true }
shown_back v h =
    let e : back_from 0 (shown v) ≡ v =
    simp (answer_bit, back_bit_lem) (byte_bits v h) in
    let d : driven_in (shown v) ≡ true = rw (not_two (bit_at v 0)) in
    rw (e, d)

-- ---- the phases

module _ (part pins : ℕ) (st : Status) (z wp : Bool) where
  abbrev row : Part
  row = part_of part

  -- what the bits bs of a byte v do is one byte step
  pub record Stepped (ph : Phase) (m : List ℕ) (v : ℕ) (bs : List Bool) : Type 0 where
    pub phase : phase_bits part pins st z wp ph bs ≡ phase_after_byte row ph v
    pub memory : memory_bits part pins st z wp ph m bs ≡ applied (byte_write row st ph v) m
    pub back : back_of (answer_bits part pins st z wp ph m bs) ≡ byte_back row st m ph

  -- ---- bits of a field that has room for them: they make its number, nothing is shown on the way, and nothing stored but for a data byte

  module _ (f : Field) where
    abbrev after_bits : ℕ → ℕ → Phase
    after_bits n v = cond (ltb n (width row f)) (Taking f n v) (phase_after_field row f v)

    field_phase : (bs : List Bool) (b : Bool) (n w : ℕ) → n + suc (length bs) ≤ width row f
        → phase_bits part pins st z wp (Taking f n w) (b ∷ bs) ≡ after_bits (n + suc (length bs)) (number_bits w (b ∷ bs))
    field_phase [] b n w room = refl
    field_phase (c ∷ bs) b n w room =
        let q : n + suc (suc (length bs)) ≡ n + 1 + suc (length bs) = omega arith in
        rw (lt-ltb (n + 1) (width row f) (omega arith), q) (field_phase bs c (n + 1) (shifted w b) (omega arith))

    field_answers : (bs : List Bool) (n w : ℕ) (m : List ℕ) → n + length bs ≤ width row f
        → answer_bits part pins st z wp (Taking f n w) m bs ≡ replicate (length bs) 2
    field_answers [] n w m room = refl
    field_answers (b ∷ []) n w m room = refl
    field_answers (b ∷ c ∷ bs) n w m room =
        rw (lt-ltb (n + 1) (width row f) (omega arith)) (ap (λ (l : List ℕ). 2 ∷ l) (field_answers (c ∷ bs) (n + 1) (shifted w b) _ (omega arith)))

    field_memory_lem : ((k v : ℕ) (x : Bool) → field_write row st f k v x ≡ None) → (bs : List Bool) (n w : ℕ) (m : List ℕ) → n + length bs ≤ width row f
        → memory_bits part pins st z wp (Taking f n w) m bs ≡ m
    field_memory_lem still [] n w m room = refl
    field_memory_lem still (b ∷ []) n w m room = rw (still n w b)
    field_memory_lem still (b ∷ c ∷ bs) n w m room =
        rw (still n w b, lt-ltb (n + 1) (width row f) (omega arith)) (field_memory_lem still (c ∷ bs) (n + 1) (shifted w b) m (omega arith))

    -- a byte of a field that is no data byte
    field_stepped : ((k v : ℕ) (x : Bool) → field_write row st f k v x ≡ None) → ((v : ℕ) → field_stores row st f v ≡ None)
        → (n w v : ℕ) (m : List ℕ) → v < 256 → n + 8 ≤ width row f → Stepped (Taking f n w) m v (bits_of v)
    field_stepped still none n w v m h room =
        record {
          phase = rw (field_phase _ (bit_at v 0) n w room, eight_bits_lem w v h);
          memory = rw (none v) (field_memory_lem still (bits_of v) n w m room);
          back = ap back_of (field_answers (bits_of v) n w m room);
        }

  -- ---- each phase

  whole_data : (a : ℕ) (y : Bool) (v : ℕ) (m : List ℕ) → v < 256 → Stepped (Taking (Data a y) 0 0) m v (bits_of v)
  whole_data a y v m h = record { phase = rw (eight_bits_lem 0 v h); memory = rw (byte_bits v h); back = refl }

  -- after one that waits: the first bit stores it, the last leaves the next one waiting
  whole_next : (a w v : ℕ) (m : List ℕ) → row.late ≡ true → v < 256 → Stepped (Pending w a) m v (bits_of v)
  whole_next a w v m late h = record { phase = rw (late, byte_bits v h); memory = rw late; back = refl }

  shown_stepped : AllBytes row.identity → (s : Source) (v : ℕ) (m : List ℕ) → AllBytes m → Stepped (Showing s 0) m v (bits_of v)
  shown_stepped bytes s v m fits = record { phase = refl; memory = refl; back = by s }
    where
      by_identity : (i : ℕ) (t : Bool)
          → back_of
          (answer_number (cond t (level_of (bit_at (get_or row.identity i 0) 0)) HighZ) ∷ answer_number (cond t (level_of (bit_at (get_or row.identity i 0) 1)) HighZ)
          ∷ answer_number (cond t (level_of (bit_at (get_or row.identity i 0) 2)) HighZ) ∷ answer_number (cond t (level_of (bit_at (get_or row.identity i 0) 3)) HighZ)
          ∷ answer_number (cond t (level_of (bit_at (get_or row.identity i 0) 4)) HighZ) ∷ answer_number (cond t (level_of (bit_at (get_or row.identity i 0) 5)) HighZ)
          ∷ answer_number (cond t (level_of (bit_at (get_or row.identity i 0) 6)) HighZ) ∷ answer_number (cond t (level_of (bit_at (get_or row.identity i 0) 7)) HighZ) ∷ [])
          ≡ cond t (record { byte = get_or row.identity i 0; driven = true }) undriven
      by_identity i true = shown_back (get_or row.identity i 0) (bytes i)
      by_identity i false = refl

      by : (s : Source) → back_of (answer_bits part pins st z wp (Showing s 0) m (bits_of v)) ≡ source_back row st m s
      by (Memory a) = shown_back (get_or m a 0) (fits a)
      by Register = shown_back (status_byte st) (status_below st)
      by (Identity i) = by_identity i (ltb i 3)

  -- ---- any phase at a byte's border

  data_start : (a : ℕ) (y : Bool) (n w v : ℕ) (m : List ℕ) → v < 256 → n < 8 → n % 8 ≡ 0 → w < 2 ^ n → Stepped (Taking (Data a y) n w) m v (bits_of v)
  data_start a y n w v m h l q r =
      let e : n ≡ 0 = omega arith in
      let k : w < 2 ^ 0 = rw e at r in
      let d : w ≡ 0 = omega arith in
      rw (e, d) (whole_data a y v m h)

  module _ (whole : row.width % 8 ≡ 0) (bytes : AllBytes row.identity) where
    pub byte_stepped : (ph : Phase) (m : List ℕ) (v : ℕ) → AtBorder row ph → AllBytes m → v < 256 → Stepped ph m v (bits_of v)
    byte_stepped Rest m v b fits h = record { phase = refl; memory = refl; back = refl }
    byte_stepped Ignoring m v b fits h = record { phase = refl; memory = refl; back = refl }
    byte_stepped (Waiting a) m v b fits h = record { phase = refl; memory = refl; back = refl }
    byte_stepped (Pending w a) m v (late, small) fits h = whole_next a w v m late h
    byte_stepped (Showing s k) m v b fits h = rw b (shown_stepped bytes s v m fits)
    byte_stepped (Taking Opcode n w) m v (q, l, r) fits h = field_stepped Opcode (λ k u x. refl) (λ u. refl) n w v m h (omega arith)
    byte_stepped (Taking ReadAddress n w) m v (q, l, r) fits h = field_stepped ReadAddress (λ k u x. refl) (λ u. refl) n w v m h (omega arith)
    byte_stepped (Taking FastAddress n w) m v (q, l, r) fits h = field_stepped FastAddress (λ k u x. refl) (λ u. refl) n w v m h (omega arith)
    byte_stepped (Taking WriteAddress n w) m v (q, l, r) fits h = field_stepped WriteAddress (λ k u x. refl) (λ u. refl) n w v m h (omega arith)
    byte_stepped (Taking (Dummy a) n w) m v (q, l, r) fits h = field_stepped (Dummy a) (λ k u x. refl) (λ u. refl) n w v m h (omega arith)
    byte_stepped (Taking (Data a y) n w) m v (q, l, r) fits h = data_start a y n w v m h l q r
    byte_stepped (Taking StatusByte n w) m v (q, l, r) fits h = field_stepped StatusByte (λ k u x. refl) (λ u. refl) n w v m h (omega arith)
