-- What SO shows after the bits of a selection is what the ledger reads in them: the bit that their number less h picks out of the
-- bytes of the command. For every part that fits, by the fields of a command. Assumes nothing.
use Prim.Native.Nat.{ℕ, zero, suc, ◌+◌, ◌-◌, ◌/◌, ◌%◌, ◌<◌}
use mathlib.Core.Path.{◌≡◌, refl, sym, ◌∙◌}
use mathlib.Core.Bool.{Bool, true, false, cond, false≢true}
use mathlib.Core.List.{List, [], ◌∷◌}
use native.Mathlib.Nat.{mod-lt}
use native.Mathlib.Omega.{arith}
use lib.Dec.{ltb}
use lib.ListN.{length, get_or}
use borrow.Author.Tests.{lt-ltb, le-ltb}
use Rattle.parts.specs.declared.part.Part.{Part}
use Rattle.parts.specs.declared.status.Status.{Status}
use Rattle.parts.specs.Status.{status_byte}
use Rattle.serial.specs.Bits.{shifted}
use Rattle.selection.specs.declared.opcode.Command.{Command}
use Rattle.selection.specs.declared.opcode.Command.TheVariants.{WREN, WRDI, RDSR, WRSR, READ, WRITE, FSTRD, RDID, SLEEP, Unknown}
use Rattle.selection.specs.declared.phase.Field.{Field}
use Rattle.selection.specs.declared.phase.Field.TheVariants.{Opcode, ReadAddress, FastAddress, WriteAddress, Dummy, Data, StatusByte}
use Rattle.selection.specs.declared.phase.Phase.{Phase}
use Rattle.selection.specs.declared.phase.Phase.TheVariants.{Rest, Ignoring, Taking, Showing, Waiting, Pending}
use Rattle.selection.specs.declared.phase.Source.TheVariants.{Memory, Register, Identity}
use Rattle.selection.specs.Opcode.{command_of}
use Rattle.selection.specs.Phase.{width, phase_after_opcode, phase_after_field, after_rise}
use Rattle.ledger.specs.Bits.{number_after, number, FieldBits, short, whole, put, field}
use Rattle.ledger.specs.SpiLedger.{command, opcode_read, reading, address_in}
use Rattle.ledger.specs.SpiAnswers.{Output, nothing, byte, bit_shown, read_shows}
use Rattle.ledger.proofs.SpiSources as Sources

same_two : (t : Bool) → ◌≡◌ {A = ℕ} (cond t 2 2) 2
same_two true = refl
same_two false = refl

-- ---- a field: how many bits it takes of a list

abbrev pub Counted : ℕ → List Bool → FieldBits → Type 0
Counted r bs (short xs) = length bs < r
Counted r bs (whole xs rest) = length bs ≡ r + length rest

counted_put : (r : ℕ) (x : Bool) (bs : List Bool) (y : FieldBits) → Counted r bs y → Counted (suc r) (x ∷ bs) (put x y)
counted_put r x bs (short xs) h = omega arith
counted_put r x bs (whole xs rest) h = omega arith

pub counted : (r : ℕ) (bs : List Bool) → Counted r bs (field r bs)
counted zero bs = omega arith
counted (suc r) [] = omega arith
counted (suc r) (x ∷ bs) = counted_put r x bs (field r bs) (counted r bs)

module _ (p : Part) (positive : 0 < p.size) where
  -- ---- phases that never come to show anything

  abbrev mute_field : Field → Bool
  mute_field Opcode = false
  mute_field ReadAddress = false
  mute_field FastAddress = false
  mute_field WriteAddress = true
  mute_field (Dummy a) = false
  mute_field (Data a w) = true
  mute_field StatusByte = true

  abbrev mute : Phase → Bool
  mute Rest = true
  mute Ignoring = true
  mute (Taking f n v) = mute_field f
  mute (Showing s k) = false
  mute (Waiting a) = true
  mute (Pending v a) = true

  mute_either : (t : Bool) (a b : Phase) → mute a ≡ true → mute b ≡ true → mute (cond t a b) ≡ true
  mute_either true a b h h' = h
  mute_either false a b h h' = h'

  mute_after_field : (f : Field) (v : ℕ) → mute_field f ≡ true → mute (phase_after_field p f v) ≡ true
  mute_after_field WriteAddress v h = refl
  mute_after_field (Data a w) v h = mute_either p.late _ _ refl refl
  mute_after_field StatusByte v h = refl
  mute_after_field Opcode v h = absurd (false≢true h)
  mute_after_field ReadAddress v h = absurd (false≢true h)
  mute_after_field FastAddress v h = absurd (false≢true h)
  mute_after_field (Dummy a) v h = absurd (false≢true h)

  mute_rise : (ph : Phase) (x : Bool) → mute ph ≡ true → mute (after_rise p ph x) ≡ true
  mute_rise Rest x h = refl
  mute_rise Ignoring x h = refl
  mute_rise (Taking f n v) x h = mute_either (ltb (n + 1) (width p f)) _ _ h (mute_after_field f (shifted v x) h)
  mute_rise (Showing s k) x h = absurd (false≢true h)
  mute_rise (Waiting a) x h = refl
  mute_rise (Pending v a) x h = refl

  module _ (st : Status) (m : List ℕ) where
    -- the answer after a counted fall, where nothing was shown before: of a phase, and after bits from a phase on
    abbrev shows : Phase → ℕ
    shows = Sources.phase_shows p positive st m

    abbrev out : Phase → List Bool → ℕ
    out = Sources.out p positive st m

    -- ---- a field: short of its width nothing is shown, and whole it begins what follows

    module _ (f : Field) where
      abbrev taken : ℕ → FieldBits → ℕ
      taken v (short xs) = 2
      taken v (whole xs rest) = out (phase_after_field p f (number_after v xs)) rest

      taken_put : (v : ℕ) (x : Bool) (bs : FieldBits) → taken v (put x bs) ≡ taken (shifted v x) bs
      taken_put v x (short xs) = refl
      taken_put v x (whole xs rest) = refl

      -- with n bits in, which make v, and r to come
      taking : (r n v : ℕ) (bs : List Bool) → 0 < r → n + r ≡ width p f → out (Taking f n v) bs ≡ taken v (field r bs)
      taking zero n v bs h w = absurd (omega arith)
      taking (suc r) n v [] h w = refl
      taking (suc zero) n v (x ∷ bs) h w = rw (le-ltb (n + 1) (width p f) (omega arith))
      taking (suc (suc r)) n v (x ∷ bs) h w =
          rw (lt-ltb (n + 1) (width p f) (omega arith))
          (taking (suc r) (n + 1) (shifted v x) bs (omega arith) (omega arith) ∙ sym (taken_put v x (field (suc r) bs)))

      from_start : 0 < width p f → (bs : List Bool) → out (Taking f 0 0) bs ≡ taken 0 (field (width p f) bs)
      from_start wide bs = taking (width p f) 0 0 bs wide (omega arith)

    -- ---- a command

    mute_shows : (ph : Phase) → mute ph ≡ true → shows ph ≡ 2
    mute_shows Rest h = refl
    mute_shows Ignoring h = refl
    mute_shows (Taking f n v) h = refl
    mute_shows (Showing s k) h = absurd (false≢true h)
    mute_shows (Waiting a) h = refl
    mute_shows (Pending v a) h = refl

    mute_out : (ph : Phase) (bs : List Bool) → mute ph ≡ true → out ph bs ≡ 2
    mute_out ph [] h = mute_shows ph h
    mute_out ph (x ∷ bs) h = mute_out (after_rise p ph x) bs (mute_rise ph x h)

    silent : (ph : Phase) (rest : List Bool) (n h : ℕ) → mute ph ≡ true → out ph rest ≡ cond (ltb n h) 2 2
    silent ph rest n h q = mute_out ph rest q ∙ sym (same_two (ltb n h))

    module _ (wide : 0 < p.width) where
      -- the byte at an address and i further
      abbrev from : ℕ → ℕ → Output
      from a i = byte (get_or m ((a + i) % p.size) 0)

      -- after h rises, at a fall after n
      abbrev shown_from : ℕ → ℕ → ℕ → ℕ
      shown_from a n h = cond (ltb n h) 2 (bit_shown (from a ((n - h) / 8)) ((n - h) % 8))

      read : (rest : List Bool) → out (Taking ReadAddress 0 0) rest ≡ read_shows p st m (command READ rest) (8 + length rest)
      read rest = from_start ReadAddress wide rest ∙ by (field p.width rest) (counted p.width rest)
        where
          by : (y : FieldBits) → Counted p.width rest y → taken ReadAddress 0 y ≡ shown_from (address_in p y) (8 + length rest) (8 + p.width)
          by (short xs) l = rw (lt-ltb (8 + length rest) (8 + p.width) (omega arith))
          by (whole xs more) l =
              let a : ℕ = number xs % p.size in
              Sources.from_h p positive st m (Memory a) (from a) (λ i k. Sources.memory_bit p positive st m a i k (mod-lt (number xs) positive)) more (8 + p.width) (8 + length rest) (omega arith)

      -- after the address, of which n rises came before and with the opcode, the dummy byte
      dummy : (a n h : ℕ) (bs : List Bool) → a < p.size → n + 8 ≡ h + length bs → out (Taking (Dummy a) 0 0) bs ≡ shown_from a n h
      dummy a n h bs l q = from_start (Dummy a) (omega arith) bs ∙ by (field 8 bs) (counted 8 bs)
        where
          by : (y : FieldBits) → Counted 8 bs y → taken (Dummy a) 0 y ≡ shown_from a n h
          by (short xs) c = rw (lt-ltb n h (omega arith))
          by (whole xs more) c = Sources.from_h p positive st m (Memory a) (from a) (λ i k. Sources.memory_bit p positive st m a i k l) more h n (omega arith)

      fast : (rest : List Bool) → out (Taking FastAddress 0 0) rest ≡ read_shows p st m (command FSTRD rest) (8 + length rest)
      fast rest = from_start FastAddress wide rest ∙ by (field p.width rest) (counted p.width rest)
        where
          by : (y : FieldBits) → Counted p.width rest y → taken FastAddress 0 y ≡ shown_from (address_in p y) (8 + length rest) (8 + p.width + 8)
          by (short xs) l = rw (lt-ltb (8 + length rest) (8 + p.width + 8) (omega arith))
          by (whole xs more) l = dummy (number xs % p.size) (8 + length rest) (8 + p.width + 8) more (mod-lt (number xs) positive) (omega arith)

      commands : (k : Command) (rest : List Bool) → out (phase_after_opcode k) rest ≡ read_shows p st m (command k rest) (8 + length rest)
      commands WREN rest = silent (phase_after_opcode WREN) rest (8 + length rest) 8 refl
      commands WRDI rest = silent (phase_after_opcode WRDI) rest (8 + length rest) 8 refl
      commands RDSR rest = Sources.from_h p positive st m Register (λ i. byte (status_byte st)) (Sources.status_bit p positive st m) rest 8 (8 + length rest) refl
      commands WRSR rest = silent (phase_after_opcode WRSR) rest (8 + length rest) 8 refl
      commands READ rest = read rest
      commands WRITE rest = silent (phase_after_opcode WRITE) rest (8 + length rest) 8 refl
      commands FSTRD rest = fast rest
      commands RDID rest =
          Sources.from_h p positive st m (Identity 0) (λ i. cond (ltb i 3) (byte (get_or p.identity i 0)) nothing) (Sources.identity_bit p positive st m) rest 8 (8 + length rest) refl
      commands SLEEP rest = silent (phase_after_opcode SLEEP) rest (8 + length rest) 8 refl
      commands Unknown rest = silent (phase_after_opcode Unknown) rest (8 + length rest) 8 refl

      -- a fall after the bits of a selection shows what the ledger reads in them
      pub selection_shows : (bs : List Bool) → out (Taking Opcode 0 0) bs ≡ read_shows p st m (reading p bs) (length bs)
      selection_shows bs = from_start Opcode (omega arith) bs ∙ by (field 8 bs) (counted 8 bs)
        where
          by : (y : FieldBits) → Counted 8 bs y → taken Opcode 0 y ≡ read_shows p st m (opcode_read p y) (length bs)
          by (short xs) c = refl
          by (whole xs rest) c = rw c (commands (command_of p (number xs)) rest)
