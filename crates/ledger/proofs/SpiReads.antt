-- What the bits of a selection make an SPI part do is what the ledger reads in them: its status register and sleep once CS#
-- rises, what it has stored until then, and what it has stored once CS# has risen. For every part whose addresses have bits, whether it
-- stores late or not, by the fields of a command. Assumes nothing.
use Prim.Native.Nat.{ℕ, zero, suc, ◌+◌, ◌%◌, ◌<◌}
use mathlib.Core.Path.{◌≡◌, refl, sym, ap, ◌∙◌}
use mathlib.Core.Bool.{Bool, true, false, cond, ◌&&◌}
use mathlib.Core.List.{List, [], ◌∷◌, ◌++◌, map, append_assoc, append-nil}
use native.Mathlib.Omega.{arith}
use lib.Dec.{ltb}
use borrow.Author.Tests.{lt-ltb, le-ltb}
use Rattle.parts.specs.declared.part.Part.{Part}
use Rattle.parts.specs.declared.status.Status.{Status}
use Rattle.parts.specs.Status.{protected_start}
use Rattle.std.specs.Prelude.{None}
use Rattle.serial.specs.Write.{write_at}
use Rattle.serial.specs.Address.{next_address}
use Rattle.serial.specs.Bits.{shifted}
use Rattle.selection.specs.declared.opcode.Command.{Command}
use Rattle.selection.specs.declared.opcode.Command.TheVariants.{WREN, WRDI, RDSR, WRSR, READ, WRITE, FSTRD, RDID, SLEEP, Unknown}
use Rattle.selection.specs.declared.phase.Action.{Action}
use Rattle.selection.specs.declared.phase.Action.TheVariants.{SetLatch, ClearLatch, FallAsleep, WriteStatus}
use Rattle.selection.specs.declared.phase.Field.{Field}
use Rattle.selection.specs.declared.phase.Field.TheVariants.{Opcode, ReadAddress, FastAddress, WriteAddress, Dummy, Data, StatusByte}
use Rattle.selection.specs.declared.phase.Phase.{Phase}
use Rattle.selection.specs.declared.phase.Phase.TheVariants.{Ignoring, Taking, Showing, Waiting, Pending}
use Rattle.selection.specs.declared.phase.Source.{Source}
use Rattle.selection.specs.declared.phase.Source.TheVariants.{Memory, Register, Identity}
use Rattle.spi_status.specs.Deselect.{field_status, status_after, sleeps}
use Rattle.selection.specs.Opcode.{command_of}
use Rattle.selection.specs.Phase.{width, phase_after_opcode, data_after, phase_after_field, next_source, after_rise}
use Rattle.spi.specs.Store.{permitted, field_write, rise_write, end_write}
use Rattle.ledger.specs.Bits.{number_after, number, FieldBits, short, whole, put, field, eight_bits, bytes}
use Rattle.ledger.specs.Groups.{groups_from}
use Rattle.ledger.specs.Stores.{Store}
use Rattle.ledger.specs.SpiLedger.{unended, ended, Reading, command, opcode_read, reading, after_address, address_in, all_but_last, followed_bits, is_sleep, unless_any, enable_after, SavedBits, bits_in, register, status_write, bits_after, placed, stores}
use Rattle.ledger.proofs.Folds.{after, given, given_snoc}
use Rattle.ledger.proofs.GroupLaws.{number_snoc, first_bytes, first_byte}
use Rattle.ledger.proofs.StoreLaws.{stores_of}

-- the phase after counted rises with these bits, and what they store
abbrev pub phase_after : Part → Phase → List Bool → Phase
phase_after p = after (after_rise p)

abbrev pub rise_stores : Part → Status → Phase → Bool → List Store
rise_stores p st ph x = stores_of (rise_write p st ph x)

abbrev pub wrote : Part → Status → Phase → List Bool → List Store
wrote p st = given (after_rise p) (rise_stores p st)

-- what CS# rising stores
abbrev pub end_stores : Part → Status → Phase → List Store
end_stores p st ph = stores_of (end_write p st ph)

-- what a selection does: status register and sleep after it, what its bits store, and that with what its end adds
pub record Effect : Type 0 where
  pub status : Status
  pub sleep : Bool
  pub stores : List Store
  pub all : List Store

-- the part's, from a phase on, if CS# rises after these bits at a sample with WP# at wp
abbrev pub effect : Part → Status → Bool → Phase → List Bool → Effect
effect p st wp ph bs =
    record {
      status = status_after st wp (phase_after p ph bs);
      sleep = sleeps (phase_after p ph bs);
      stores = wrote p st ph bs;
      all = wrote p st ph bs ++ end_stores p st (phase_after p ph bs);
    }

-- the ledger's, with the bits b and the enable e
abbrev pub said : Part → SavedBits → Bool → Bool → Reading → Effect
said p b e wp r =
    record {
      status = register (bits_after r e wp b) (enable_after p (ended wp) r e);
      sleep = is_sleep r;
      stores = cond e (stores p b unended r) [];
      all = cond e (stores p b (ended wp) r) [];
    }

-- an effect after some stores
abbrev following : List Store → Effect → Effect
following ws x = record { status = x.status; sleep = x.sleep; stores = ws ++ x.stores; all = ws ++ x.all }

-- without stores the enable does not matter
pub no_stores : (e : Bool) → ◌≡◌ {A = List Store} (cond e [] []) []
no_stores true = refl
no_stores false = refl

-- what is off stays off
unless_off : (vs : List ℕ) → unless_any vs false ≡ false
unless_off [] = refl
unless_off (v ∷ vs) = refl

-- one byte, unprotected (t) or not, before others
one_byte : (e t : Bool) (a v : ℕ) (ws : List Store)
    → stores_of (cond (e && t) (write_at a v) None) ++ cond e ws [] ≡ cond e (cond t (record { address = a; value = v } ∷ ws) ws) []
one_byte true true a v ws = refl
one_byte true false a v ws = refl
one_byte false t a v ws = refl

-- a status register taken whole or not at all
either_bits : (t : Bool) (b c : SavedBits) → cond t (register b false) (register c false) ≡ register (cond t b c) false
either_bits true b c = refl
either_bits false b c = refl

module _ (p : Part) (b : SavedBits) (e wp : Bool) where
  abbrev does : Phase → List Bool → Effect
  does = effect p (register b e) wp

  abbrev says : Reading → Effect
  says = said p b e wp

  -- no effect
  abbrev none : Effect
  none = record { status = register b e; sleep = false; stores = []; all = [] }

  -- a bit, and those after it
  bit_before : (ph : Phase) (x : Bool) (bs : List Bool) → does ph (x ∷ bs) ≡ following (rise_stores p (register b e) ph x) (does (after_rise p ph x) bs)
  bit_before ph x bs = rw append_assoc

  -- ---- phases in which bits change nothing

  ignoring : (bs : List Bool) → does Ignoring bs ≡ none
  ignoring [] = refl
  ignoring (x ∷ bs) = ignoring bs

  waiting : (a : Action) (bs : List Bool) → does (Waiting a) bs ≡ does (Waiting a) []
  waiting a [] = refl
  waiting a (x ∷ bs) = waiting a bs

  showing : (s : Source) (k : ℕ) (bs : List Bool) → does (Showing s k) bs ≡ none
  showing s k [] = refl
  showing s k (x ∷ bs) = either (ltb k 7) (showing s (k + 1) bs) (showing (next_source p s) 0 bs)
    where
      either : (t : Bool) → does (Showing s (k + 1)) bs ≡ none → does (Showing (next_source p s) 0) bs ≡ none
          → does (cond t (Showing s (k + 1)) (Showing (next_source p s) 0)) bs ≡ none
      either true h h' = h
      either false h h' = h'

  -- ---- a field, all but a data byte: short of its width it does nothing, and whole it begins what follows

  module _ (f : Field) (still : (n v : ℕ) (x : Bool) → field_write p (register b e) f n v x ≡ None) where
    abbrev taken : ℕ → FieldBits → Effect
    taken v (short xs) = does (Taking f 0 0) []
    taken v (whole xs rest) = does (phase_after_field p f (number_after v xs)) rest

    taken_put : (v : ℕ) (x : Bool) (bs : FieldBits) → taken v (put x bs) ≡ taken (shifted v x) bs
    taken_put v x (short xs) = refl
    taken_put v x (whole xs rest) = refl

    -- with n bits in, which make v, and r to come
    taking : (r n v : ℕ) (bs : List Bool) → 0 < r → n + r ≡ width p f → does (Taking f n v) bs ≡ taken v (field r bs)
    taking zero n v bs h w = absurd (omega arith)
    taking (suc r) n v [] h w = refl
    taking (suc zero) n v (x ∷ bs) h w = rw (still n v x, le-ltb (n + 1) (width p f) (omega arith))
    taking (suc (suc r)) n v (x ∷ bs) h w =
        rw (still n v x, lt-ltb (n + 1) (width p f) (omega arith))
        (taking (suc r) (n + 1) (shifted v x) bs (omega arith) (omega arith) ∙ sym (taken_put v x (field (suc r) bs)))

    -- from its first bit on
    from_start : 0 < width p f → (bs : List Bool) → does (Taking f 0 0) bs ≡ taken 0 (field (width p f) bs)
    from_start wide bs = taking (width p f) 0 0 bs wide (omega arith)

    -- a field of a command that only shows
    idle : 0 < width p f → field_status (register b e) f ≡ register b e → ((v : ℕ) (rest : List Bool) → does (phase_after_field p f v) rest ≡ none)
        → (bs : List Bool) → does (Taking f 0 0) bs ≡ none
    idle wide same next bs = from_start wide bs ∙ by (field (width p f) bs)
      where
        by : (y : FieldBits) → taken 0 y ≡ none
        by (short xs) = rw same
        by (whole xs rest) = next (number xs) rest

  -- ---- the data bytes of WRITE at the address a, after one (w) or none: us before CS# rises, and vs once it has risen

  abbrev says_data : ℕ → Bool → List ℕ → List ℕ → Effect
  says_data a w us vs =
      record {
        status = register b (unless_any vs (cond w false e));
        sleep = false;
        stores = cond e (placed p b a us) [];
        all = cond e (placed p b a vs) [];
      }

  -- a byte v of WRITE, and those after it
  byte_placed : (a v : ℕ) (vs : List ℕ)
      → stores_of (permitted p (register b e) a v) ++ cond e (placed p b (next_address p.size a) vs) [] ≡ cond e (placed p b a (v ∷ vs)) []
  unfolding protected_start
  byte_placed a v vs = one_byte e (ltb a (protected_start (register b e) p)) a v (placed p b (next_address p.size a) vs)

  -- no bit more
  no_bit : (a n v : ℕ) (w : Bool) → does (Taking (Data a w) n v) [] ≡ says_data a w [] []
  no_bit a n v true = rw no_stores
  no_bit a n v false = rw no_stores

  -- one bit more of a byte whose bits xs are in, n of them, and not its last
  one_bit : (x : Bool) (bs xs : List Bool) (a n : ℕ) (w : Bool) → n < 7
      → does (Taking (Data a w) n (number xs)) (x ∷ bs) ≡ does (Taking (Data a w) (n + 1) (number (xs ++ (x ∷ [])))) bs
  one_bit x bs xs a n w h = rw (lt-ltb n 7 h, lt-ltb (n + 1) 8 (omega arith), number_snoc)

  -- its last bit makes it whole: on a part that stores late (t) it then waits, on any other it is stored
  abbrev finished : Bool → ℕ → ℕ → List Bool → Effect
  finished t a v bs =
      following (stores_of (cond t None (permitted p (register b e) a v))) (does (cond t (Pending v a) (Taking (data_after p a) 0 0)) bs)

  last_bit_lem : (t : Bool) → p.late ≡ t → (x : Bool) (bs xs : List Bool) (a n : ℕ) (w : Bool) → n ≡ 7
      → does (Taking (Data a w) n (number xs)) (x ∷ bs) ≡ finished t a (number (xs ++ (x ∷ []))) bs
  last_bit_lem t q x bs xs a n w h =
      bit_before (Taking (Data a w) n (number xs)) x bs
      ∙ rw (le-ltb n 7 (omega arith), le-ltb (n + 1) 8 (omega arith), number_snoc) (ap (λ (u : Bool). finished u a (shifted (number xs) x) bs) q)

  -- a byte that waits is stored as the next one begins
  waited : (a v : ℕ) (y : Bool) (ys : List Bool)
      → does (Pending v a) (y ∷ ys) ≡ following (stores_of (permitted p (register b e) a v)) (does (Taking (data_after p a) 0 0) (y ∷ ys))
  waited a v y ys = bit_before (Pending v a) y ys

  -- or as CS# rises
  waits : (a v : ℕ) (w : Bool) → does (Pending v a) [] ≡ says_data a w [] (v ∷ [])
  waits a v w = rw (← byte_placed a v [], no_stores, append-nil (stores_of (permitted p (register b e) a v)))

  -- bytes after a stored one
  byte_before : (a v : ℕ) (w : Bool) (bs : List Bool) (us vs : List ℕ)
      → does (Taking (data_after p a) 0 0) bs ≡ says_data (next_address p.size a) true us vs
      → following (stores_of (permitted p (register b e) a v)) (does (Taking (data_after p a) 0 0) bs) ≡ says_data a w (v ∷ us) (v ∷ vs)
  byte_before a v w bs us vs next =
      ap (following (stores_of (permitted p (register b e) a v))) next ∙ rw (unless_off, byte_placed a v us, byte_placed a v vs)

  -- the bytes of the bits bs, after the bits xs of the first and with r more before its last
  abbrev bytes_from : ℕ → List Bool → List Bool → List ℕ
  bytes_from r xs bs = map eight_bits (groups_from 7 r xs bs).whole

  -- with n bits of a byte in, on a part that stores late (t) or not: on one that does, the last bit makes no byte whole before CS# rises
  data_from : (t : Bool) → p.late ≡ t → (bs xs : List Bool) (a : ℕ) (w : Bool) (n r : ℕ) → n + r ≡ 7
      → does (Taking (Data a w) n (number xs)) bs ≡ says_data a w (bytes_from r xs (cond t (all_but_last bs) bs)) (bytes_from r xs bs)
  data_from false q [] xs a w n r h = no_bit a n (number xs) w
  data_from false q (x ∷ bs) xs a w n zero h =
      last_bit_lem false q x bs xs a n w (omega arith)
      ∙ byte_before a (number (xs ++ (x ∷ []))) w bs (bytes bs) (bytes bs) (data_from false q bs [] (next_address p.size a) true 0 7 refl)
  data_from false q (x ∷ bs) xs a w n (suc r) h =
      one_bit x bs xs a n w (omega arith) ∙ data_from false q bs (xs ++ (x ∷ [])) a w (n + 1) r (omega arith)
  data_from true q [] xs a w n r h = no_bit a n (number xs) w
  data_from true q (x ∷ []) xs a w n zero h = last_bit_lem true q x [] xs a n w (omega arith) ∙ waits a (number (xs ++ (x ∷ []))) w
  data_from true q (x ∷ []) xs a w n (suc r) h = one_bit x [] xs a n w (omega arith) ∙ no_bit a (n + 1) (number (xs ++ (x ∷ []))) w
  data_from true q (x ∷ y ∷ ys) xs a w n zero h =
      let v = number (xs ++ (x ∷ [])) in
      last_bit_lem true q x (y ∷ ys) xs a n w (omega arith)
      ∙ waited a v y ys
      ∙ byte_before a v w (y ∷ ys) (bytes (all_but_last (y ∷ ys))) (bytes (y ∷ ys)) (data_from true q (y ∷ ys) [] (next_address p.size a) true 0 7 refl)
  data_from true q (x ∷ y ∷ ys) xs a w n (suc r) h =
      one_bit x (y ∷ ys) xs a n w (omega arith) ∙ data_from true q (y ∷ ys) (xs ++ (x ∷ [])) a w (n + 1) r (omega arith)

  data_bytes_lem : (a : ℕ) (w : Bool) (bs : List Bool) → does (Taking (Data a w) 0 0) bs ≡ says_data a w (bytes (followed_bits p unended bs)) (bytes bs)
  data_bytes_lem a w bs = data_from p.late refl bs [] a w 0 7 refl

  -- ---- the data byte of WRSR

  abbrev says_status : List ℕ → Effect
  says_status vs = record { status = register (status_write vs e wp b) (unless_any vs e); sleep = false; stores = cond e [] []; all = cond e [] [] }

  status_byte_lem : (bs : List Bool) → does (Taking StatusByte 0 0) bs ≡ says (command WRSR bs)
  status_byte_lem bs = from_start StatusByte (λ n v x. refl) (omega arith) bs ∙ rw (first_byte bs) (by (field 8 bs))
    where
      by : (y : FieldBits) → taken StatusByte (λ n v x. refl) 0 y ≡ says_status (first_bytes [] y)
      by (short xs) = rw no_stores
      by (whole xs rest) = waiting (WriteStatus (number xs)) rest ∙ rw (no_stores, either_bits _ (bits_in (number xs)) b)

  -- ---- a whole opcode, and what follows it

  dummy : (a : ℕ) (bs : List Bool) → does (Taking (Dummy a) 0 0) bs ≡ none
  dummy a = idle (Dummy a) (λ n v x. refl) (omega arith) refl (λ v. showing (Memory a) 0)

  module _ (wide : 0 < p.width) where
    write : (bs : List Bool) → does (Taking WriteAddress 0 0) bs ≡ says (command WRITE bs)
    write bs = from_start WriteAddress (λ n v x. refl) wide bs ∙ by (field p.width bs)
      where
        by : (y : FieldBits) → taken WriteAddress (λ n v x. refl) 0 y
            ≡ says_data (address_in p y) false (bytes (followed_bits p unended (after_address y))) (bytes (after_address y))
        by (short xs) = data_bytes_lem 0 false []
        by (whole xs rest) = data_bytes_lem (number xs % p.size) false rest

    commands : (k : Command) (rest : List Bool) → does (phase_after_opcode k) rest ≡ says (command k rest)
    commands WREN rest = rw no_stores (waiting SetLatch rest)
    commands WRDI rest = rw no_stores (waiting ClearLatch rest)
    commands RDSR rest = rw no_stores (showing Register 0 rest)
    commands WRSR rest = status_byte_lem rest
    commands READ rest = rw no_stores (idle ReadAddress (λ n v x. refl) wide refl (λ v. showing (Memory _) 0) rest)
    commands WRITE rest = write rest
    commands FSTRD rest = rw no_stores (idle FastAddress (λ n v x. refl) wide refl (λ v. dummy _) rest)
    commands RDID rest = rw no_stores (showing (Identity 0) 0 rest)
    commands SLEEP rest = rw no_stores (waiting FallAsleep rest)
    commands Unknown rest = rw no_stores (ignoring rest)

    -- a selection does what the ledger reads in its bits
    pub selection_does : (bs : List Bool) → effect p (register b e) wp (Taking Opcode 0 0) bs ≡ said p b e wp (reading p bs)
    selection_does bs = from_start Opcode (λ n v x. refl) (omega arith) bs ∙ by (field 8 bs)
      where
        by : (y : FieldBits) → taken Opcode (λ n v x. refl) 0 y ≡ says (opcode_read p y)
        by (short xs) = rw no_stores
        by (whole xs rest) = commands (command_of p (number xs)) rest

    -- what its bits have stored, and that with what its end adds
    does_stores : (bs : List Bool) → wrote p (register b e) (Taking Opcode 0 0) bs ≡ cond e (stores p b unended (reading p bs)) []
    does_stores bs = ap (λ (x : Effect). x.stores) (selection_does bs)

    does_all : (bs : List Bool)
        → wrote p (register b e) (Taking Opcode 0 0) bs ++ end_stores p (register b e) (phase_after p (Taking Opcode 0 0) bs)
        ≡ cond e (stores p b (ended wp) (reading p bs)) []
    does_all bs = ap (λ (x : Effect). x.all) (selection_does bs)

    -- one bit more
    pub stores_snoc : (bs : List Bool) (x : Bool)
        → cond e (stores p b unended (reading p (bs ++ (x ∷ [])))) []
        ≡ cond e (stores p b unended (reading p bs)) [] ++ rise_stores p (register b e) (phase_after p (Taking Opcode 0 0) bs) x
    stores_snoc bs x =
        sym (does_stores (bs ++ (x ∷ [])))
        ∙ given_snoc (after_rise p) (rise_stores p (register b e)) (Taking Opcode 0 0) bs x
        ∙ ap (λ (ws : List Store). ws ++ rise_stores p (register b e) (phase_after p (Taking Opcode 0 0) bs) x) (does_stores bs)

    -- CS# rising
    pub stores_end : (bs : List Bool)
        → cond e (stores p b (ended wp) (reading p bs)) []
        ≡ cond e (stores p b unended (reading p bs)) [] ++ stores_of (end_write p (register b e) (phase_after p (Taking Opcode 0 0) bs))
    stores_end bs =
        sym (does_all bs) ∙ ap (λ (ws : List Store). ws ++ end_stores p (register b e) (phase_after p (Taking Opcode 0 0) bs)) (does_stores bs)
