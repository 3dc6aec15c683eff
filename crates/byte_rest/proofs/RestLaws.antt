-- The bytes after the head by their number: what they bring back, what they store, and what CS# rising then does, is that of the byte
-- steps. By induction on the bytes. Assumes nothing.
use Prim.Native.Nat.{ℕ, suc, ◌+◌, ◌*◌, ◌^◌, ◌<◌, ◌≤◌}
use mathlib.Core.Path.{◌≡◌, refl, sym, ap, ap₂, ◌∙◌}
use mathlib.Core.Bool.{Bool, true, false, cond, false≢true}
use mathlib.Core.List.{List, [], ◌∷◌, ◌++◌}
use native.Mathlib.Nat.{zero-add}
use native.Mathlib.Omega.{arith}
use lib.Dec.{ltb}
use borrow.Author.Tests.{lt-ltb}
use lib.ListN.{length, drop, set, replicate, length-set}
use Rattle.parts.specs.declared.part.Part.{Part}
use Rattle.parts.specs.declared.status.Status.{Status}
use Rattle.parts.specs.Status.{protected_start, with_wel}
use Rattle.std.specs.Prelude.{None, Option}
use Rattle.serial.specs.Address.{next_address}
use Rattle.serial.specs.declared.write.Write.{Write}
use Rattle.serial.specs.Write.{applied, write_at}
use Rattle.rolled_write.specs.Written.{written_from}
use Rattle.selection.specs.declared.phase.Action.{Action}
use Rattle.selection.specs.declared.phase.Field.{Field}
use Rattle.selection.specs.declared.phase.Field.TheVariants.{Opcode, ReadAddress, FastAddress, WriteAddress, Dummy, Data, StatusByte}
use Rattle.selection.specs.declared.phase.Phase.{Phase}
use Rattle.selection.specs.declared.phase.Phase.TheVariants.{Rest, Ignoring, Taking, Showing, Waiting, Pending}
use Rattle.selection.specs.declared.phase.Source.{Source}
use Rattle.selection.specs.declared.opcode.Command.{Command}
use Rattle.selection.specs.declared.opcode.Command.TheVariants.{WREN, WRDI, RDSR, WRSR, READ, WRITE, FSTRD, RDID, SLEEP, Unknown}
use Rattle.selection.specs.Opcode.{command_of}
use Rattle.selection.specs.Phase.{width, data_after, phase_after_opcode, phase_after_data, phase_after_field}
use Rattle.spi.specs.Store.{permitted, finished_write, end_write}
use Rattle.spi_status.specs.Deselect.{status_after, asleep_after}
use Rattle.byte_path.specs.declared.head.Head.{Head}
use Rattle.byte_path.specs.PinPath.{Back}
use Rattle.byte_path.specs.ByBytes.{AtBorder, phase_after_byte, byte_back, byte_write, undriven, source_back, phase_after_bytes, memory_after_bytes, back_after_bytes}
use Rattle.byte_path.specs.Head.{head_field, is_head, ahead, head_from, Bordered}
use Rattle.byte_rest.specs.Rest.{shown_from, rest_back, rest_memory, phase_end}
use Rattle.byte_path.proofs.ByBytes.{EachByte}
use Rattle.byte_path.proofs.HeadLaws.{bordered_next}

-- a data byte waits
abbrev pub waits : Phase → Bool
waits Rest = false
waits Ignoring = false
waits (Taking f n v) = false
waits (Showing s k) = false
waits (Waiting a) = false
waits (Pending v a) = true

module _ (p : Part) (st : Status) where
  -- ---- what comes back

  -- phases that show nothing, whatever bytes come
  abbrev mute : Phase → Bool
  mute Rest = true
  mute Ignoring = true
  mute (Taking Opcode n w) = false
  mute (Taking ReadAddress n w) = false
  mute (Taking FastAddress n w) = false
  mute (Taking WriteAddress n w) = false
  mute (Taking (Dummy a) n w) = false
  mute (Taking (Data a y) n w) = true
  mute (Taking StatusByte n w) = false
  mute (Showing s k) = false
  mute (Waiting a) = true
  mute (Pending w a) = true

  mute_data : (a v : ℕ) → mute (phase_after_data p a v) ≡ true
  mute_data a v = by p.late
    where
      by : (t : Bool) → mute (cond t (Pending v a) (Taking (data_after p a) 0 0)) ≡ true
      by true = refl
      by false = refl

  mute_next : (ph : Phase) (v : ℕ) → mute ph ≡ true → mute (phase_after_byte p ph v) ≡ true
  mute_next Rest v h = refl
  mute_next Ignoring v h = refl
  mute_next (Taking (Data a y) n w) v h = by (ltb (n + 8) 8)
    where
      by : (t : Bool) → mute (cond t (Taking (Data a y) (n + 8) (256 * w + v)) (phase_after_data p a (256 * w + v))) ≡ true
      by true = refl
      by false = mute_data a (256 * w + v)
  mute_next (Taking Opcode n w) v h = absurd (false≢true h)
  mute_next (Taking ReadAddress n w) v h = absurd (false≢true h)
  mute_next (Taking FastAddress n w) v h = absurd (false≢true h)
  mute_next (Taking WriteAddress n w) v h = absurd (false≢true h)
  mute_next (Taking (Dummy a) n w) v h = absurd (false≢true h)
  mute_next (Taking StatusByte n w) v h = absurd (false≢true h)
  mute_next (Showing s k) v h = absurd (false≢true h)
  mute_next (Waiting a) v h = refl
  mute_next (Pending w a) v h = refl

  mute_undriven : (ph : Phase) (m : List ℕ) → mute ph ≡ true → byte_back p st m ph ≡ undriven
  mute_undriven Rest m h = refl
  mute_undriven Ignoring m h = refl
  mute_undriven (Taking f n w) m h = refl
  mute_undriven (Showing s k) m h = absurd (false≢true h)
  mute_undriven (Waiting a) m h = refl
  mute_undriven (Pending w a) m h = refl

  mute_back : (vs : List ℕ) (ph : Phase) (m : List ℕ) → mute ph ≡ true → back_after_bytes p st ph m vs ≡ replicate (length vs) undriven
  mute_back [] ph m h = refl
  mute_back (v ∷ vs) ph m h =
      rw (mute_undriven ph m h) (ap (λ (l : List Back). undriven ∷ l) (mute_back vs (phase_after_byte p ph v) _ (mute_next ph v h)))

  shown_back : (vs : List ℕ) (s : Source) (m : List ℕ) → back_after_bytes p st (Showing s 0) m vs ≡ shown_from p st m s (length vs)
  shown_back [] s m = refl
  shown_back (v ∷ vs) s m = ap (λ (l : List Back). source_back p st m s ∷ l) (shown_back vs _ m)

  -- ---- what is stored

  -- the memory after these bytes and CS# rising
  abbrev pub memory_ended : Phase → List ℕ → List ℕ → List ℕ
  memory_ended ph m vs = applied (end_write p st (phase_after_bytes p st ph vs)) (memory_after_bytes p st ph m vs)

  ignoring_memory : (vs m : List ℕ) → memory_ended Ignoring m vs ≡ m
  ignoring_memory [] m = refl
  ignoring_memory (v ∷ vs) m = ignoring_memory vs m

  waiting_memory : (a : Action) (vs m : List ℕ) → memory_ended (Waiting a) m vs ≡ m
  waiting_memory a [] m = refl
  waiting_memory a (v ∷ vs) m = waiting_memory a vs m

  rest_memory_lem : (vs m : List ℕ) → memory_ended Rest m vs ≡ m
  rest_memory_lem [] m = refl
  rest_memory_lem (v ∷ vs) m = rest_memory_lem vs m

  shown_memory : (vs : List ℕ) (s : Source) (m : List ℕ) → memory_ended (Showing s 0) m vs ≡ m
  shown_memory [] s m = refl
  shown_memory (v ∷ vs) s m = shown_memory vs _ m

  -- ---- data bytes

  kept_stored : (w : Bool) → st.wel ≡ w → (a v : ℕ) (m : List ℕ) → applied (permitted p st a v) m ≡ cond w (cond (ltb a (protected_start st p)) (set m a v) m) m
  unfolding protected_start
  kept_stored true e a v m = rw e (by (ltb a (protected_start st p)))
    where
      by : (t : Bool) → applied (cond t (write_at a v) None) m ≡ cond t (set m a v) m
      by true = refl
      by false = refl
  kept_stored false e a v m = rw e

  length_kept : (t : Bool) (a v : ℕ) (m : List ℕ) → length (cond t (set m a v) m) ≡ length m
  length_kept true a v m = length-set m a v
  length_kept false a v m = refl

  -- one byte is stored, if it is permitted, and others follow at the next address
  then_written : (w : Bool) → st.wel ≡ w → (a v : ℕ) (vs m : List ℕ) → length m ≡ p.size → (next : List ℕ → List ℕ)
      → ((n : List ℕ) → length n ≡ p.size → next n ≡ cond w (written_from (protected_start st p) n (next_address p.size a) vs) n)
      → next (applied (permitted p st a v) m) ≡ cond w (written_from (protected_start st p) m a (v ∷ vs)) m
  then_written true e a v vs m l next h =
      ap next (kept_stored true e a v m)
      ∙ h (cond (ltb a (protected_start st p)) (set m a v) m) (length_kept (ltb a (protected_start st p)) a v m ∙ l)
      ∙ rw l
  then_written false e a v vs m l next h = ap next (kept_stored false e a v m) ∙ h m l

  none_taken : (w : Bool) (m : List ℕ) → m ≡ cond w m m
  none_taken true m = refl
  none_taken false m = refl

  -- a byte that waits, and those after it: each is stored as the next one begins, and the last as CS# rises
  pending_memory : (w : Bool) → st.wel ≡ w → (vs : List ℕ) (a v : ℕ) (m : List ℕ) → length m ≡ p.size
      → memory_ended (Pending v a) m vs ≡ cond w (written_from (protected_start st p) m a (v ∷ vs)) m
  pending_memory w e [] a v m l = then_written w e a v [] m l (λ n. n) (λ n k. none_taken w n)
  pending_memory w e (u ∷ vs) a v m l =
      then_written w e a v (u ∷ vs) m l (λ n. memory_ended (Pending u (next_address p.size a)) n vs)
      (λ n k. pending_memory w e vs (next_address p.size a) u n k)

  -- the phase after a data byte, and what that byte writes, on a part that stores late (t) or not
  after_data : (t : Bool) (a v : ℕ) → p.late ≡ t → phase_after_data p a v ≡ cond t (Pending v a) (Taking (data_after p a) 0 0)
  after_data t a v q = ap (λ (x : Bool). cond x (Pending v a) (Taking (data_after p a) 0 0)) q

  written_then : (t : Bool) (a v : ℕ) → p.late ≡ t → finished_write p st a v ≡ cond t None (permitted p st a v)
  written_then t a v q = ap (λ (x : Bool). cond x None (permitted p st a v)) q

  -- one data byte, and those after it
  data_next : (t : Bool) → p.late ≡ t → (a v : ℕ) (y : Bool) (vs m : List ℕ)
      → memory_ended (Taking (Data a y) 0 0) m (v ∷ vs)
      ≡ memory_ended (cond t (Pending v a) (Taking (data_after p a) 0 0)) (applied (cond t None (permitted p st a v)) m) vs
  data_next t q a v y vs m =
      ap₂ (λ (ph : Phase) (x : Option Write). memory_ended ph (applied x m) vs)
      (ap (phase_after_data p a) (zero-add v) ∙ after_data t a v q) (written_then t a v q)

  data_memory : (late w : Bool) → p.late ≡ late → st.wel ≡ w → (vs : List ℕ) (a : ℕ) (y : Bool) (m : List ℕ) → length m ≡ p.size
      → memory_ended (Taking (Data a y) 0 0) m vs ≡ cond w (written_from (protected_start st p) m a vs) m
  data_memory late w q e [] a y m l = none_taken w m
  data_memory true w q e (v ∷ vs) a y m l = data_next true q a v y vs m ∙ pending_memory w e vs a v m l
  data_memory false w q e (v ∷ vs) a y m l =
      data_next false q a v y vs m
      ∙ then_written w e a v vs m l (λ n. memory_ended (Taking (data_after p a) 0 0) n vs)
      (λ n k. data_memory false w q e vs (next_address p.size a) true n k)

  -- ---- any phase after the head

  -- the head is over
  abbrev Over : Phase → Type 0
  Over ph = is_head ph ≡ false

  pub over_back : (ph : Phase) (vs m : List ℕ) → AtBorder p ph → Over ph → back_after_bytes p st ph m vs ≡ rest_back p st m ph (length vs)
  over_back Rest vs m b o = mute_back vs Rest m refl
  over_back Ignoring vs m b o = mute_back vs Ignoring m refl
  over_back (Taking (Data a y) n w) vs m b o = mute_back vs (Taking (Data a y) n w) m refl
  over_back (Taking Opcode n w) vs m b o = absurd (false≢true (sym o))
  over_back (Taking ReadAddress n w) vs m b o = absurd (false≢true (sym o))
  over_back (Taking FastAddress n w) vs m b o = absurd (false≢true (sym o))
  over_back (Taking WriteAddress n w) vs m b o = absurd (false≢true (sym o))
  over_back (Taking (Dummy a) n w) vs m b o = absurd (false≢true (sym o))
  over_back (Taking StatusByte n w) vs m b o = absurd (false≢true (sym o))
  over_back (Showing s k) vs m b o = rw b (shown_back vs s m)
  over_back (Waiting a) vs m b o = mute_back vs (Waiting a) m refl
  over_back (Pending w a) vs m b o = mute_back vs (Pending w a) m refl

  pub over_memory : (ph : Phase) (vs m : List ℕ) → AtBorder p ph → Over ph → waits ph ≡ false → length m ≡ p.size → memory_ended ph m vs ≡ rest_memory p st m ph vs
  over_memory Rest vs m b o u s = rest_memory_lem vs m
  over_memory Ignoring vs m b o u s = ignoring_memory vs m
  over_memory (Taking (Data a y) n w) vs m (q, l, r) o u s =
      let z : n ≡ 0 = omega arith in
      let k : w < 2 ^ 0 = rw z at r in
      let d : w ≡ 0 = omega arith in
      rw (z, d) (data_memory p.late st.wel refl refl vs a y m s)
  over_memory (Taking Opcode n w) vs m b o u s = absurd (false≢true (sym o))
  over_memory (Taking ReadAddress n w) vs m b o u s = absurd (false≢true (sym o))
  over_memory (Taking FastAddress n w) vs m b o u s = absurd (false≢true (sym o))
  over_memory (Taking WriteAddress n w) vs m b o u s = absurd (false≢true (sym o))
  over_memory (Taking (Dummy a) n w) vs m b o u s = absurd (false≢true (sym o))
  over_memory (Taking StatusByte n w) vs m b o u s = absurd (false≢true (sym o))
  over_memory (Showing x k) vs m b o u s = rw b (shown_memory vs x m)
  over_memory (Waiting a) vs m b o u s = waiting_memory a vs m
  over_memory (Pending w a) vs m b o u s = absurd (false≢true (sym u))

  -- ---- what CS# rising does then

  rest_stays : (vs : List ℕ) → phase_after_bytes p st Rest vs ≡ Rest
  rest_stays [] = refl
  rest_stays (v ∷ vs) = rest_stays vs

  ignoring_stays : (vs : List ℕ) → phase_after_bytes p st Ignoring vs ≡ Ignoring
  ignoring_stays [] = refl
  ignoring_stays (v ∷ vs) = ignoring_stays vs

  waiting_stays : (a : Action) (vs : List ℕ) → phase_after_bytes p st (Waiting a) vs ≡ Waiting a
  waiting_stays a [] = refl
  waiting_stays a (v ∷ vs) = waiting_stays a vs

  shows_on : (vs : List ℕ) (s : Source) → (x : Source) × phase_after_bytes p st (Showing s 0) vs ≡ Showing x 0
  shows_on [] s = (s, refl)
  shows_on (v ∷ vs) s = shows_on vs _

  -- a data byte of WRITE has been taken
  abbrev some_data : Phase → Bool
  some_data Rest = false
  some_data Ignoring = false
  some_data (Taking Opcode n w) = false
  some_data (Taking ReadAddress n w) = false
  some_data (Taking FastAddress n w) = false
  some_data (Taking WriteAddress n w) = false
  some_data (Taking (Dummy a) n w) = false
  some_data (Taking (Data a y) n w) = y
  some_data (Taking StatusByte n w) = false
  some_data (Showing s k) = false
  some_data (Waiting a) = false
  some_data (Pending w a) = true

  -- status register and sleep
  pub record Ends (wp z : Bool) (a b : Phase) : Type 0 where
    pub status : status_after st wp a ≡ status_after st wp b
    pub asleep : asleep_after z a ≡ asleep_after z b

  same_ends : (wp z : Bool) (a b : Phase) → a ≡ b → Ends wp z a b
  same_ends wp z a b e = record { status = ap (status_after st wp) e; asleep = ap (asleep_after z) e }

  then_ends : (wp z : Bool) (a b c : Phase) → a ≡ b → status_after st wp b ≡ status_after st wp c → asleep_after z b ≡ asleep_after z c → Ends wp z a c
  then_ends wp z a b c e f g = record { status = ap (status_after st wp) e ∙ f; asleep = ap (asleep_after z) e ∙ g }

  some_data_lem : (a v : ℕ) → some_data (phase_after_data p a v) ≡ true
  some_data_lem a v = by p.late
    where
      by : (t : Bool) → some_data (cond t (Pending v a) (Taking (data_after p a) 0 0)) ≡ true
      by true = refl
      by false = refl

  some_next : (ph : Phase) (v : ℕ) → some_data ph ≡ true → some_data (phase_after_byte p ph v) ≡ true
  some_next (Taking (Data a y) n w) v h = by (ltb (n + 8) 8)
    where
      by : (t : Bool) → some_data (cond t (Taking (Data a y) (n + 8) (256 * w + v)) (phase_after_data p a (256 * w + v))) ≡ true
      by true = h
      by false = some_data_lem a (256 * w + v)
  some_next Rest v h = absurd (false≢true h)
  some_next Ignoring v h = absurd (false≢true h)
  some_next (Taking Opcode n w) v h = absurd (false≢true h)
  some_next (Taking ReadAddress n w) v h = absurd (false≢true h)
  some_next (Taking FastAddress n w) v h = absurd (false≢true h)
  some_next (Taking WriteAddress n w) v h = absurd (false≢true h)
  some_next (Taking (Dummy a) n w) v h = absurd (false≢true h)
  some_next (Taking StatusByte n w) v h = absurd (false≢true h)
  some_next (Showing s k) v h = absurd (false≢true h)
  some_next (Waiting a) v h = absurd (false≢true h)
  some_next (Pending w a) v h = refl

  some_after : (vs : List ℕ) (ph : Phase) → some_data ph ≡ true → some_data (phase_after_bytes p st ph vs) ≡ true
  some_after [] ph h = h
  some_after (v ∷ vs) ph h = some_after vs (phase_after_byte p ph v) (some_next ph v h)

  -- then CS# rising clears WEL, and the part is awake
  some_ends : (wp z : Bool) (ph : Phase) → some_data ph ≡ true → (status_after st wp ph ≡ with_wel st false) × (asleep_after z ph ≡ false)
  some_ends wp true (Taking (Data a y) n w) h = (rw h, refl)
  some_ends wp false (Taking (Data a y) n w) h = (rw h, refl)
  some_ends wp true (Pending w a) h = (refl, refl)
  some_ends wp false (Pending w a) h = (refl, refl)
  some_ends wp z Rest h = absurd (false≢true h)
  some_ends wp z Ignoring h = absurd (false≢true h)
  some_ends wp z (Taking Opcode n w) h = absurd (false≢true h)
  some_ends wp z (Taking ReadAddress n w) h = absurd (false≢true h)
  some_ends wp z (Taking FastAddress n w) h = absurd (false≢true h)
  some_ends wp z (Taking WriteAddress n w) h = absurd (false≢true h)
  some_ends wp z (Taking (Dummy a) n w) h = absurd (false≢true h)
  some_ends wp z (Taking StatusByte n w) h = absurd (false≢true h)
  some_ends wp z (Showing s k) h = absurd (false≢true h)
  some_ends wp z (Waiting a) h = absurd (false≢true h)

  both_ends : (wp z : Bool) (a b : Phase) → some_data a ≡ true → some_data b ≡ true → Ends wp z a b
  both_ends wp z a b h k =
      let s = some_ends wp z a h in
      let t = some_ends wp z b k in
      record { status = s.0 ∙ sym t.0; asleep = s.1 ∙ sym t.1 }

  -- data bytes, from the first on
  data_ends : (wp z : Bool) (vs : List ℕ) (a : ℕ) (y : Bool) → Ends wp z (phase_after_bytes p st (Taking (Data a y) 0 0) vs) (phase_end (Taking (Data a y) 0 0) (ltb 0 (length vs)))
  data_ends wp z [] a y = same_ends wp z _ _ refl
  data_ends wp z (v ∷ vs) a y =
      let k : ltb 0 (length (v ∷ vs)) ≡ true = lt-ltb 0 (length (v ∷ vs)) (omega arith) in
      rw k (both_ends wp z _ (Taking (Data a true) 0 0) (some_after vs _ (some_data_lem a (256 * 0 + v))) refl)

  awake_shown : (z : Bool) (s x : Source) (k : ℕ) → asleep_after z (Showing s 0) ≡ asleep_after z (Showing x k)
  awake_shown true s x k = refl
  awake_shown false s x k = refl

  pub over_ends : (wp z : Bool) (ph : Phase) (vs : List ℕ) → AtBorder p ph → Over ph → Ends wp z (phase_after_bytes p st ph vs) (phase_end ph (ltb 0 (length vs)))
  over_ends wp z Rest vs b o = same_ends wp z _ _ (rest_stays vs)
  over_ends wp z Ignoring vs b o = same_ends wp z _ _ (ignoring_stays vs)
  over_ends wp z (Taking (Data a y) n w) vs (q, l, r) o =
      let e : n ≡ 0 = omega arith in
      let k : w < 2 ^ 0 = rw e at r in
      let d : w ≡ 0 = omega arith in
      rw (e, d) (data_ends wp z vs a y)
  over_ends wp z (Taking Opcode n w) vs b o = absurd (false≢true (sym o))
  over_ends wp z (Taking ReadAddress n w) vs b o = absurd (false≢true (sym o))
  over_ends wp z (Taking FastAddress n w) vs b o = absurd (false≢true (sym o))
  over_ends wp z (Taking WriteAddress n w) vs b o = absurd (false≢true (sym o))
  over_ends wp z (Taking (Dummy a) n w) vs b o = absurd (false≢true (sym o))
  over_ends wp z (Taking StatusByte n w) vs b o = absurd (false≢true (sym o))
  over_ends wp z (Showing s k) vs b o = rw b (then_ends wp z _ _ _ (shows_on vs s).1 refl (awake_shown z _ s 0))
  over_ends wp z (Waiting a) vs b o = same_ends wp z _ _ (waiting_stays a vs)
  over_ends wp z (Pending w a) vs b o = both_ends wp z _ (Pending w a) (some_after vs (Pending w a) refl) refl

  -- ---- the head brings nothing back and stores nothing

  head_quiet : (ph : Phase) (v : ℕ) (m : List ℕ) → is_head ph ≡ true → (byte_back p st m ph ≡ undriven) × (byte_write p st ph v ≡ None)
  head_quiet Rest v m h = absurd (false≢true h)
  head_quiet Ignoring v m h = absurd (false≢true h)
  head_quiet (Taking Opcode n w) v m h = (refl, refl)
  head_quiet (Taking ReadAddress n w) v m h = (refl, refl)
  head_quiet (Taking FastAddress n w) v m h = (refl, refl)
  head_quiet (Taking WriteAddress n w) v m h = (refl, refl)
  head_quiet (Taking (Dummy a) n w) v m h = (refl, refl)
  head_quiet (Taking (Data a y) n w) v m h = absurd (false≢true h)
  head_quiet (Taking StatusByte n w) v m h = (refl, refl)
  head_quiet (Showing s k) v m h = absurd (false≢true h)
  head_quiet (Waiting a) v m h = absurd (false≢true h)
  head_quiet (Pending w a) v m h = absurd (false≢true h)

  -- nor does it end with a data byte that waits
  opcode_settled : (k : Command) → waits (phase_after_opcode k) ≡ false
  opcode_settled WREN = refl
  opcode_settled WRDI = refl
  opcode_settled RDSR = refl
  opcode_settled WRSR = refl
  opcode_settled READ = refl
  opcode_settled WRITE = refl
  opcode_settled FSTRD = refl
  opcode_settled RDID = refl
  opcode_settled SLEEP = refl
  opcode_settled Unknown = refl

  field_settled : (f : Field) (v : ℕ) → head_field f ≡ true → waits (phase_after_field p f v) ≡ false
  field_settled Opcode v h = opcode_settled (command_of p v)
  field_settled ReadAddress v h = refl
  field_settled FastAddress v h = refl
  field_settled WriteAddress v h = refl
  field_settled (Dummy a) v h = refl
  field_settled (Data a y) v h = absurd (false≢true h)
  field_settled StatusByte v h = refl

  head_settled : (ph : Phase) (v : ℕ) → is_head ph ≡ true → waits (phase_after_byte p ph v) ≡ false
  head_settled Rest v h = refl
  head_settled Ignoring v h = refl
  head_settled (Taking f n w) v h = by (ltb (n + 8) (width p f))
    where
      by : (t : Bool) → waits (cond t (Taking f (n + 8) (256 * w + v)) (phase_after_field p f (256 * w + v))) ≡ false
      by true = refl
      by false = field_settled f (256 * w + v) h
  head_settled (Showing s k) v h = refl
  head_settled (Waiting a) v h = refl
  head_settled (Pending w a) v h = absurd (false≢true h)

  -- what follows the head h of the bytes vs
  pub record Headed (ph : Phase) (m vs : List ℕ) (h : Head) : Type 0 where
    pub back : back_after_bytes p st ph m vs ≡ replicate h.at undriven ++ back_after_bytes p st h.phase m (drop h.at vs)
    pub memory : memory_after_bytes p st ph m vs ≡ memory_after_bytes p st h.phase m (drop h.at vs)
    pub phase : phase_after_bytes p st ph vs ≡ phase_after_bytes p st h.phase (drop h.at vs)
    pub within : h.at ≤ length vs
    pub bordered : Bordered p h.phase
    pub over : h.at < length vs → is_head h.phase ≡ false
    pub settled : waits ph ≡ false → waits h.phase ≡ false

  pub headed : (vs : List ℕ) (ph : Phase) (m : List ℕ) → EachByte vs → Bordered p ph → Headed ph m vs (head_from p ph vs)
  headed [] ph m each b = record { back = refl; memory = refl; phase = refl; within = omega arith; bordered = b; over = λ l. absurd (omega arith); settled = λ u. u }
  headed (v ∷ vs) ph m each b = by (is_head ph) refl (headed vs (phase_after_byte p ph v) m each.1 (bordered_next p ph v each.0 b))
    where
      by : (y : Bool) → is_head ph ≡ y → Headed (phase_after_byte p ph v) m vs (head_from p (phase_after_byte p ph v) vs)
          → Headed ph m (v ∷ vs) (cond y (ahead 1 (head_from p (phase_after_byte p ph v) vs)) (record { phase = ph; at = 0 }))
      by true e h =
          let q = head_quiet ph v m e in
          let n : ℕ = (head_from p (phase_after_byte p ph v) vs).at in
          let o : 1 + n ≡ suc n = omega arith in
          record {
            back = rw (o, q.0, q.1) (ap (λ (l : List Back). undriven ∷ l) h.back);
            memory = rw (o, q.1) h.memory;
            phase = rw o h.phase;
            within = omega (arith, h.within);
            bordered = h.bordered;
            over = λ l. h.over (omega arith);
            settled = λ u. h.settled (head_settled ph v e);
          }
      by false e h = record { back = refl; memory = refl; phase = refl; within = omega arith; bordered = b; over = λ l. e; settled = λ u. u }
