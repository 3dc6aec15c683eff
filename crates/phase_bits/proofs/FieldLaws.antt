-- The bits of an SPI part's field or byte apart from its phase: put together they are the phase, an early rise only adds one, and the next
-- one leaves a phase without bits or with the first of the next data byte. By the phase. Assumes nothing.
use Prim.Native.Nat.{ℕ, ◌+◌, ◌^◌, ◌<◌, ◌≤◌}
use mathlib.Core.Path.{◌≡◌, refl, sym, ap, ◌∙◌, subst}
use mathlib.Core.Bool.{Bool, true, false, cond}
use mathlib.Core.List.{List, [], ◌∷◌}
use native.Mathlib.Nat.{one-le-pow}
use native.Mathlib.Omega.{arith}
use lib.Dec.{ltb, eqb}
use borrow.Author.Tests.{lt-ltb, le-ltb, ltb-true, ltb-false, ne_eqb, eqb-true}
use types.Run.{OneOf, miss}
use denote.Enum.Declared.{tag_of}
use Rattle.parts.specs.declared.part.Part.{Part}
use Rattle.parts.specs.declared.status.Status.{Status}
use Rattle.parts.specs.Table.{Fit}
use Rattle.std.specs.Prelude.{None, Some, Option}
use Rattle.serial.specs.Bits.{shifted}
use Rattle.serial.proofs.BitLaws.{shifted_within, small}
use Rattle.selection.specs.declared.opcode.Command.{Command}
use Rattle.selection.specs.declared.opcode.Command.TheVariants.{WREN, WRDI, RDSR, WRSR, READ, WRITE, FSTRD, RDID, SLEEP, Unknown}
use Rattle.selection.specs.declared.phase.Field.{Field}
use Rattle.selection.specs.declared.phase.Field.TheVariants.{Opcode, ReadAddress, FastAddress, WriteAddress, Dummy, Data, StatusByte}
use Rattle.selection.specs.declared.phase.Phase.{Phase}
use Rattle.selection.specs.declared.phase.Phase.TheVariants.{Rest, Ignoring, Taking, Showing, Waiting, Pending}
use Rattle.selection.specs.Opcode.{command_of}
use Rattle.selection.specs.Phase.{width, phase_after_opcode, data_after, phase_after_data, phase_after_field, after_rise}
use Rattle.selection.specs.Ranges.{PhaseIn}
use Rattle.selection.specs.contracts.phase.Field as field
use Rattle.selection.specs.contracts.phase.Phase as phase
use Rattle.spi.specs.Sample.{selected}
use Rattle.spi.specs.Store.{permitted, field_write, rise_write}
use Rattle.phase_bits.specs.Field.{field_coming, coming_of, bits_of, value_of, ByteIn, kept_of, early_in, early_of, taken_bits, with_bits, next_bits, next_value}

-- ---- what comes in

pub no_field : (ph : Phase) → OneOf (0 ∷ 1 ∷ 3 ∷ 4 ∷ 5 ∷ []) (tag_of phase.the_type ph) → coming_of ph ≡ None
no_field Rest h = refl
no_field Ignoring h = refl
no_field (Taking f n v) h = absurd (miss (0 ∷ 1 ∷ 3 ∷ 4 ∷ 5 ∷ []) 2 tt h)
no_field (Showing s k) h = refl
no_field (Waiting a) h = refl
no_field (Pending v a) h = refl

pub no_data : (f : Field) → OneOf (0 ∷ 1 ∷ 2 ∷ 3 ∷ 4 ∷ 6 ∷ []) (tag_of field.the_type f) → field_coming f ≡ None
no_data Opcode h = refl
no_data ReadAddress h = refl
no_data FastAddress h = refl
no_data WriteAddress h = refl
no_data (Dummy a) h = refl
no_data (Data a w) h = absurd (miss (0 ∷ 1 ∷ 2 ∷ 3 ∷ 4 ∷ 6 ∷ []) 5 tt h)
no_data StatusByte h = refl

other_not_data : (a : ℕ) → ◌≡◌ {A = Option ℕ} None (Some a) → ⊥
other_not_data a e = let z : ◌≡◌ {A = ℕ} 0 1 = cc in absurd (omega arith)

-- ---- put together

-- a data byte with fewer than eight bits does not wait
pub not_eight : (a n v : ℕ) (w : Bool) → n < 8 → taken_bits (Data a w) n v ≡ Taking (Data a w) n v
not_eight a n v w h = rw (ne_eqb n 8 (λ e. absurd (omega arith)))

-- the fields besides a data byte
abbrev others : List ℕ
others = 0 ∷ 1 ∷ 2 ∷ 3 ∷ 4 ∷ 6 ∷ []

same_taken : (p : Part) (f : Field) (n v : ℕ) → n < width p f → taken_bits f n v ≡ Taking f n v
same_taken p Opcode n v h = refl
same_taken p ReadAddress n v h = refl
same_taken p FastAddress n v h = refl
same_taken p WriteAddress n v h = refl
same_taken p (Dummy a) n v h = refl
same_taken p (Data a w) n v h = not_eight a n v w h
same_taken p StatusByte n v h = refl

pub kept_kept : (ph : Phase) → kept_of (kept_of ph) ≡ kept_of ph
kept_kept Rest = refl
kept_kept Ignoring = refl
kept_kept (Taking f n v) = refl
kept_kept (Showing s k) = refl
kept_kept (Waiting a) = refl
kept_kept (Pending v a) = refl

pub same_bits_lem : (p : Part) (ph : Phase) → PhaseIn p ph → with_bits (kept_of ph) (bits_of ph) (value_of ph) ≡ ph
same_bits_lem p Rest h = refl
same_bits_lem p Ignoring h = refl
same_bits_lem p (Taking f n v) h = same_taken p f n v h.short
same_bits_lem p (Showing s k) h = refl
same_bits_lem p (Waiting a) h = refl
same_bits_lem p (Pending v a) h = refl

-- ---- an early rise

module _ (p : Part) (n v : ℕ) (b : Bool) where
  -- what it makes of a field, and writes: nothing
  record Adds (f : Field) : Type 0 where
    phase : after_rise p (taken_bits f n v) b ≡ taken_bits f (n + 1) (shifted v b)
    write : (st : Status) → rise_write p st (taken_bits f n v) b ≡ None

  adds_plain : (f : Field) → n + 1 < width p f → taken_bits f n v ≡ Taking f n v → taken_bits f (n + 1) (shifted v b) ≡ Taking f (n + 1) (shifted v b)
      → ((st : Status) → field_write p st f n v b ≡ None) → Adds f
  adds_plain f l q q' none = record { phase = rw (q, q', lt-ltb (n + 1) (width p f) l); write = λ st. rw q (none st) }

  -- a data byte before its eighth bit
  adds_data : (a : ℕ) (w : Bool) → n < 7 → Adds (Data a w)
  adds_data a w l =
      adds_plain (Data a w) (omega arith) (not_eight a n v w (omega arith)) (not_eight a (n + 1) (shifted v b) w (omega arith)) (λ st. rw (lt-ltb n 7 l))

  -- the eighth one of a byte that then waits
  adds_last : (a : ℕ) (w : Bool) → n ≡ 7 → p.late ≡ true → Adds (Data a w)
  adds_last a w e late =
      let q = not_eight a n v w (omega arith) in
      record {
        phase = rw (q, e) (ap (λ (t : Bool). cond t (Pending (shifted v b) a) (Taking (data_after p a) 0 0)) late);
        write = λ st. rw (q, e) (ap (λ (t : Bool). cond t None (permitted p st a (shifted v b))) late);
      }

  adds_late : (t : Bool) → p.late ≡ t → (a : ℕ) (w : Bool) → n < cond t 8 7 → Adds (Data a w)
  adds_late false e a w l = adds_data a w l
  adds_late true e a w l = by (ltb n 7) refl
    where
      by : (t : Bool) → ltb n 7 ≡ t → Adds (Data a w)
      by true k = adds_data a w (ltb-true n 7 k)
      by false k = adds_last a w (omega (arith, ltb-false n 7 k)) e

  adds : (f : Field) → n < early_in p f → Adds f
  adds Opcode l = adds_plain Opcode (omega arith) refl refl (λ st. refl)
  adds ReadAddress l = adds_plain ReadAddress (omega arith) refl refl (λ st. refl)
  adds FastAddress l = adds_plain FastAddress (omega arith) refl refl (λ st. refl)
  adds WriteAddress l = adds_plain WriteAddress (omega arith) refl refl (λ st. refl)
  adds (Dummy a) l = adds_plain (Dummy a) (omega arith) refl refl (λ st. refl)
  adds (Data a w) l = adds_late p.late refl a w l
  adds StatusByte l = adds_plain StatusByte (omega arith) refl refl (λ st. refl)

  pub one_more_lem : (ph : Phase) → n < early_of p ph → after_rise p (with_bits ph n v) b ≡ with_bits ph (n + 1) (shifted v b)
  one_more_lem Rest l = refl
  one_more_lem Ignoring l = refl
  one_more_lem (Taking f m u) l = (adds f l).phase
  one_more_lem (Showing s m) l = rw (lt-ltb n 7 l)
  one_more_lem (Waiting a) l = refl
  one_more_lem (Pending u a) l = absurd (omega arith)

  pub none_written : (st : Status) (ph : Phase) → n < early_of p ph → rise_write p st (with_bits ph n v) b ≡ None
  none_written st Rest l = refl
  none_written st Ignoring l = refl
  none_written st (Taking f m u) l = (adds f l).write st
  none_written st (Showing s m) l = refl
  none_written st (Waiting a) l = refl
  none_written st (Pending u a) l = absurd (omega arith)

-- ---- the next one, and CS# falling

-- a phase kept without bits
abbrev Fresh : Phase → Type 0
Fresh ph = with_bits (kept_of ph) 0 0 ≡ ph

opcode_fresh : (k : Command) → Fresh (phase_after_opcode k)
opcode_fresh WREN = refl
opcode_fresh WRDI = refl
opcode_fresh RDSR = refl
opcode_fresh WRSR = refl
opcode_fresh READ = refl
opcode_fresh WRITE = refl
opcode_fresh FSTRD = refl
opcode_fresh RDID = refl
opcode_fresh SLEEP = refl
opcode_fresh Unknown = refl

-- what a phase is after a rise that does more than add one
module _ (p : Part) (b : Bool) where
  abbrev Goes : Phase → Type 0
  Goes ph = with_bits (kept_of (after_rise p ph b)) (next_bits ph) (next_value ph b) ≡ after_rise p ph b

  -- a field that is now whole
  goes_whole : (f : Field) (n v : ℕ) → width p f ≤ n + 1 → Fresh (phase_after_field p f (shifted v b)) → Goes (Taking f n v)
  goes_whole f n v l h = rw (le-ltb (n + 1) (width p f) l) h

  -- a data byte that does not wait
  goes_data : (a n v : ℕ) (w : Bool) → cond p.late 8 7 ≤ n → n < 8 → Goes (Taking (Data a w) n v)
  goes_data a n v w l s = by p.late refl l
    where
      by : (t : Bool) → p.late ≡ t → cond t 8 7 ≤ n → Goes (Taking (Data a w) n v)
      by true e k = absurd (omega arith)
      by false e k =
          goes_whole (Data a w) n v (omega arith)
          (let q : phase_after_data p a (shifted v b) ≡ Taking (data_after p a) 0 0 = ap (λ (t : Bool). cond t (Pending (shifted v b) a) (Taking (data_after p a) 0 0)) e in
          ap (λ (x : Phase). with_bits (kept_of x) 0 0) q ∙ sym q)

  goes : (f : Field) (n v : ℕ) → early_in p f ≤ n → PhaseIn p (taken_bits f n v) → Goes (taken_bits f n v)
  goes Opcode n v l h = goes_whole Opcode n v (omega arith) (opcode_fresh (command_of p (shifted v b)))
  goes ReadAddress n v l h = goes_whole ReadAddress n v (omega arith) refl
  goes FastAddress n v l h = goes_whole FastAddress n v (omega arith) refl
  goes WriteAddress n v l h = goes_whole WriteAddress n v (omega arith) refl
  goes (Dummy a) n v l h = goes_whole (Dummy a) n v (omega arith) refl
  goes (Data a w) n v l h = by (eqb n 8) h
    where
      by : (t : Bool) → PhaseIn p (cond t (Pending v a) (Taking (Data a w) n v)) → Goes (cond t (Pending v a) (Taking (Data a w) n v))
      by true k = refl
      by false k = goes_data a n v w l k.short
  goes StatusByte n v l h = goes_whole StatusByte n v (omega arith) refl

  pub goes_on : (n v : ℕ) (ph : Phase) → early_of p ph ≤ n → PhaseIn p (with_bits ph n v) → Goes (with_bits ph n v)
  goes_on n v Rest l h = refl
  goes_on n v Ignoring l h = refl
  goes_on n v (Taking f m u) l h = goes f n v l h
  goes_on n v (Showing s m) l h = rw (le-ltb n 7 l)
  goes_on n v (Waiting a) l h = refl
  goes_on n v (Pending u a) l h = refl

-- a data byte of which the eighth bit comes, or which waits: what the rise writes, and the phase after it
pub record Due (p : Part) (st : Status) (a n v : ℕ) (b : Bool) (ph : Phase) : Type 0 where
  pub small : v < 256
  pub byte : cond p.late v (shifted v b) < 256
  pub write : rise_write p st ph b ≡ permitted p st a (cond p.late v (shifted v b))
  pub phase : with_bits (Taking (data_after p a) 0 0) (next_bits ph) (next_value ph b) ≡ after_rise p ph b

module _ (p : Part) (st : Status) (a v : ℕ) (b : Bool) where
  due_last : (w : Bool) → p.late ≡ false → v < 128 → Due p st a 7 v b (Taking (Data a w) 7 v)
  due_last w e h =
      let q : cond p.late v (shifted v b) ≡ shifted v b = ap (λ (t : Bool). cond t v (shifted v b)) e in
      record {
        small = omega arith;
        byte = rw q (shifted_within 7 v b h);
        write = ap (λ (t : Bool). cond t None (permitted p st a (shifted v b))) e ∙ ap (permitted p st a) (sym q);
        phase = sym (ap (λ (t : Bool). cond t (Pending (shifted v b) a) (Taking (data_after p a) 0 0)) e);
      }

  due_waits : p.late ≡ true → v < 256 → Due p st a 8 v b (Pending v a)
  due_waits e h =
      let q : cond p.late v (shifted v b) ≡ v = ap (λ (t : Bool). cond t v (shifted v b)) e in
      record { small = h; byte = rw q h; write = ap (permitted p st a) (sym q); phase = refl }

  pub due : (w : Bool) (n : ℕ) → early_in p (Data a w) ≤ n → v < 2 ^ n → PhaseIn p (taken_bits (Data a w) n v) → Due p st a n v b (taken_bits (Data a w) n v)
  due w n l h k = by (eqb n 8) refl k
    where
      late_seven : (t : Bool) → p.late ≡ t → cond t 8 7 ≤ n → n < 8 → (p.late ≡ false) × (n ≡ 7)
      late_seven true e i j = absurd (omega arith)
      late_seven false e i j = (e, omega arith)

      by : (t : Bool) → eqb n 8 ≡ t → PhaseIn p (cond t (Pending v a) (Taking (Data a w) n v)) → Due p st a n v b (cond t (Pending v a) (Taking (Data a w) n v))
      by true e i =
          let q : n ≡ 8 = eqb-true n 8 e in
          let s : v < 2 ^ 8 = rw q at h in
          rw q (due_waits i.late s)
      by false e i =
          let q = late_seven p.late refl l i.short in
          let s : v < 2 ^ 7 = rw q.1 at h in
          rw q.1 (due_last w q.0 s)

-- where a data byte comes in, what is due
pub data_due : (p : Part) (st : Status) (a n v : ℕ) (b : Bool) (ph : Phase) → coming_of ph ≡ Some a → early_of p ph ≤ n → v < 2 ^ n
    → PhaseIn p (with_bits ph n v) → Due p st a n v b (with_bits ph n v) × (a < p.size)
data_due p st a n v b (Taking (Data x w) m u) e l h k =
    let z : x ≡ a = cc in
    subst (λ (y : ℕ). Due p st y n v b (taken_bits (Data x w) n v) × (y < p.size)) z (due p st x v b w n l h k, within (eqb n 8) k)
  where
    within : (t : Bool) → PhaseIn p (cond t (Pending v x) (Taking (Data x w) n v)) → x < p.size
    within true i = i.address
    within false i = i.field
data_due p st a n v b (Taking Opcode m u) e l h k = absurd (other_not_data a e)
data_due p st a n v b (Taking ReadAddress m u) e l h k = absurd (other_not_data a e)
data_due p st a n v b (Taking FastAddress m u) e l h k = absurd (other_not_data a e)
data_due p st a n v b (Taking WriteAddress m u) e l h k = absurd (other_not_data a e)
data_due p st a n v b (Taking (Dummy x) m u) e l h k = absurd (other_not_data a e)
data_due p st a n v b (Taking StatusByte m u) e l h k = absurd (other_not_data a e)
data_due p st a n v b Rest e l h k = absurd (other_not_data a e)
data_due p st a n v b Ignoring e l h k = absurd (other_not_data a e)
data_due p st a n v b (Showing s m) e l h k = absurd (other_not_data a e)
data_due p st a n v b (Waiting x) e l h k = absurd (other_not_data a e)
data_due p st a n v b (Pending u x) e l h k = absurd (other_not_data a e)

pub next_small : (ph : Phase) (b : Bool) → next_value ph b < 2 ^ next_bits ph
next_small Rest b = omega arith
next_small Ignoring b = omega arith
next_small (Taking f n v) b = omega arith
next_small (Showing s k) b = omega arith
next_small (Waiting a) b = omega arith
next_small (Pending v a) b = shifted_within 0 0 b (omega arith)

pub selected_fresh : (z : Bool) → with_bits (selected z) 0 0 ≡ selected z
selected_fresh true = refl
selected_fresh false = refl

-- ---- the number that the bits make is small

pub one_small : (n : ℕ) → 0 < 2 ^ n
one_small n = one-le-pow n 2 (omega arith)

pub value_small : (p : Part) (ph : Phase) → PhaseIn p ph → ByteIn ph → value_of ph < 2 ^ bits_of ph
value_small p Rest h k = omega arith
value_small p Ignoring h k = omega arith
value_small p (Taking f n v) h k = h.bits
value_small p (Showing s j) h k = one_small j
value_small p (Waiting a) h k = omega arith
value_small p (Pending v a) h k = k

early_narrow : (p : Part) → Fit p → (f : Field) → early_in p f ≤ 23
early_narrow p fit Opcode = omega arith
early_narrow p fit ReadAddress = let k = fit.narrow in omega arith
early_narrow p fit FastAddress = let k = fit.narrow in omega arith
early_narrow p fit WriteAddress = let k = fit.narrow in omega arith
early_narrow p fit (Dummy a) = omega arith
early_narrow p fit (Data a w) = by p.late
  where
    by : (t : Bool) → cond t 8 7 ≤ 23
    by true = omega arith
    by false = omega arith
early_narrow p fit StatusByte = omega arith

pub early_few : (p : Part) → Fit p → (ph : Phase) → early_of p ph ≤ 23
early_few p fit Rest = omega arith
early_few p fit Ignoring = omega arith
early_few p fit (Taking f n v) = early_narrow p fit f
early_few p fit (Showing s k) = omega arith
early_few p fit (Waiting a) = omega arith
early_few p fit (Pending v a) = omega arith

-- one bit more has room
pub room_for_one : (p : Part) → Fit p → (ph : Phase) (n v : ℕ) → n < early_of p ph → v < 2 ^ n → v < 2147483648
room_for_one p fit ph n v l h = small n 31 v (let k = early_few p fit ph in omega arith) h

-- what the loop keeps of them, beside the phase
pub record BitsIn (p : Part) (ph : Phase) (n v e : ℕ) : Type 0 where
  pub small : v < 2 ^ n
  pub early : e ≡ early_of p ph
  pub kept : kept_of ph ≡ ph

-- with none
pub none_in : (p : Part) (ph : Phase) (e : ℕ) → e ≡ early_of p ph → kept_of ph ≡ ph → BitsIn p ph 0 0 e
none_in p ph e k q = record { small = omega arith; early = k; kept = q }

pub selected_kept : (z : Bool) → kept_of (selected z) ≡ selected z
selected_kept true = refl
selected_kept false = refl
