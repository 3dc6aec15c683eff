-- Every sample keeps the ranges of the phase and the memory's length, and writes within the memory: for every part that fits,
-- over its size and address width. Assumes nothing.
use Prim.Native.Nat.{ℕ, ◌+◌, ◌<◌}
use mathlib.Core.Path.{◌≡◌, refl, ◌∙◌}
use mathlib.Core.Bool.{Bool, true, false, cond, ◌&&◌}
use mathlib.Core.List.{List}
use native.Mathlib.Omega.{arith}
use native.Mathlib.Nat.{mod-lt}
use lib.Dec.{ltb}
use lib.ListN.{length}
use borrow.Author.Tests.{ltb-true}
use Rattle.parts.specs.declared.part.Part.{Part}
use Rattle.parts.specs.declared.status.Status.{Status}
use Rattle.parts.specs.Status.{protected_start}
use Rattle.parts.specs.Table.{Fit}
use Rattle.std.specs.Prelude.{None}
use Rattle.serial.specs.Bits.{shifted}
use Rattle.serial.specs.Write.{applied, Within, write_at}
use Rattle.serial.proofs.AddressLaws.{next_within}
use Rattle.serial.proofs.BitLaws.{shifted_within}
use Rattle.serial.proofs.WriteLaws.{length_applied}
use Rattle.selection.specs.declared.levels.Levels.{Levels}
use Rattle.selection.specs.declared.edge.Edge.{Edge}
use Rattle.selection.specs.declared.edge.Edge.TheVariants.{Select, Deselect, Rise, Fall, Quiet}
use Rattle.selection.specs.declared.opcode.Command.{Command}
use Rattle.selection.specs.declared.opcode.Command.TheVariants.{WREN, WRDI, RDSR, WRSR, READ, WRITE, FSTRD, RDID, SLEEP, Unknown}
use Rattle.selection.specs.declared.phase.Field.{Field}
use Rattle.selection.specs.declared.phase.Field.TheVariants.{Opcode, ReadAddress, FastAddress, WriteAddress, Dummy, Data, StatusByte}
use Rattle.selection.specs.declared.phase.Source.{Source}
use Rattle.selection.specs.declared.phase.Source.TheVariants.{Memory, Register, Identity}
use Rattle.selection.specs.declared.phase.Phase.{Phase}
use Rattle.selection.specs.declared.phase.Phase.TheVariants.{Rest, Ignoring, Taking, Showing, Waiting, Pending}
use Rattle.spi.specs.declared.sample.Spi.{Spi}
use Rattle.selection.specs.Edge.{edge_of}
use Rattle.selection.specs.Opcode.{command_of}
use Rattle.selection.specs.Phase.{width, phase_after_opcode, data_after, phase_after_field, next_source, after_taken, after_shown, after_rise}
use Rattle.spi.specs.Store.{field_write, data_write, permitted, finished_write, rise_write, end_write}
use Rattle.selection.specs.Ranges.{FieldIn, SourceIn, TakingIn, ShowingIn, PhaseIn}
use Rattle.spi.specs.Sample.{selected, step_on, step_of, Ready}

module _ (p : Part) (fit : Fit p) where
  -- a field with none of its bits yet, and the first bit of a byte
  pub width_wide : (f : Field) → 0 < width p f
  width_wide Opcode = omega arith
  width_wide ReadAddress = fit.wide
  width_wide FastAddress = fit.wide
  width_wide WriteAddress = fit.wide
  width_wide (Dummy a) = omega arith
  width_wide (Data a w) = omega arith
  width_wide StatusByte = omega arith

  taking_in_lem : (f : Field) → FieldIn p f → TakingIn p f 0 0
  taking_in_lem f h = record { field = h; short = width_wide f; bits = omega arith }

  showing_in_lem : (s : Source) → SourceIn p s → ShowingIn p s 0
  showing_in_lem s h = record { source = h; bit = omega arith }

  -- ---- a counted rise

  after_opcode_in : (k : Command) → PhaseIn p (phase_after_opcode k)
  after_opcode_in WREN = tt
  after_opcode_in WRDI = tt
  after_opcode_in RDSR = showing_in_lem Register tt
  after_opcode_in WRSR = taking_in_lem StatusByte tt
  after_opcode_in READ = taking_in_lem ReadAddress tt
  after_opcode_in WRITE = taking_in_lem WriteAddress tt
  after_opcode_in FSTRD = taking_in_lem FastAddress tt
  after_opcode_in RDID = showing_in_lem (Identity 0) (omega arith)
  after_opcode_in SLEEP = tt
  after_opcode_in Unknown = tt

  -- the data byte after one
  data_after_in : (a : ℕ) → TakingIn p (data_after p a) 0 0
  data_after_in a = taking_in_lem (data_after p a) (next_within p.size a fit.positive)

  pub after_field_in : (f : Field) (v : ℕ) → FieldIn p f → PhaseIn p (phase_after_field p f v)
  after_field_in Opcode v h = after_opcode_in (command_of p v)
  after_field_in ReadAddress v h = showing_in_lem (Memory _) (mod-lt v fit.positive)
  after_field_in FastAddress v h = taking_in_lem (Dummy _) (mod-lt v fit.positive)
  after_field_in WriteAddress v h = taking_in_lem (Data _ false) (mod-lt v fit.positive)
  after_field_in (Dummy a) v h = showing_in_lem (Memory a) h
  after_field_in (Data a w) v h = by p.late refl
    where
      by : (t : Bool) → p.late ≡ t → PhaseIn p (cond t (Pending v a) (Taking (data_after p a) 0 0))
      by true e = record { late = e; address = h }
      by false e = data_after_in a
  after_field_in StatusByte v h = tt

  taken_in : (f : Field) (n v : ℕ) (b : Bool) → TakingIn p f n v → PhaseIn p (after_taken p f n v b)
  taken_in f n v b h = by (ltb (n + 1) (width p f)) refl
    where
      by : (t : Bool) → ltb (n + 1) (width p f) ≡ t → PhaseIn p (cond t (Taking f (n + 1) (shifted v b)) (phase_after_field p f (shifted v b)))
      by true e = record { field = h.field; short = ltb-true (n + 1) (width p f) e; bits = shifted_within n v b h.bits }
      by false e = after_field_in f (shifted v b) h.field

  pub next_source_in : (s : Source) → SourceIn p s → SourceIn p (next_source p s)
  next_source_in (Memory a) h = next_within p.size a fit.positive
  next_source_in Register h = tt
  next_source_in (Identity i) h = by (ltb i 3) refl
    where
      by : (t : Bool) → ltb i 3 ≡ t → SourceIn p (cond t (Identity (i + 1)) (Identity i))
      by true e = let l = ltb-true i 3 e in omega arith
      by false e = h

  shown_in : (s : Source) (k : ℕ) → ShowingIn p s k → PhaseIn p (after_shown p s k)
  shown_in s k h = by (ltb k 7) refl
    where
      by : (t : Bool) → ltb k 7 ≡ t → PhaseIn p (cond t (Showing s (k + 1)) (Showing (next_source p s) 0))
      by true e = record { source = h.source; bit = let l = ltb-true k 7 e in omega arith }
      by false e = showing_in_lem (next_source p s) (next_source_in s h.source)

  rise_in : (ph : Phase) (b : Bool) → PhaseIn p ph → PhaseIn p (after_rise p ph b)
  rise_in Rest b h = tt
  rise_in Ignoring b h = tt
  rise_in (Taking f n v) b h = taken_in f n v b h
  rise_in (Showing s k) b h = shown_in s k h
  rise_in (Waiting a) b h = tt
  rise_in (Pending v a) b h = taken_in (data_after p a) 0 0 b (data_after_in a)

  pub selected_in : (z : Bool) → PhaseIn p (selected z)
  selected_in true = tt
  selected_in false = taking_in_lem Opcode tt

  -- ---- what is written

  pub permitted_within : (st : Status) (a v : ℕ) → a < p.size → Within p.size (permitted p st a v)
  permitted_within st a v h = by (st.wel && ltb a (protected_start st p))
    where
      by : (t : Bool) → Within p.size (cond t (write_at a v) None)
      by true = h
      by false = tt

  finished_within : (st : Status) (a v : ℕ) → a < p.size → Within p.size (finished_write p st a v)
  finished_within st a v h = by p.late
    where
      by : (t : Bool) → Within p.size (cond t None (permitted p st a v))
      by true = tt
      by false = permitted_within st a v h

  data_within : (st : Status) (a n v : ℕ) (b : Bool) → a < p.size → Within p.size (data_write p st a n v b)
  data_within st a n v b h = by (ltb n 7)
    where
      by : (t : Bool) → Within p.size (cond t None (finished_write p st a (shifted v b)))
      by true = tt
      by false = finished_within st a (shifted v b) h

  field_within : (st : Status) (f : Field) (n v : ℕ) (b : Bool) → FieldIn p f → Within p.size (field_write p st f n v b)
  field_within st Opcode n v b h = tt
  field_within st ReadAddress n v b h = tt
  field_within st FastAddress n v b h = tt
  field_within st WriteAddress n v b h = tt
  field_within st (Dummy a) n v b h = tt
  field_within st (Data a w) n v b h = data_within st a n v b h
  field_within st StatusByte n v b h = tt

  pub rise_within : (st : Status) (ph : Phase) (b : Bool) → PhaseIn p ph → Within p.size (rise_write p st ph b)
  rise_within st Rest b h = tt
  rise_within st Ignoring b h = tt
  rise_within st (Taking f n v) b h = field_within st f n v b h.field
  rise_within st (Showing s k) b h = tt
  rise_within st (Waiting a) b h = tt
  rise_within st (Pending v a) b h = permitted_within st a v h.address

  pub end_within : (st : Status) (ph : Phase) → PhaseIn p ph → Within p.size (end_write p st ph)
  end_within st Rest h = tt
  end_within st Ignoring h = tt
  end_within st (Taking f n v) h = tt
  end_within st (Showing s k) h = tt
  end_within st (Waiting a) h = tt
  end_within st (Pending v a) h = permitted_within st a v h.address

-- ---- one sample

module _ (p : Part) (st : Status) (s : Spi) (l : Levels) (m : List ℕ) (r : Ready p s m) where
  on_in : (e : Edge) → PhaseIn p (step_on e p st s l m).spi.phase
  on_in Select = selected_in p r.fit s.asleep
  on_in Deselect = tt
  on_in (Rise b) = rise_in p r.fit s.phase b r.inside
  on_in Fall = r.inside
  on_in Quiet = r.inside

  on_within : (e : Edge) → Within p.size (step_on e p st s l m).write
  on_within Select = tt
  on_within Deselect = end_within p r.fit st s.phase r.inside
  on_within (Rise b) = rise_within p r.fit st s.phase b r.inside
  on_within Fall = tt
  on_within Quiet = tt

  -- what a sample writes lies within the memory
  pub write_within : Within (length m) (step_of p st s l m).write
  unfolding step_of
  write_within = rw r.sized (on_within (edge_of s.last l))

  -- after a sample the next one can follow
  pub keeps : Ready p (step_of p st s l m).spi (applied (step_of p st s l m).write m)
  unfolding step_of
  keeps = record {
    fit = r.fit;
    inside = on_in (edge_of s.last l);
    sized = length_applied (step_on (edge_of s.last l) p st s l m).write m ∙ r.sized;
  }
