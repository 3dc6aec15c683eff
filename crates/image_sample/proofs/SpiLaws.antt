-- One sample of an SPI part on the fields of its image, edge by edge: each changed field is that of what the rule gives on the field as it
-- reads. Assumes nothing.
use Prim.Native.Nat.{ℕ, ◌<◌}
use mathlib.Core.Path.{◌≡◌, refl, sym, ◌∙◌}
use mathlib.Core.Bool.{Bool}
use mathlib.Core.List.{List}
use lib.Dec.{eqb}
use lib.ListN.{length}
use Rattle.parts.specs.declared.answer.Answer.{Answer}
use Rattle.parts.specs.declared.part.Part.{Part}
use Rattle.parts.specs.declared.status.Status.{Status}
use Rattle.parts.specs.Numbers.{answer_number}
use Rattle.parts.specs.Status.{bit, status_byte}
use Rattle.parts.specs.Table.{part_of}
use Rattle.std.specs.Prelude.{None, Some, Option}
use Rattle.serial.specs.declared.write.Write.{Write}
use Rattle.trace.specs.declared.event.Event.TheVariants.{Sample}
use Rattle.selection.specs.declared.edge.Edge.{Edge}
use Rattle.selection.specs.declared.edge.Edge.TheVariants.{Select, Deselect, Rise, Fall, Quiet}
use Rattle.selection.specs.declared.levels.Levels.{Levels}
use Rattle.selection.specs.declared.phase.Phase.{Phase}
use Rattle.selection.specs.Edge.{edge_of}
use Rattle.selection.specs.Flag.{flag_of}
use Rattle.selection.specs.Levels.{levels_of}
use Rattle.selection.specs.Ranges.{PhaseIn}
use Rattle.spi_status.specs.Deselect.{status_after, asleep_after}
use Rattle.spi.specs.Sample.{selected, step_to, step_on, step_of, Ready}
use Rattle.spi.specs.Show.{after_fall}
use Rattle.chip.specs.Check.{Sound}
use Rattle.chip.proofs.CheckLaws.{sound_in, spi_ready}
use Rattle.events.specs.Event.{spi_sampled, advance_of}
use Rattle.image_fields.specs.declared.fields.PhaseFields.{PhaseFields}
use Rattle.image_fields.specs.declared.fields.Fields.{Fields}
use Rattle.image_fields.specs.Fields.{only_tag}
use Rattle.image_fields.specs.SpiPhase as SpiPhase
use Rattle.image_fields.specs.State.{fields_of, status_in, answer_in, spi_in, state_in}
use Rattle.image_sample.specs.declared.stepped.Stepped.{Stepped}
use Rattle.image_sample.specs.Bits.{early_at, one_more}
use Rattle.image_sample.specs.Moved.{spi_moved, spi_done}
use Rattle.image_sample.specs.Stepped.{Gives}
use Rattle.image_fields.proofs.LevelLaws.{spi_sample_same}
use Rattle.image_fields.proofs.StateLaws.{answer_back}
use Rattle.image_sample.proofs.FieldLaws.{SpiSame, spi_same}
use Rattle.image_sample.proofs.SpiBits as Bits

-- what `spi_sample` asks
abbrev pub Asked : Part → Fields → ℕ → List ℕ → Type 0
Asked p f x m = (fields_of (state_in f) ≡ f) × (f.power ≡ 1) × (x < 32) × (p ≡ part_of f.part) × Sound (state_in f) m

module _ (p : Part) (f : Fields) (x : ℕ) (m : List ℕ) (pre : Asked p f x m) where
  pub ready : Ready p (spi_in f) m
  ready = rw pre.3 (spi_ready (state_in f) (spi_in f) m (rw pre.1 refl) (sound_in (state_in f) m pre.4))

  same : SpiSame f
  same = spi_same f pre.0 pre.1

  pub fall_ready : (length m ≡ p.size) × PhaseIn p (SpiPhase.phase_in f.phase)
  fall_ready = (ready.sized, ready.inside)

  pub rise_ready : {n : ℕ} → n ≡ early_at p f.phase.tag → f.phase.count < n → (f.phase.count < 255) × (f.phase.value < 2147483648)
  rise_ready en few = Bits.room p f.phase same.phase (rw en at few) ready.fit ready.inside

  -- the event goes by the edge
  advance : (e : Edge) → edge_of (levels_of f.last) (levels_of x) ≡ e
      → advance_of (state_in f) m (Sample x) ≡ spi_sampled (state_in f) m (flag_of (levels_of f.last) (levels_of x)) (step_on e p (status_in f.status) (spi_in f) (levels_of x) m)
  unfolding advance_of step_of
  advance e k = rw (pre.3, pre.1, k)

  -- a step that writes nothing, on the fields
  as_fields : {st : Status} {z : Bool} {shown : Answer} {ph : Phase} {w : Option Write} {flag : Bool} → advance_of (state_in f) m (Sample x) ≡ spi_sampled (state_in f) m flag (step_to st (levels_of x) z shown ph w)
      → w ≡ None
      → {s : ℕ} → s ≡ status_byte st
      → {d : ℕ} → d ≡ answer_number shown
      → {y : ℕ} → y ≡ bit z
      → {q : PhaseFields} → q ≡ SpiPhase.fields_of ph
      → {r : Stepped} → r ≡ spi_done (spi_moved f x s d y q) (levels_of x) flag
      → Gives f m x (Some r)
  as_fields {st} {z} {shown} e none es ed ey eq er = (
    rw (er, e, es, ed, ey, eq, answer_back shown, spi_sample_same x pre.2, pre.1, same.buffer, same.used),
    rw (e, none),
    rw e,
  )

  -- what the function saw: the levels before and now, its flag, and an edge
  module _ {before l : Levels} (eb : before ≡ levels_of f.last) (el : l ≡ levels_of x) {flag : Bool} (ef : flag ≡ flag_of before l) {e : Edge} (ee : e ≡ edge_of before l) where
    seen : {k : Edge} → e ≡ k → edge_of (levels_of f.last) (levels_of x) ≡ k
    seen h = rw (eb, el) at (sym ee ∙ h)

    done_is : {g g' : Fields} {r : Stepped} → r ≡ spi_done g l flag → g ≡ g' → r ≡ spi_done g' (levels_of x) (flag_of (levels_of f.last) (levels_of x))
    done_is er eg = rw (er, eg, ef, eb, el)

    pub quiet : {g : Fields} {r : Stepped} → e ≡ Quiet → g ≡ spi_moved f x f.status f.driven f.asleep f.phase → r ≡ spi_done g l flag → Gives f m x (Some r)
    quiet k eg er =
        as_fields (advance Quiet (seen k)) refl (sym same.status) (sym same.driven) (sym same.asleep) (sym same.phase) (done_is er eg)

    pub select : {g : Fields} {r : Stepped} → e ≡ Select → g ≡ spi_moved f x f.status 2 f.asleep (SpiPhase.fields_of (selected (eqb f.asleep 1))) → r ≡ spi_done g l flag
        → Gives f m x (Some r)
    select k eg er = as_fields (advance Select (seen k)) refl (sym same.status) refl (sym same.asleep) refl (done_is er eg)

    -- no data byte waits
    pub deselect : {g : Fields} {r : Stepped} → e ≡ Deselect
        → f.phase.tag < 0x34
        → g ≡ spi_moved f x (status_byte (status_after (status_in f.status) l.wp (SpiPhase.phase_in f.phase))) 2 (bit (asleep_after (eqb f.asleep 1) (SpiPhase.phase_in f.phase))) (only_tag 0)
        → r ≡ spi_done g l flag
        → Gives f m x (Some r)
    deselect k h eg er =
        as_fields (advance Deselect (seen k)) (Bits.end_unwritten p (status_in f.status) f.phase same.phase h) refl refl refl refl
        (done_is er (eg ∙ rw el))

    pub fall : {g : Fields} {r : Stepped} → e ≡ Fall
        → g ≡ spi_moved f x f.status (answer_number (after_fall p (status_in f.status) m (SpiPhase.phase_in f.phase) (answer_in f.driven))) f.asleep f.phase
        → r ≡ spi_done g l flag
        → Gives f m x (Some r)
    fall k eg er = as_fields (advance Fall (seen k)) refl (sym same.status) refl (sym same.asleep) (sym same.phase) (done_is er eg)

    pub rise : {b : Bool} {g : Fields} {r : Stepped} {n : ℕ} → e ≡ Rise b → n ≡ early_at p f.phase.tag → f.phase.count < n → g ≡ spi_moved f x f.status f.driven f.asleep (one_more f.phase b)
        → r ≡ spi_done g l flag
        → Gives f m x (Some r)
    rise {b} k en few eg er =
        let h = rw en at few in
        as_fields (advance (Rise b) (seen k)) (Bits.unwritten p f.phase same.phase h (status_in f.status) b) (sym same.status)
        (sym same.driven) (sym same.asleep) (Bits.risen p f.phase same.phase h b) (done_is er eg)
