-- One sample of an I2C part on the fields of its image, edge by edge: each changed field is that of what the rule gives on the field as it
-- reads. Assumes nothing.
use Prim.Native.Nat.{ℕ, ◌<◌}
use mathlib.Core.Path.{◌≡◌, refl, sym, ◌∙◌}
use mathlib.Core.Bool.{Bool}
use mathlib.Core.List.{List}
use native.Mathlib.Omega.{arith}
use lib.Dec.{eqb}
use lib.ListN.{length}
use Rattle.parts.specs.declared.part.Part.{Part}
use Rattle.parts.specs.Numbers.{answer_number}
use Rattle.parts.specs.Table.{part_of}
use Rattle.std.specs.Prelude.{None, Some, Option}
use Rattle.serial.specs.declared.write.Write.{Write}
use Rattle.trace.specs.declared.event.Event.TheVariants.{Sample}
use Rattle.transfer.specs.declared.edge.Edge.{Edge}
use Rattle.transfer.specs.declared.edge.Edge.TheVariants.{Start, Stop, Rise, Fall, Quiet}
use Rattle.transfer.specs.declared.buffer.AddressBuffer.{AddressBuffer}
use Rattle.transfer.specs.declared.levels.Levels.{Levels}
use Rattle.transfer.specs.declared.phase.Field.TheVariants.{Word}
use Rattle.transfer.specs.declared.phase.Phase.{Phase}
use Rattle.transfer.specs.declared.phase.Phase.TheVariants.{Taking}
use Rattle.transfer.specs.Edge.{edge_of}
use Rattle.transfer.specs.Flag.{flag_of}
use Rattle.transfer.specs.Levels.{levels_of}
use Rattle.transfer.specs.Ranges.{PhaseIn}
use Rattle.i2c.specs.Pull.{pulls_after}
use Rattle.i2c.specs.Sample.{answer_of, step_to, step_on, step_of, Ready}
use Rattle.chip.specs.Check.{Sound}
use Rattle.chip.proofs.CheckLaws.{sound_in, i2c_ready}
use Rattle.events.specs.Event.{i2c_sampled, advance_of}
use Rattle.image_fields.specs.declared.fields.PhaseFields.{PhaseFields}
use Rattle.image_fields.specs.declared.fields.Fields.{Fields}
use Rattle.image_fields.specs.Fields.{only_tag}
use Rattle.image_fields.specs.I2cPhase as I2cPhase
use Rattle.image_fields.specs.State.{fields_of, i2c_in, state_in}
use Rattle.image_fields.proofs.LevelLaws.{i2c_sample_same}
use Rattle.image_sample.specs.declared.stepped.Stepped.{Stepped}
use Rattle.image_sample.specs.Bits.{one_more}
use Rattle.image_sample.specs.Moved.{i2c_moved, i2c_done}
use Rattle.image_sample.specs.Stepped.{Gives}
use Rattle.image_sample.proofs.FieldLaws.{I2cSame, i2c_same}
use Rattle.image_sample.proofs.I2cBits as Bits

-- what `i2c_sample` asks
abbrev pub Asked : Part → Fields → ℕ → List ℕ → Type 0
Asked p f x m = (fields_of (state_in f) ≡ f) × (f.power ≡ 2) × (x < 8) × (p ≡ part_of f.part) × Sound (state_in f) m

module _ (p : Part) (f : Fields) (x : ℕ) (m : List ℕ) (pre : Asked p f x m) where
  ready : Ready p f.pins (i2c_in f) m
  ready = rw pre.3 (i2c_ready (state_in f) (i2c_in f) m (rw pre.1 refl) (sound_in (state_in f) m pre.4))

  same : I2cSame f
  same = i2c_same f pre.0 pre.1

  pub fall_ready : (f.pins < 8) × (length m ≡ p.size) × PhaseIn p (I2cPhase.phase_in f.phase)
  fall_ready = (omega (arith, ready.placed.wired, ready.placed.fit.few), ready.sized, ready.inside)

  pub rise_ready : f.phase.count < 8 → (f.phase.count < 255) × (f.phase.value < 2147483648)
  rise_ready h = Bits.room f.phase same.phase h p ready.inside

  -- the event goes by the edge
  advance : (e : Edge) → edge_of (eqb f.driven 0) (levels_of f.last) (levels_of x) ≡ e
      → advance_of (state_in f) m (Sample x) ≡ i2c_sampled (state_in f) m (flag_of (I2cPhase.phase_in f.phase) (levels_of f.last) (levels_of x)) (step_on e p f.pins (i2c_in f) (levels_of x) m)
  unfolding advance_of step_of
  advance e k = rw (pre.3, pre.1, k)

  -- a step that writes nothing and keeps the address buffer, on the fields
  as_fields : {pulling : Bool} {a : AddressBuffer} {ph : Phase} {w : Option Write} {flag : Bool} → advance_of (state_in f) m (Sample x) ≡ i2c_sampled (state_in f) m flag (step_to (levels_of x) pulling a ph w)
      → w ≡ None
      → a ≡ (i2c_in f).buffer
      → {d : ℕ} → d ≡ answer_number (answer_of pulling)
      → {q : PhaseFields} → q ≡ I2cPhase.fields_of ph
      → {r : Stepped} → r ≡ i2c_done (i2c_moved f x d q) flag
      → Gives f m x (Some r)
  as_fields e none stays ed eq er = (
    rw (er, e, ed, eq, stays, same.status, same.used, i2c_sample_same x pre.2, pre.1, same.asleep),
    rw (e, none),
    rw e,
  )

  -- what the function saw: the levels before and now, its flag, and an edge
  module _ {before l : Levels} (eb : before ≡ levels_of f.last) (el : l ≡ levels_of x) {ph : Phase} (eh : ph ≡ I2cPhase.phase_in f.phase) {flag : Bool} (ef : flag ≡ flag_of ph before l) {e : Edge} (ee : e ≡ edge_of (eqb f.driven 0) before l) where
    seen : {k : Edge} → e ≡ k → edge_of (eqb f.driven 0) (levels_of f.last) (levels_of x) ≡ k
    seen h = rw (eb, el) at (sym ee ∙ h)

    done_is : {g g' : Fields} {r : Stepped} → r ≡ i2c_done g flag → g ≡ g' → r ≡ i2c_done g' (flag_of (I2cPhase.phase_in f.phase) (levels_of f.last) (levels_of x))
    done_is er eg = rw (er, eg, ef, eh, eb, el)

    pub quiet : {g : Fields} {r : Stepped} → e ≡ Quiet → g ≡ i2c_moved f x f.driven f.phase → r ≡ i2c_done g flag → Gives f m x (Some r)
    quiet k eg er = as_fields (advance Quiet (seen k)) refl refl (sym same.driven) (sym same.phase) (done_is er eg)

    pub start : {g : Fields} {r : Stepped} → e ≡ Start → g ≡ i2c_moved f x 2 (I2cPhase.fields_of (Taking Word 0 0)) → r ≡ i2c_done g flag → Gives f m x (Some r)
    start k eg er = as_fields (advance Start (seen k)) refl refl refl refl (done_is er eg)

    pub stop : {g : Fields} {r : Stepped} → e ≡ Stop → g ≡ i2c_moved f x 2 (only_tag 0) → r ≡ i2c_done g flag → Gives f m x (Some r)
    stop k eg er = as_fields (advance Stop (seen k)) refl refl refl refl (done_is er eg)

    pub fall : {g : Fields} {r : Stepped} → e ≡ Fall
        → g ≡ i2c_moved f x (answer_number (answer_of (pulls_after p f.pins m (I2cPhase.phase_in f.phase)))) f.phase
        → r ≡ i2c_done g flag
        → Gives f m x (Some r)
    fall k eg er = as_fields (advance Fall (seen k)) refl refl refl (sym same.phase) (done_is er eg)

    pub rise : {b : Bool} {g : Fields} {r : Stepped} → e ≡ Rise b → f.phase.count < 8 → g ≡ i2c_moved f x f.driven (one_more f.phase b) → r ≡ i2c_done g flag
        → Gives f m x (Some r)
    rise {b} k h eg er =
        as_fields (advance (Rise b) (seen k)) (Bits.unwritten f.phase same.phase h (levels_of x).wp)
        (Bits.stays f.phase same.phase h p (i2c_in f).buffer) (sym same.driven)
        (Bits.risen f.phase same.phase h p f.pins (i2c_in f).buffer b) (done_is er eg)
