-- One event that is no sample under power, after c events and o bytes of a run: the run goes on after it, or stops at it. These
-- definitions only say how the code divides a run.
use Rattle.trace.specs.Read.{Read, Whole, Refused}
use Rattle.std.specs.Prelude.{ℕ, ◌+◌, cond, List, eqb, set, Result, Ok, Err}
use Rattle.parts.specs.declared.refusal.Refusal.{Refusal}
use Rattle.parts.specs.Numbers.{refusal_number}
use Rattle.events.specs.Reply.{Reply}
use Rattle.events.specs.OtherEvent.{OtherThanSample}
use Rattle.events.specs.Event.{advance_of}
use Rattle.chip.specs.declared.model.BusState.{BusState}
use Rattle.chip.specs.declared.model.Model.{Model}
use Rattle.steps.specs.declared.other.Other.{Other}

-- where a run stands after it: number or 0, state, and the offset, after the event if it is accepted, else where the refusal points
pub record Standing : Type 0 where
  pub number : ℕ
  pub model : Model
  pub offset : ℕ

abbrev pub other : ℕ → Model → ℕ → Standing
other n s o = record { number = n; model = s; offset = o }

-- what the code returns amounts to such a place; a refusal leaves the given state
abbrev pub standing_of : Model → Result Other (Refusal × ℕ) → Standing
standing_of s (Ok x) = other 0 x.model x.offset
standing_of s (Err (r, o)) = other (refusal_number r) s o

-- by what the event gave, which took n bytes
abbrev pub other_by : Reply → ℕ → Model → ℕ → Standing
other_by a n s o = cond (eqb a.number 0) (other 0 a.model (o + n)) (other a.number s o)

-- by what was read; a refusal stops the run before the event
abbrev pub other_of : Read → Model → List ℕ → ℕ → Standing
other_of (Whole e n) s m o = other_by (advance_of s m e).result n s o
other_of (Refused r place) s m o = other (refusal_number r) s (o + place)

-- its answer is noted at c if it is accepted
abbrev pub noted_by : Reply → ℕ → List ℕ → List ℕ
noted_by a c buf = cond (eqb a.number 0) (set buf c a.answer) buf

abbrev pub other_noted : Read → Model → List ℕ → ℕ → List ℕ → List ℕ
other_noted (Whole e n) s m c buf = noted_by (advance_of s m e).result c buf
other_noted (Refused r place) s m c buf = buf

-- what was read is no sample, if there is power
abbrev pub ReadOtherThanSample : Read → BusState → Type 0
ReadOtherThanSample (Whole e n) b = OtherThanSample b e
ReadOtherThanSample (Refused r place) b = Unit {0}
