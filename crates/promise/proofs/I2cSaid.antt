-- THE ANSWERS OF AN I2C PART: for every making of one, every first memory and every list of events, each accepted event answers what
-- the history says of the open span, and no event answers 1. From the agreement after every list. Assumes nothing.
use Prim.Native.Nat.{ℕ, ◌<◌}
use mathlib.Core.Path.{◌≡◌, refl, sym, ap, ◌∙◌}
use mathlib.Core.Bool.{Bool, true, false}
use mathlib.Core.List.{List, [], ◌∷◌, ◌++◌}
use native.Mathlib.Omega.{arith}
use lib.Dec.{eqb, ltb}
use borrow.Author.Tests.{eqb-false, lt-ltb}
use Rattle.parts.specs.declared.part.Part.{Part}
use Rattle.parts.specs.Table.{is_spi, part_of}
use Rattle.trace.specs.declared.event.Event.{Event}
use Rattle.trace.specs.Read.{read_of, Whole}
use Rattle.chip.specs.declared.model.Model.{Model}
use Rattle.chip.specs.Model.{unpowered}
use Rattle.events.specs.Event.{Outcome}
use Rattle.model.specs.Made.{Made}
use Rattle.model.specs.Make.{status_of, make_of}
use Rattle.runs.specs.Event.{event_of}
use Rattle.runs.proofs.EventLaws.{event_stays}
use Rattle.ledger.specs.History.{Entry}
use Rattle.ledger.specs.I2cAnswers.{pull_answer, pulls, present_answer, i2c_answer}
use Rattle.promise.specs.Lists.{model_after, memory_after}
use Rattle.promise.specs.Promise.{made_by, history_of}
use Rattle.promise.specs.I2cAnswers.{I2cAnswers, next}
use Rattle.promise.proofs.Ranges.{made_in, made_off}
use Rattle.promise.proofs.Stays.{accepted_whole}
use Rattle.promise.proofs.Joins.{fed_join}
use Rattle.promise.proofs.I2cAnswers.{Fitting, list_fitting, list_present}

-- ---- a refused event answers 2

pub refused_two : (s : Model) (m t : List ℕ) → eqb (event_of s m t).result.number 0 ≡ false → (event_of s m t).result.answer ≡ 2
refused_two s m t h = (event_stays s m t).refused_answer (eqb-false _ 0 h)

-- ---- what a history says is never 1

not_one : (y : Bool) → pull_answer y ≡ 1 → ⊥
not_one true h = omega arith
not_one false h = omega arith

answer_not_one : (p : Part) (pins : ℕ) (first : List ℕ) (h : List Entry) → i2c_answer p pins first h ≡ 1 → ⊥
answer_not_one p pins first [] e = omega arith
answer_not_one p pins first (x ∷ h) e =
    not_one (pulls p pins first (record { event = x.event; answer = present_answer h } ∷ h)) e

-- ---- makings of an I2C part

made_three : (pins : ℕ) → ltb pins 8 ≡ true → make_of 3 pins 0 ≡ record { number = 0; model = unpowered 3 pins (status_of 0) }
unfolding make_of
made_three pins h = rw h

made_four : (pins : ℕ) → ltb pins 4 ≡ true → make_of 4 pins 0 ≡ record { number = 0; model = unpowered 4 pins (status_of 0) }
unfolding make_of
made_four pins h = rw h

-- ---- the answers

module _ (part pins bits : ℕ) (first : List ℕ) (es : List (List ℕ)) (i2c : is_spi (part_of (made_by part pins bits).part).bus ≡ false) where
  abbrev start : Model
  start = made_by part pins bits

  abbrev table : Part
  table = part_of start.part

  fitting : (ks : List (List ℕ)) → Fitting start first i2c (model_after start first ks) (memory_after start first ks) (history_of start first ks)
  fitting = list_fitting start first i2c (made_in part pins bits) (made_off part pins bits)

  abbrev then : List ℕ → Outcome
  then t = next part pins bits first es t

  -- an accepted event is the last of the history
  entered_last : (t : List ℕ) (e : eqb (then t).result.number 0 ≡ true)
      → let x : Event = (accepted_whole (model_after start first es) (memory_after start first es) t e).0 in
      history_of start first (es ++ (t ∷ [])) ≡ record { event = x; answer = (then t).result.answer } ∷ history_of start first es
  entered_last t e =
      let w = accepted_whole (model_after start first es) (memory_after start first es) t e in
      let q : read_of table t ≡ Whole w.0 w.1 = rw (fitting es).fits.part_is at w.2 in
      fed_join table es (t ∷ []) start first [] ∙ rw (e, q)

  next_said : (t : List ℕ) → eqb (then t).result.number 0 ≡ true
      → (then t).result.answer ≡ i2c_answer table start.pins first (history_of start first (es ++ (t ∷ [])))
  next_said t e = rw (entered_last t e) (rw (entered_last t e) at (fitting (es ++ (t ∷ []))).said).0

  not_one_by : (t : List ℕ) (y : Bool) → eqb (then t).result.number 0 ≡ y → (then t).result.answer ≡ 1 → ⊥
  not_one_by t true e h = answer_not_one table start.pins first (history_of start first (es ++ (t ∷ []))) (sym (next_said t e) ∙ h)
  not_one_by t false e h =
      let z : ◌≡◌ {A = ℕ} 2 1 = sym (refused_two (model_after start first es) (memory_after start first es) t e) ∙ h in omega arith

  kept : I2cAnswers part pins bits first es
  kept =
      record {
        answered = (fitting es).said;
        next_answer = λ t e. next_said t (rw e);
        present = list_present start first i2c (made_in part pins bits) (made_off part pins bits) es;
        never_one = λ t h. not_one_by t (eqb (then t).result.number 0) refl h;
      }

-- any numbers of a making that give an I2C part; any first memory; any list of events, any bytes
pub i2c_answers : (part pins bits : ℕ) (first : List ℕ) (es : List (List ℕ)) → is_spi (part_of (made_by part pins bits).part).bus ≡ false
    → I2cAnswers part pins bits first es
i2c_answers part pins bits first es i2c = kept part pins bits first es i2c

abbrev spi_made : Made → Bool
spi_made x = is_spi (part_of x.model.part).bus

-- these are part 3 with pins 0 to 7 and part 4 with pins 0 to 3
pub part_3_answers : (pins : ℕ) (first : List ℕ) (es : List (List ℕ)) → pins < 8 → I2cAnswers 3 pins 0 first es
part_3_answers pins first es h = i2c_answers 3 pins 0 first es (ap spi_made (made_three pins (lt-ltb pins 8 h)))

pub part_4_answers : (pins : ℕ) (first : List ℕ) (es : List (List ℕ)) → pins < 4 → I2cAnswers 4 pins 0 first es
part_4_answers pins first es h = i2c_answers 4 pins 0 first es (ap spi_made (made_four pins (lt-ltb pins 4 h)))
