-- Selections as bytes bring back what the history says of their pin events, among events and after any of them. From the answers of single
-- events and from what a selection is as events. Assumes nothing.
use Prim.Native.Nat.{ℕ}
use mathlib.Core.Path.{◌≡◌, refl, ap, ap₂, ◌∙◌}
use mathlib.Core.Bool.{Bool}
use mathlib.Core.List.{List, [], ◌∷◌, ◌++◌}
use lib.ListN.{length, replicate}
use Rattle.chip.specs.declared.model.Model.{Model}
use Rattle.byte_path.specs.PinPath.{bytes_of, first_driven, driven_count}
use Rattle.byte_path.specs.Select.{select_of}
use Rattle.promise.specs.Lists.{observations, model_after, memory_after}
use Rattle.promise.specs.Promise.{made_by, history_of}
use Rattle.promise.specs.RunEvents.{numbers_of, answers_of}
use Rattle.promise.specs.Answers.{ledger_answer}
use Rattle.promise.specs.Selects.{pin_events, pin_answers, backs_in}
use Rattle.promise.specs.SelectSteps.{Step, event, model_steps, memory_steps, events_steps}
use Rattle.promise.specs.SelectAnswers.{said_of, next, said_back, StepsAnswers}
use Rattle.ledger.specs.Flags.{Exactly}
use Rattle.promise.specs.Flags.{Warned}
use Rattle.promise.proofs.Answers.{answers}
use Rattle.promise.proofs.Flags.{flag_said}
use Rattle.promise.proofs.Joins.{model_join, memory_join}
use Rattle.promise.proofs.Selects.{as_events}
use Rattle.promise.proofs.SelectSteps.{steps_leave}

module _ (part pins bits : ℕ) (first : List ℕ) where
  abbrev start : Model
  start = made_by part pins bits

  -- events that are all accepted, after any list
  all_said : (ts es : List (List ℕ))
      → numbers_of (observations (model_after start first es) (memory_after start first es) ts) ≡ replicate (length ts) 0
      → answers_of (observations (model_after start first es) (memory_after start first es) ts) ≡ said_of start first es ts
  all_said [] es h = refl
  all_said (t ∷ ts) es h =
      let k = rw (model_join es (t ∷ []) start first, memory_join es (t ∷ []) start first) at (all_said ts (es ++ (t ∷ []))) in
      ap₂ ◌∷◌ (answers part pins bits first es t (cc)) (k (cc))

  module _ (xs : List Step) where
    abbrev s : Model
    s = model_steps start first xs

    abbrev m : List ℕ
    m = memory_steps start first xs

    -- an event, on the state and memory that the steps leave
    event_said : (t : List ℕ) → (next part pins bits first xs (event t)).number ≡ 0
        → (next part pins bits first xs (event t)).back ≡ ledger_answer start first (history_of start first (events_steps start first xs ++ (t ∷ []))) ∷ []
    event_said t =
        let l = steps_leave xs start first in
        let k = rw (l.0, l.1) at (answers part pins bits first (events_steps start first xs) t) in
        λ z. ap (λ (a : ℕ). a ∷ []) (k z)

    event_flagged : (t : List ℕ) → (next part pins bits first xs (event t)).number ≡ 0
        → Exactly (next part pins bits first xs (event t)).flag (Warned start (history_of start first (events_steps start first xs ++ (t ∷ []))))
    event_flagged t =
        let l = steps_leave xs start first in
        rw (l.0, l.1) at (flag_said part pins bits first (events_steps start first xs) t)

    -- the pin events of a selection that is accepted
    back_said : (wp : Bool) (input output : List ℕ) → (select_of wp s input output m).number ≡ 0
        → backs_in (length input) (pin_answers wp s m input) ≡ said_back part pins bits first xs wp input
    back_said wp input output z =
        let l = steps_leave xs start first in
        let k = rw (l.0, l.1) at (all_said (pin_events wp input) (events_steps start first xs)) in
        ap (backs_in (length input)) (k (as_events wp s input output m z).accepted)

    pub steps_answers : StepsAnswers part pins bits first xs
    steps_answers =
        record {
          by_event_lem = event_said;
          flagged = event_flagged;
          by_select_lem = λ wp input output z. (as_events wp s input output m z).buffer ∙ ap bytes_of (back_said wp input output z);
          first_driven_lem = λ wp input output z. (as_events wp s input output m z).first ∙ ap first_driven (back_said wp input output z);
          driven_count_lem = λ wp input output z. (as_events wp s input output m z).count ∙ ap driven_count (back_said wp input output z);
        }
