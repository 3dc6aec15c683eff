-- Selections as bytes among the events of a list: what the steps show and leave, and demand 3 of such a list. A step that is refused
-- does not end the list.
use Rattle.std.specs.Prelude.{ℕ, ◌≡◌, Bool, false, cond, List, [], ◌∷◌, ◌++◌, eqb}
use Rattle.chip.specs.declared.model.Model.{Model}
use Rattle.events.specs.Event.{Outcome}
use Rattle.byte_path.specs.Select.{Select, select_of}
use Rattle.runs.specs.Event.{event_of}
use Rattle.promise.specs.Lists.{model_after, memory_after}
use Rattle.promise.specs.Promise.{made_by, cut_model, cut_memory, fresh_made, Promise}
use Rattle.promise.specs.Selects.{pin_events}

-- an event of any bytes, or a selection as bytes: its WP#, its bytes, and the buffer that is lent
pub data Step : Type 0 where
  event : List ℕ → Step
  select : Bool → List ℕ → List ℕ → Step

-- what a host sees of a step: number, the event's answer or the buffer, of an event its flag, of a selection both figures, and the memory
pub record Shown : Type 0 where
  pub number : ℕ
  pub back : List ℕ
  pub flag : Bool
  pub first : ℕ
  pub count : ℕ
  pub memory : List ℕ

-- what a step leaves
pub record Stepped : Type 0 where
  pub model : Model
  pub shown : Shown

abbrev pub by_event : Outcome → Stepped
by_event o =
    record {
      model = o.result.model;
      shown = record { number = o.result.number; back = o.result.answer ∷ []; flag = o.result.flag; first = 0; count = 0; memory = o.memory };
    }

abbrev pub by_select : Select → Stepped
by_select r =
    record {
      model = r.model;
      shown = record { number = r.number; back = r.output; flag = false; first = r.first; count = r.count; memory = r.memory };
    }

-- one step, by its own definition
abbrev pub stepped : Model → List ℕ → Step → Stepped
stepped s m (event t) = by_event (event_of s m t)
stepped s m (select wp input output) = by_select (select_of wp s input output m)

-- the events that it counts as: an event as itself, a selection that is accepted as its pin events, one that is refused as none
abbrev pub step_events : Model → List ℕ → Step → List (List ℕ)
step_events s m (event t) = t ∷ []
step_events s m (select wp input output) = cond (eqb (select_of wp s input output m).number 0) (pin_events wp input) []

-- ---- steps one after the other

abbrev pub model_steps : Model → List ℕ → List Step → Model
model_steps s m [] = s
model_steps s m (x ∷ xs) = model_steps (stepped s m x).model (stepped s m x).shown.memory xs

abbrev pub memory_steps : Model → List ℕ → List Step → List ℕ
memory_steps s m [] = m
memory_steps s m (x ∷ xs) = memory_steps (stepped s m x).model (stepped s m x).shown.memory xs

abbrev pub shown_steps : Model → List ℕ → List Step → List Shown
shown_steps s m [] = []
shown_steps s m (x ∷ xs) = (stepped s m x).shown ∷ shown_steps (stepped s m x).model (stepped s m x).shown.memory xs

abbrev pub events_steps : Model → List ℕ → List Step → List (List ℕ)
events_steps s m [] = []
events_steps s m (x ∷ xs) = step_events s m x ++ events_steps (stepped s m x).model (stepped s m x).shown.memory xs

-- ---- demand 3 of steps from a making, cut after any of them

module _ (part pins bits : ℕ) (first : List ℕ) (xs : List Step) where
  abbrev start : Model
  start = made_by part pins bits

  abbrev es : List (List ℕ)
  es = events_steps start first xs

  pub record StepsPromise : Type 0 where
    -- the steps are the events that they count as
    pub model : model_after start first es ≡ model_steps start first xs
    pub memory : memory_after start first es ≡ memory_steps start first xs
    -- of which demand 3 holds
    pub promise : Promise part pins bits first es
    -- and after the cut every later list of steps shows the same as on a model made anew
    pub later : (ks : List Step)
        → shown_steps (cut_model part pins bits first es) (cut_memory part pins bits first es) ks
        ≡ shown_steps (fresh_made part pins bits first es).model (cut_memory part pins bits first es) ks
