-- A list of events on a state and a memory, one after the other, each by the definition of a single event. An event may be any
-- bytes, also such as are no event, and one that is refused does not end the list.
use Rattle.std.specs.Prelude.{ℕ, Bool, List, [], ◌∷◌}
use Rattle.chip.specs.declared.model.Model.{Model}
use Rattle.events.specs.Event.{Outcome}
use Rattle.runs.specs.Event.{event_of}

-- what an event shows: its number, its answer, its flag, and the memory after it
pub record Observed : Type 0 where
  pub number : ℕ
  pub answer : ℕ
  pub flag : Bool
  pub memory : List ℕ

abbrev pub observed : Outcome → Observed
observed o = record { number = o.result.number; answer = o.result.answer; flag = o.result.flag; memory = o.memory }

-- what each event of a list shows, the first first
abbrev pub observations : Model → List ℕ → List (List ℕ) → List Observed
observations s m [] = []
observations s m (t ∷ es) = observed (event_of s m t) ∷ observations (event_of s m t).result.model (event_of s m t).memory es

-- the state after a list
abbrev pub model_after : Model → List ℕ → List (List ℕ) → Model
model_after s m [] = s
model_after s m (t ∷ es) = model_after (event_of s m t).result.model (event_of s m t).memory es

-- the memory after a list
abbrev pub memory_after : Model → List ℕ → List (List ℕ) → List ℕ
memory_after s m [] = m
memory_after s m (t ∷ es) = memory_after (event_of s m t).result.model (event_of s m t).memory es
