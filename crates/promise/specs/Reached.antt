-- The states that a host can be given: by makings, events, runs and selections as bytes, accepted or refused.
use Rattle.std.specs.Prelude.{ℕ, Bool, List}
use Rattle.chip.specs.declared.model.Model.{Model}
use Rattle.byte_path.specs.Select.{select_of}
use Rattle.runs.specs.Event.{event_of}
use Rattle.runs.specs.Run.{run_of}
use Rattle.model.specs.Make.{make_of}

-- by a making with any numbers, then any events, runs and selections, each on any memory
pub data Reached : Model → Type 0 where
  by_making : (part pins bits : ℕ) → Reached (make_of part pins bits).model
  by_event_lem : {s : Model} (m t : List ℕ) → Reached s → Reached (event_of s m t).result.model
  by_run_lem : {s : Model} (quota : ℕ) (t m : List ℕ) → Reached s → Reached (run_of quota t s m).model
  by_select_lem : {s : Model} (wp : Bool) (input output m : List ℕ) → Reached s → Reached (select_of wp s input output m).model
