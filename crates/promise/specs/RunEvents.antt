-- A run by single events: the events that a trace splits into, each with the bytes that its kind fixes, and what a run says of them.
use Rattle.std.specs.Prelude.{ℕ, zero, suc, ◌≡◌, Bool, true, false, cond, List, [], ◌∷◌, ◌++◌, eqb, length, take, drop, get_or, replicate}
use Rattle.trace.specs.Read.{event_length}
use Rattle.chip.specs.declared.model.Model.{Model}
use Rattle.runs.specs.Event.{event_of}
use Rattle.runs.specs.Run.{Run, run_of}
use Rattle.promise.specs.Lists.{Observed, observations, model_after, memory_after}
use Rattle.promise.specs.Promise.{made_by, Promise}
use Rattle.promise.specs.FirstAt.{FirstAt}

-- at most q events of a trace; the last one may be cut short
abbrev pub split : ℕ → List ℕ → List (List ℕ)
split zero t = []
split (suc q) t = cond (eqb (length t) 0) [] (take (event_length (get_or t 0 0)) t ∷ split q (drop (event_length (get_or t 0 0)) t))

abbrev pub numbers_of : List Observed → List ℕ
numbers_of [] = []
numbers_of (x ∷ xs) = x.number ∷ numbers_of xs

abbrev pub answers_of : List Observed → List ℕ
answers_of [] = []
answers_of (x ∷ xs) = x.answer ∷ answers_of xs

abbrev pub flags_of : List Observed → List Bool
flags_of [] = []
flags_of (x ∷ xs) = x.flag ∷ flags_of xs

-- event number i of a list is flagged, counted from 0
abbrev pub FlaggedAt : List (List ℕ) → Model → List ℕ → ℕ → Type 0
FlaggedAt es s m i = get_or (flags_of (observations s m es)) i false ≡ true

-- what the run r of the trace t says of its events es on a state and a memory: it took its count of them
pub record ByEvents (es : List (List ℕ)) (t : List ℕ) (s : Model) (m : List ℕ) (r : Run) : Type 0 where
  -- state and memory are those after them
  pub model : model_after s m (take r.count es) ≡ r.model
  pub memory : memory_after s m (take r.count es) ≡ r.memory
  -- each was accepted, with these answers
  pub accepted : numbers_of (observations s m (take r.count es)) ≡ replicate r.count 0
  pub answers : answers_of (observations s m (take r.count es)) ≡ r.answers
  -- it points at the first of them that is flagged
  pub flag : FirstAt (FlaggedAt es s m) t r
  -- it stopped at an event that is refused with its number, or it took them all
  pub refused : (r.number ≡ 0 → ⊥) → (event_of r.model r.memory (get_or es r.count [])).result.number ≡ r.number
  pub whole : r.number ≡ 0 → r.count ≡ length es

-- ---- one run after another

-- a run that a host asks for
pub record Call : Type 0 where
  pub quota : ℕ
  pub trace : List ℕ

abbrev pub ran_by : Call → Model → List ℕ → Run
ran_by c s m = run_of c.quota c.trace s m

-- state and memory after runs
abbrev pub model_run : Model → List ℕ → List Call → Model
model_run s m [] = s
model_run s m (c ∷ cs) = model_run (ran_by c s m).model (ran_by c s m).memory cs

abbrev pub memory_run : Model → List ℕ → List Call → List ℕ
memory_run s m [] = m
memory_run s m (c ∷ cs) = memory_run (ran_by c s m).model (ran_by c s m).memory cs

-- the events that they accepted, by their counts
abbrev pub events_run : Model → List ℕ → List Call → List (List ℕ)
events_run s m [] = []
events_run s m (c ∷ cs) = take (ran_by c s m).count (split c.quota c.trace) ++ events_run (ran_by c s m).model (ran_by c s m).memory cs

-- demand 3 of runs from a making, cut after any of them
pub record RunsPromise (part pins bits : ℕ) (first : List ℕ) (cs : List Call) : Type 0 where
  -- the runs are the events that they accepted
  pub model : model_after (made_by part pins bits) first (events_run (made_by part pins bits) first cs) ≡ model_run (made_by part pins bits) first cs
  pub memory : memory_after (made_by part pins bits) first (events_run (made_by part pins bits) first cs) ≡ memory_run (made_by part pins bits) first cs
  -- of which demand 3 holds
  pub promise : Promise part pins bits first (events_run (made_by part pins bits) first cs)
