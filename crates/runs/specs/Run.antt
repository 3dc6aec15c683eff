-- A run of a trace: events from its front, one after the other, as many as the quota allows, up to its end or to one that is refused.
use Rattle.std.specs.Prelude.{ℕ, zero, suc, ◌+◌, Bool, cond, List, [], ◌∷◌, eqb, length, drop, get_or}
use Rattle.parts.specs.Numbers.{refusal_number}
use Rattle.parts.specs.Table.{part_of}
use Rattle.trace.specs.Read.{event_length, read_of, place_of}
use Rattle.chip.specs.declared.model.Model.{Model}
use Rattle.chip.specs.Check.{check_of, Verdict, Passed, Failed}
use Rattle.events.specs.Flag.{flag_from}
use Rattle.runs.specs.Figures.{Figures}
use Rattle.runs.specs.Event.{event_of}

-- number or 0, state, how many events were accepted, two offsets, memory, and the answers of these events. With 6, 10 and 11 the offset
-- is that of the first byte of the bad field (document 02, ask 1), else how many bytes the accepted events take: there stands the kind
-- byte of the next one, or the trace ends. The flag is the offset of the kind byte of the first accepted event with its flag set, or the
-- length of the trace if there is none (document 02, ask 2)
pub record Run : Type 0 where
  pub number : ℕ
  pub model : Model
  pub count : ℕ
  pub offset : ℕ
  pub flag : ℕ
  pub memory : List ℕ
  pub answers : List ℕ

abbrev pub ran : ℕ → Model → ℕ → ℕ → ℕ → Figures
ran n s c o f = record { number = n; model = s; count = c; offset = o; flag = f }

abbrev pub ran_of : Run → Figures
ran_of r = ran r.number r.model r.count r.offset r.flag

-- a run of the trace t that stops here with a number, and points at a place from here on
abbrev pub stop_at : ℕ → ℕ → List ℕ → Model → List ℕ → Run
stop_at n place t s m = record { number = n; model = s; count = 0; offset = place; flag = length t; memory = m; answers = [] }

-- and one that points here
abbrev pub stop : ℕ → List ℕ → Model → List ℕ → Run
stop n t s m = stop_at n 0 t s m

-- a run after one accepted event with this answer, flagged or not, which took n bytes
abbrev pub after : ℕ → Bool → ℕ → Run → Run
after a f n r =
    record {
      number = r.number;
      model = r.model;
      count = 1 + r.count;
      offset = n + r.offset;
      flag = flag_from f n r.flag;
      memory = r.memory;
      answers = a ∷ r.answers;
    }

-- at most `quota` events from the front of t: event's definition, one after the other. A refusal points where the reader found the fault;
-- state and memory passed 1 to 3, so a refusal that is not the reader's is 7, 8 or 9, of an event that was read whole
unfoldable pub loop_of : ℕ → List ℕ → Model → List ℕ → Run
loop_of zero t s m = stop 0 t s m
loop_of (suc quota) t s m =
    cond (eqb (length t) 0) (stop 0 t s m)
    (cond (eqb (event_of s m t).result.number 0)
    (after (event_of s m t).result.answer (event_of s m t).result.flag (event_length (get_or t 0 0))
    (loop_of quota (drop (event_length (get_or t 0 0)) t) (event_of s m t).result.model (event_of s m t).memory))
    (stop_at (event_of s m t).result.number (place_of (read_of (part_of s.part) t)) t s m))

abbrev pub run_on_verdict : Verdict → ℕ → List ℕ → Model → List ℕ → Run
run_on_verdict Passed quota t s m = loop_of quota t s m
run_on_verdict (Failed r) quota t s m = stop (refusal_number r) t s m

-- state and memory are tested before the trace is looked at, also if it has no bytes or the quota is 0
unfoldable pub run_of : ℕ → List ℕ → Model → List ℕ → Run
run_of quota t s m = run_on_verdict (check_of s (length m)) quota t s m
