-- One event from the front of any bytes, on any state and memory: numbers 1 to 3 of state and memory, 4, 5, 6, 10 and 11 of the bytes,
-- then the event itself, which gives 7 to 9.
use Rattle.std.specs.Prelude.{ℕ, List, length}
use Rattle.parts.specs.Table.{part_of}
use Rattle.trace.specs.Read.{read_of, Read, Whole, Refused}
use Rattle.chip.specs.declared.model.Model.{Model}
use Rattle.chip.specs.Check.{check_of, Verdict, Passed, Failed}
use Rattle.events.specs.Event.{Outcome, keeping, refused, advance_of}

abbrev pub on_read : Read → Model → List ℕ → Outcome
on_read (Whole e n) s m = advance_of s m e
on_read (Refused r place) s m = keeping m (refused r s)

-- of a state and a memory that passed
abbrev pub checked_event : Model → List ℕ → List ℕ → Outcome
checked_event s m t = on_read (read_of (part_of s.part) t) s m

abbrev pub event_on_verdict : Verdict → Model → List ℕ → List ℕ → Outcome
event_on_verdict Passed s m t = checked_event s m t
event_on_verdict (Failed r) s m t = keeping m (refused r s)

unfoldable pub event_of : Model → List ℕ → List ℕ → Outcome
event_of s m t = event_on_verdict (check_of s (length m)) s m t
