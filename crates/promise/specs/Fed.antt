-- The history of a list: its accepted events in their order, each beside its answer. They come from the bytes of the list and from
-- the numbers and answers seen, not from states.
use Rattle.std.specs.Prelude.{ℕ, cond, List, [], ◌∷◌, eqb}
use Rattle.parts.specs.declared.part.Part.{Part}
use Rattle.trace.specs.Read.{read_of, Read, Whole, Refused}
use Rattle.ledger.specs.History.{Entry}
use Rattle.promise.specs.Lists.{Observed}

-- a history with one event more, if the bytes hold one; the latest first
abbrev pub with_event : Read → ℕ → List Entry → List Entry
with_event (Whole e n) answer h = record { event = e; answer = answer } ∷ h
with_event (Refused r place) answer h = h

-- the history after an event of these bytes that showed x: an accepted event is entered with its answer, a refused one is not
abbrev pub fed_one : Part → List ℕ → Observed → List Entry → List Entry
fed_one p t x h = cond (eqb x.number 0) (with_event (read_of p t) x.answer h) h

-- the history after a list and what its events showed, from a history on
abbrev pub fed_from : Part → List (List ℕ) → List Observed → List Entry → List Entry
fed_from p [] xs h = h
fed_from p (t ∷ es) [] h = h
fed_from p (t ∷ es) (x ∷ xs) h = fed_from p es xs (fed_one p t x h)

-- the history of a list, the latest first
abbrev pub fed : Part → List (List ℕ) → List Observed → List Entry
fed p es xs = fed_from p es xs []
