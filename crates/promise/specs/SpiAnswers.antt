-- What is promised of answers: for any numbers of a making, any first memory and any list of events, the answer of each accepted event
-- is what document 01's sentences say of the accepted events up to and including it. They name no phase and no state.
use Rattle.std.specs.Prelude.{ℕ, ◌≡◌, true, List, [], ◌∷◌, ◌++◌}
use Rattle.parts.specs.Table.{is_spi, part_of}
use Rattle.chip.specs.declared.model.Model.{Model}
use Rattle.runs.specs.Event.{event_of}
use Rattle.ledger.specs.SpiAnswers.{spi_answer}
use Rattle.promise.specs.Lists.{Observed, observed, model_after, memory_after}
use Rattle.promise.specs.Ledger.{saved_in}
use Rattle.promise.specs.Promise.{made_by, history_of}

-- what an event of the bytes t shows after the list es
abbrev pub observed_after : Model → List ℕ → List (List ℕ) → List ℕ → Observed
observed_after made first es t = observed (event_of (model_after made first es) (memory_after made first es) t)

module _ (part pins bits : ℕ) (first : List ℕ) where
  abbrev model : Model
  model = made_by part pins bits

  -- of an SPI part: after any list es, an event t that is accepted (number 0) has the answer that the open selection gives, by the
  -- accepted events of es and t, the bits made and the first memory
  abbrev pub SpiAnswers : Type 0
  SpiAnswers =
      is_spi (part_of model.part).bus ≡ true
      → (es : List (List ℕ)) (t : List ℕ)
      → (observed_after model first es t).number ≡ 0
      → (observed_after model first es t).answer ≡ spi_answer (part_of model.part) (saved_in model.status) first (history_of model first (es ++ (t ∷ [])))
