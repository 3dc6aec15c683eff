-- What is promised of the answers of all five parts, in one claim beside demand 3: for any numbers of a making, any first memory and any
-- list of events, each accepted event answers what document 01's sentences say of the selections or spans up to and including it.
use Rattle.std.specs.Prelude.{ℕ, ◌≡◌, cond, List, [], ◌∷◌, ◌++◌}
use Rattle.parts.specs.Table.{is_spi, part_of}
use Rattle.chip.specs.declared.model.Model.{Model}
use Rattle.ledger.specs.History.{Entry}
use Rattle.ledger.specs.SpiAnswers.{spi_answer}
use Rattle.ledger.specs.I2cAnswers.{i2c_answer}
use Rattle.promise.specs.Ledger.{saved_in}
use Rattle.promise.specs.Promise.{made_by, history_of}
use Rattle.promise.specs.SpiAnswers.{observed_after}

-- what a history says of its last event's answer: by the open selection on SPI, by the open span on I2C
abbrev pub ledger_answer : Model → List ℕ → List Entry → ℕ
ledger_answer made first h =
    cond (is_spi (part_of made.part).bus)
    (spi_answer (part_of made.part) (saved_in made.status) first h)
    (i2c_answer (part_of made.part) made.pins first h)

module _ (part pins bits : ℕ) (first : List ℕ) where
  abbrev model : Model
  model = made_by part pins bits

  -- after any list es, an event t of any bytes, if it is accepted (number 0)
  abbrev pub Answers : Type 0
  Answers =
      (es : List (List ℕ)) (t : List ℕ)
      → (observed_after model first es t).number ≡ 0
      → (observed_after model first es t).answer ≡ ledger_answer model first (history_of model first (es ++ (t ∷ [])))
