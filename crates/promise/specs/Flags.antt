-- What is promised of the warning flag (document 02, ask 2), in one claim beside the answers: for any numbers of a making, any first memory
-- and any list of events, an accepted event is flagged exactly where the wires say that WP moves and has to be held still. A run points at
-- the first such event.
use Rattle.std.specs.Prelude.{ℕ, ◌+◌, ◌≡◌, false, cond, List, [], ◌∷◌, ◌++◌, take}
use Rattle.parts.specs.Table.{is_spi, part_of}
use Rattle.chip.specs.declared.model.Model.{Model}
use Rattle.runs.specs.Run.{run_of}
use Rattle.ledger.specs.History.{Entry}
use Rattle.ledger.specs.Flags.{SpiWarned, I2cWarned, Exactly}
use Rattle.promise.specs.Lists.{model_after, memory_after}
use Rattle.promise.specs.Promise.{made_by, history_of}
use Rattle.promise.specs.SpiAnswers.{observed_after}
use Rattle.promise.specs.RunEvents.{split}
use Rattle.promise.specs.FirstAt.{FirstAt}

-- what a history says of its last event: by the two last samples, and on I2C by the open span
abbrev pub Warned : Model → List Entry → Type 0
Warned made h = cond (is_spi (part_of made.part).bus) (SpiWarned h) (I2cWarned h)

module _ (part pins bits : ℕ) (first : List ℕ) (es : List (List ℕ)) where
  abbrev model : Model
  model = made_by part pins bits

  -- after any list es, one event more, any bytes
  pub record EventFlagged (t : List ℕ) : Type 0 where
    -- if it is accepted (number 0)
    pub accepted : (observed_after model first es t).number ≡ 0
        → Exactly (observed_after model first es t).flag (Warned model (history_of model first (es ++ (t ∷ []))))
    -- a refused one is not flagged
    pub refused : ((observed_after model first es t).number ≡ 0 → ⊥) → (observed_after model first es t).flag ≡ false

  -- or a run of any trace: what the wires say of event number i of it, counted from 0
  abbrev pub WarnedAt : ℕ → List ℕ → ℕ → Type 0
  WarnedAt quota t i = Warned model (history_of model first (es ++ take (i + 1) (split quota t)))

pub record FlagsPromise (part pins bits : ℕ) (first : List ℕ) (es : List (List ℕ)) (quota : ℕ) (t : List ℕ) : Type 0 where
  pub event : EventFlagged part pins bits first es t
  pub run : FirstAt (WarnedAt part pins bits first es quota t) t
      (run_of quota t (model_after (made_by part pins bits) first es) (memory_after (made_by part pins bits) first es))
