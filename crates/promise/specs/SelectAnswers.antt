-- What is promised of the answers and flags where selections as bytes stand among the events: each accepted event answers what the history
-- up to and including it says and is flagged where it says so, and each accepted selection brings back the bytes that the history says of
-- its pin events.
use Rattle.std.specs.Prelude.{ℕ, ◌≡◌, Bool, List, [], ◌∷◌, ◌++◌, length}
use Rattle.chip.specs.declared.model.Model.{Model}
use Rattle.byte_path.specs.PinPath.{Back, bytes_of, first_driven, driven_count}
use Rattle.promise.specs.Promise.{made_by, history_of}
use Rattle.ledger.specs.Flags.{Exactly}
use Rattle.promise.specs.Answers.{ledger_answer}
use Rattle.promise.specs.Flags.{Warned}
use Rattle.promise.specs.Selects.{pin_events, backs_in}
use Rattle.promise.specs.SelectSteps.{Step, Shown, event, select, stepped, model_steps, memory_steps, events_steps}

-- what the history says of the answer of each event of a list, where the events es come before it
abbrev pub said_of : Model → List ℕ → List (List ℕ) → List (List ℕ) → List ℕ
said_of made first es [] = []
said_of made first es (t ∷ ts) = ledger_answer made first (history_of made first (es ++ (t ∷ []))) ∷ said_of made first (es ++ (t ∷ [])) ts

-- after any steps from a making
module _ (part pins bits : ℕ) (first : List ℕ) (xs : List Step) where
  abbrev start : Model
  start = made_by part pins bits

  -- the events that they count as
  abbrev es : List (List ℕ)
  es = events_steps start first xs

  -- what one step more shows
  abbrev pub next : Step → Shown
  next x = (stepped (model_steps start first xs) (memory_steps start first xs) x).shown

  -- the bytes that the history gives a selection: bit by bit, most significant first, the answer said of the pin event just before the
  -- rise of SCK, and 1 where nothing is driven
  abbrev pub said_back : Bool → List ℕ → List Back
  said_back wp input = backs_in (length input) (said_of start first es (pin_events wp input))

  pub record StepsAnswers : Type 0 where
    -- an event of any bytes, if it is accepted (number 0)
    pub by_event_lem : (t : List ℕ) → (next (event t)).number ≡ 0 → (next (event t)).back ≡ ledger_answer start first (history_of start first (es ++ (t ∷ []))) ∷ []
    -- and is flagged exactly where the wires say so
    pub flagged : (t : List ℕ) → (next (event t)).number ≡ 0
        → Exactly (next (event t)).flag (Warned start (history_of start first (es ++ (t ∷ []))))
    -- a selection, if it is accepted: the buffer, and both figures
    pub by_select_lem : (wp : Bool) (input output : List ℕ) → (next (select wp input output)).number ≡ 0
        → (next (select wp input output)).back ≡ bytes_of (said_back wp input)
    pub first_driven_lem : (wp : Bool) (input output : List ℕ) → (next (select wp input output)).number ≡ 0
        → (next (select wp input output)).first ≡ first_driven (said_back wp input)
    pub driven_count_lem : (wp : Bool) (input output : List ℕ) → (next (select wp input output)).number ≡ 0
        → (next (select wp input output)).count ≡ driven_count (said_back wp input)
