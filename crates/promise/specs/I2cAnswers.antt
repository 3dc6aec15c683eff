-- What an I2C part answers: each accepted event of every list on a model just made answers what the history says of the open span.
use Rattle.std.specs.Prelude.{ℕ, ◌+◌, ◌%◌, ◌<◌, ◌≡◌, Bool, false, not, List, [], ◌∷◌, ◌++◌, length, get_or}
use Rattle.parts.specs.declared.part.Part.{Part}
use Rattle.parts.specs.Table.{is_spi, part_of}
use Rattle.serial.specs.Bits.{bit_at}
use Rattle.trace.specs.declared.event.Event.{Event}
use Rattle.transfer.specs.declared.word.DeviceWord.TheVariants.{ReadWord}
use Rattle.transfer.specs.Buffer.{read_address}
use Rattle.chip.specs.declared.model.Model.{Model}
use Rattle.events.specs.Event.{Outcome}
use Rattle.runs.specs.Event.{event_of}
use Rattle.ledger.specs.History.{Entry}
use Rattle.ledger.specs.Word.{word_in}
use Rattle.ledger.specs.I2cLedger.{Clock, Byte, bytes, unfinished}
use Rattle.ledger.specs.I2cAnswers.{AllAcknowledged, after_rises, buffer_before, i2c_answer, last_fall, memory_now, present_answer, pulls, pull_answer}
use Rattle.promise.specs.Lists.{model_after, memory_after}
use Rattle.promise.specs.Promise.{made_by, history_of}

-- every entry of a history has the answer that the history up to it says
abbrev pub AllAnswered : Part → ℕ → List ℕ → List Entry → Type 0
AllAnswered p pins first [] = Unit {0}
AllAnswered p pins first (e ∷ h) = (e.answer ≡ i2c_answer p pins first (e ∷ h)) × AllAnswered p pins first h

-- any numbers of a making, any first memory, any list of events
module _ (part pins bits : ℕ) (first : List ℕ) (es : List (List ℕ)) where
  abbrev pub made : Model
  made = made_by part pins bits

  abbrev pub row : Part
  row = part_of made.part

  -- one event more, any bytes
  abbrev pub next : List ℕ → Outcome
  next t = event_of (model_after made first es) (memory_after made first es) t

  pub record I2cAnswers : Type 0 where
    -- all accepted events of the list
    pub answered : AllAnswered row made.pins first (history_of made first es)
    -- one event more, if it is accepted
    pub next_answer : (t : List ℕ) → (next t).result.number ≡ 0
        → (next t).result.answer ≡ i2c_answer row made.pins first (history_of made first (es ++ (t ∷ [])))
    -- the present answer, which is that of the last accepted event: 0 exactly while the part pulls, else 2
    pub present : present_answer (history_of made first es) ≡ pull_answer (pulls row made.pins first (history_of made first es))
    -- I2C never answers 1, accepted or refused
    pub never_one : (t : List ℕ) → (next t).result.answer ≡ 1 → ⊥

-- ---- in plain words

-- the events of a history, without their answers
abbrev pub events_of : List Entry → List Event
events_of [] = []
events_of (e ∷ h) = e.event ∷ events_of h

-- histories of the same events that both obey the sentences are the same
abbrev pub Determined : Part → ℕ → List ℕ → Type 0
Determined p pins first =
    (h k : List Entry) → AllAnswered p pins first h → AllAnswered p pins first k → events_of h ≡ events_of k → h ≡ k

module _ (part pins bits : ℕ) (first : List ℕ) (es : List (List ℕ)) where
  abbrev pub history : List Entry
  history = history_of (made_by part pins bits) first es

  -- where the open span began to read, its word having A16 so
  abbrev pub read_from : Bool → ℕ
  read_from a16 =
      read_address (part_of (made_by part pins bits).part)
      (buffer_before (part_of (made_by part pins bits).part) (made_by part pins bits).pins history) a16

  -- SCL last fell after rises that make an own read word, then whole bytes vs that the master acknowledged, then k rises, k below 8: the
  -- answer is 0 exactly if bit 7 - k of the ledger's byte at the read address plus the number of vs, modulo the size, is 0; else 2
  abbrev pub ReadSends : Type 0
  ReadSends =
      is_spi (part_of (made_by part pins bits).part).bus ≡ false
      → (ks : List Clock) (word : Byte) (vs : List Byte) (a16 : Bool)
      → last_fall history ≡ after_rises ks
      → bytes ks ≡ word ∷ vs
      → word_in (part_of (made_by part pins bits).part) (made_by part pins bits).pins word.bits ≡ ReadWord a16
      → AllAcknowledged vs
      → length (unfinished ks) < 8
      → present_answer history
      ≡ pull_answer
      (not
      (bit_at
      (get_or (memory_now (part_of (made_by part pins bits).part) (made_by part pins bits).pins first history)
      ((read_from a16 + length vs) % (part_of (made_by part pins bits).part).size) 0)
      (length (unfinished ks))))
