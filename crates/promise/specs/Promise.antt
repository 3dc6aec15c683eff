-- Demand 3: what is promised of memory and saved bits after any list of events and then a cut, as one claim over the list.
use Rattle.std.specs.Prelude.{ℕ, ◌<◌, ◌≡◌, List, [], ◌∷◌, ◌++◌, length, get_or}
use Rattle.parts.specs.Table.{part_of}
use Rattle.chip.specs.declared.model.Model.{Model}
use Rattle.model.specs.Made.{Made}
use Rattle.model.specs.Make.{make_of}
use Rattle.ledger.specs.History.{Entry}
use Rattle.ledger.specs.Stores.{last_at}
use Rattle.ledger.specs.SpiLedger.{SavedBits}
use Rattle.promise.specs.Lists.{observations, model_after, memory_after}
use Rattle.promise.specs.Fed.{fed}
use Rattle.promise.specs.Ledger.{saved_in, bits_number, ledger_stores, ledger_bits}

-- the model that the list begins on: the one that a making gives, refused or not
abbrev pub made_by : ℕ → ℕ → ℕ → Model
made_by part pins bits = (make_of part pins bits).model

-- a cut is a power off, at any place of a list. Without power it is refused, changes nothing and leaves no entry in the history
abbrev pub cut : List ℕ
cut = 3 ∷ []

abbrev pub then_cut : List (List ℕ) → List (List ℕ)
then_cut es = es ++ (cut ∷ [])

-- the accepted events of a list on a model just made, with their answers
abbrev pub history_of : Model → List ℕ → List (List ℕ) → List Entry
history_of made first es = fed (part_of made.part) es (observations made first es)

-- any numbers of a making, any first memory, any list of events, then a cut
module _ (part pins bits : ℕ) (first : List ℕ) (es : List (List ℕ)) where
  abbrev pub made : Model
  made = made_by part pins bits

  -- state and memory after the cut
  abbrev pub cut_model : Model
  cut_model = model_after made first (then_cut es)

  abbrev pub cut_memory : List ℕ
  cut_memory = memory_after made first (then_cut es)

  -- the history has the cut too: a power off ends what is open, and zeroes the bits of a part that does not save them
  abbrev pub cut_history : List Entry
  cut_history = history_of made first (then_cut es)

  -- its bits then
  abbrev pub cut_bits : SavedBits
  cut_bits = ledger_bits made cut_history

  -- a making with the same part and pins and the ledger's bits
  abbrev pub fresh_made : Made
  fresh_made = make_of made.part made.pins (bits_number cut_bits)

  pub record Promise : Type 0 where
    -- the memory keeps its length
    pub as_long : length cut_memory ≡ length first
    -- each address holds the last byte that a permitted write put there, or else its byte before the first event
    pub holds : (a : ℕ) → a < length first → get_or cut_memory a 0 ≡ last_at a (get_or first a 0) (ledger_stores made cut_history)
    -- the saved bits are the ledger's
    pub saved : saved_in cut_model.status ≡ cut_bits
    -- a making with these bits is accepted
    pub makes : fresh_made.number ≡ 0
    -- the model is exactly the one that it makes
    pub fresh : cut_model ≡ fresh_made.model
    -- the two models, each with its own copy of the memory, show the same numbers, answers, flags and memories over every later list
    pub later : (ks : List (List ℕ)) → observations cut_model cut_memory ks ≡ observations fresh_made.model cut_memory ks
