-- Block protection over the wires, by the fractions that the sheets name: what no event changes, and where a WRITE stores its byte.
use Rattle.std.specs.Prelude.{ℕ, ◌≡◌, Bool, true, false, cond, List, [], ◌∷◌, ◌++◌, get_or, set}
use Rattle.parts.specs.declared.part.Part.{Part}
use Rattle.parts.specs.Blocks.{quarters, in_top}
use Rattle.parts.specs.Table.{is_spi, part_of}
use Rattle.selection.specs.declared.opcode.Command.TheVariants.{WRITE}
use Rattle.chip.specs.declared.model.Model.{Model}
use Rattle.ledger.specs.SpiLedger.{End, Item, items, selection, command, reading, data_bytes, data_address, asleep, without_ignored, enabled, SavedBits}
use Rattle.promise.specs.Lists.{memory_after}
use Rattle.promise.specs.Ledger.{ledger_bits}
use Rattle.promise.specs.Promise.{made_by, history_of}

-- said of every making, every first memory and every list of events
module _ (part pins bits : ℕ) (first : List ℕ) where
  abbrev made : Model
  made = made_by part pins bits

  abbrev row : Part
  row = part_of made.part

  abbrev memory : List (List ℕ) → List ℕ
  memory es = memory_after made first es

  abbrev items_in : List (List ℕ) → List Item
  items_in es = items (history_of made first es)

  -- SRWD, BP1 and BP0 of the ledger after a list
  abbrev pub saved_after : List (List ℕ) → SavedBits
  saved_after es = ledger_bits made (history_of made first es)

  -- an address lies in the quarters of the memory that they protect
  abbrev pub protected : List (List ℕ) → ℕ → Bool
  protected es a = in_top (quarters (saved_after es).bp1 (saved_after es).bp0) row.size a

  -- one event more, whatever it is, leaves each byte of the protected quarters as it was
  abbrev pub ProtectedStays : Type 0
  ProtectedStays =
      is_spi row.bus ≡ true
      → (es : List (List ℕ)) (t : List ℕ) (a : ℕ)
      → protected es a ≡ true
      → get_or (memory (es ++ (t ∷ []))) a 0 ≡ get_or (memory es) a 0

  -- after a list that leaves the enable on, further events that add one selection, which is not ignored and is a WRITE of one whole
  -- data byte: the byte is stored exactly if its address lies outside the protected quarters, and nothing else is
  abbrev pub StoredUnlessProtected : Type 0
  StoredUnlessProtected =
      is_spi row.bus ≡ true
      → (es ks : List (List ℕ)) (bs : List Bool) (e : End) (rest : List Bool) (v : ℕ)
      → items_in (es ++ ks) ≡ selection bs e ∷ items_in es
      → asleep row (items_in es) ≡ false
      → enabled row (without_ignored row (items_in es)) ≡ true
      → reading row bs ≡ command WRITE rest
      → data_bytes row e rest ≡ v ∷ []
      → memory (es ++ ks) ≡ cond (protected es (data_address row rest)) (memory es) (set (memory es) (data_address row rest) v)
