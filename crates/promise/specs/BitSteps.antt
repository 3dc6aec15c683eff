-- The saved bits before and after one event: as before, written by a status write with its enable, or lost with the power.
use Rattle.std.specs.Prelude.{ℕ, ◌≡◌, Bool, true, false, List, [], ◌∷◌, ◌++◌}
use Rattle.parts.specs.declared.part.Part.{Part}
use Rattle.parts.specs.Table.{part_of}
use Rattle.selection.specs.declared.opcode.Command.TheVariants.{WRSR}
use Rattle.chip.specs.declared.model.Model.{Model}
use Rattle.ledger.specs.Bits as Bits
use Rattle.ledger.specs.SpiLedger.{ended, Item, power_off, selection, items, command, reading, without_ignored, enabled, SavedBits, zero_bits, bits_in}
use Rattle.promise.specs.Lists.{model_after}
use Rattle.promise.specs.Ledger.{saved_in, ledger_bits}
use Rattle.promise.specs.Promise.{made_by, history_of}

-- the bits before (b) and after (b') an event, with the items after it (is)
pub data BitsOldOrNew (p : Part) (is : List Item) (b b' : SavedBits) : Type 0 where
  old : b' ≡ b → BitsOldOrNew p is b b'
  written : (bs : List Bool) (wp : Bool) (before : List Item) (rest : List Bool) (v : ℕ) (vs : List ℕ)
      → is ≡ selection bs (ended wp) ∷ before → reading p bs ≡ command WRSR rest → Bits.bytes rest ≡ v ∷ vs → enabled p (without_ignored p before) ≡ true
      → b' ≡ bits_in v → BitsOldOrNew p is b b'
  zeroed : (before : List Item) → is ≡ power_off ∷ before → p.saved ≡ false → b' ≡ zero_bits → BitsOldOrNew p is b b'

-- for every making, first memory and list of events, and one event more: the ledger's bits, and those that the model holds
module _ (part pins bits : ℕ) (first : List ℕ) where
  abbrev made : Model
  made = made_by part pins bits

  abbrev pub LedgerBits : Type 0
  LedgerBits =
      (es : List (List ℕ)) (t : List ℕ)
      → BitsOldOrNew (part_of made.part) (items (history_of made first (es ++ (t ∷ [])))) (ledger_bits made (history_of made first es))
      (ledger_bits made (history_of made first (es ++ (t ∷ []))))

  abbrev pub ModelBits : Type 0
  ModelBits =
      (es : List (List ℕ)) (t : List ℕ)
      → BitsOldOrNew (part_of made.part) (items (history_of made first (es ++ (t ∷ [])))) (saved_in (model_after made first es).status)
      (saved_in (model_after made first (es ++ (t ∷ []))).status)
