-- What follows from demand 3, in plain words: without the enable nothing is stored, one enable serves one WRITE, a byte is the old or
-- the new one at every moment, a cut changes no byte, and on a part that stores late it leaves the old one where one waits.
use Rattle.std.specs.Prelude.{ℕ, ◌+◌, ◌*◌, ◌<◌, ◌≤◌, ◌≡◌, Bool, true, false, List, [], ◌∷◌, ◌++◌, length, set}
use Rattle.parts.specs.declared.part.Part.{Part}
use Rattle.parts.specs.Table.{is_spi, part_of}
use Rattle.selection.specs.declared.opcode.Command.{Command}
use Rattle.selection.specs.declared.opcode.Command.TheVariants.{WREN, WRDI, RDSR, WRSR, READ, WRITE, FSTRD, RDID, SLEEP, Unknown}
use Rattle.chip.specs.declared.model.BusState.TheVariants.{Unpowered}
use Rattle.chip.specs.declared.model.Model.{Model}
use Rattle.ledger.specs.Stores.{Store}
use Rattle.ledger.specs.SpiLedger.{End, unended, ended, Item, power_on, power_off, selection, items, Reading, partial, command, reading, data_bytes, asleep, without_ignored, enabled}
use Rattle.promise.specs.Lists.{model_after, memory_after}
use Rattle.promise.specs.Ledger.{ledger_stores}
use Rattle.promise.specs.Promise.{made_by, then_cut, history_of}

abbrev pub wren_command : Command → Bool
wren_command WREN = true
wren_command WRDI = false
wren_command RDSR = false
wren_command WRSR = false
wren_command READ = false
wren_command WRITE = false
wren_command FSTRD = false
wren_command RDID = false
wren_command SLEEP = false
wren_command Unknown = false

-- the bits of a selection begin with WREN
abbrev pub is_wren : Reading → Bool
is_wren partial = false
is_wren (command k rest) = wren_command k

-- none of the selections is a WREN
abbrev pub NoWren : Part → List Item → Type 0
NoWren p [] = Unit {0}
NoWren p (power_on ∷ is) = NoWren p is
NoWren p (power_off ∷ is) = NoWren p is
NoWren p (selection bs e ∷ is) = (is_wren (reading p bs) ≡ false) × NoWren p is

-- memory and permitted writes before and after an event: both as before, or both with the same byte more, at an address of the memory
pub data OldOrNew (m m' : List ℕ) (ws ws' : List Store) : Type 0 where
  old : m' ≡ m → ws' ≡ ws → OldOrNew m m' ws ws'
  new : (w : Store) → w.address < length m → w.value < 256 → m' ≡ set m w.address w.value → ws' ≡ ws ++ (w ∷ []) → OldOrNew m m' ws ws'

-- ---- what is said of every making, every first memory and every list of events

module _ (part pins bits : ℕ) (first : List ℕ) where
  abbrev pub model : Model
  model = made_by part pins bits

  abbrev pub row : Part
  row = part_of model.part

  -- memory, permitted writes, and on SPI the selections, after a list of events on a model just made
  abbrev pub memory_after_list : List (List ℕ) → List ℕ
  memory_after_list es = memory_after model first es

  abbrev pub writes_of : List (List ℕ) → List Store
  writes_of es = ledger_stores model (history_of model first es)

  abbrev pub items_of : List (List ℕ) → List Item
  items_of es = items (history_of model first es)

  -- after a list that leaves the enable off, further events that add one selection, whatever its bits, leave the memory as it was
  abbrev pub NoEnableNoStore : Type 0
  NoEnableNoStore =
      is_spi row.bus ≡ true
      → (es ks : List (List ℕ)) (bs : List Bool) (e : End)
      → enabled row (without_ignored row (items_of es)) ≡ false
      → items_of (es ++ ks) ≡ selection bs e ∷ items_of es
      → memory_after_list (es ++ ks) ≡ memory_after_list es

  -- and so do any number of selections, power offs and power ons, as long as none is a WREN
  abbrev pub NoWrenNoStore : Type 0
  NoWrenNoStore =
      is_spi row.bus ≡ true
      → (es ks : List (List ℕ)) (more : List Item)
      → enabled row (without_ignored row (items_of es)) ≡ false
      → items_of (es ++ ks) ≡ more ++ items_of es
      → NoWren row more
      → memory_after_list (es ++ ks) ≡ memory_after_list es

  -- after a list whose last selection was a WRITE with a whole data byte, not ignored and ended, nothing is stored until a WREN: a
  -- second WRITE stores nothing
  abbrev pub OneEnableOneWrite : Type 0
  OneEnableOneWrite =
      is_spi row.bus ≡ true
      → (es ks : List (List ℕ)) (bs : List Bool) (wp : Bool) (is : List Item) (rest : List Bool) (v : ℕ) (vs : List ℕ) (more : List Item)
      → items_of es ≡ selection bs (ended wp) ∷ is
      → asleep row is ≡ false
      → reading row bs ≡ command WRITE rest
      → data_bytes row (ended wp) rest ≡ v ∷ vs
      → items_of (es ++ ks) ≡ more ++ items_of es
      → NoWren row more
      → memory_after_list (es ++ ks) ≡ memory_after_list es

  -- one event more: memory and ledger are as before, or both got one byte at one address, the same
  abbrev pub OneByteAtMost : Type 0
  OneByteAtMost =
      (es : List (List ℕ)) (t : List ℕ)
      → OldOrNew (memory_after_list es) (memory_after_list (es ++ (t ∷ []))) (writes_of es) (writes_of (es ++ (t ∷ [])))

  -- a cut changes no byte
  abbrev pub CutKeepsMemory : Type 0
  CutKeepsMemory = (es : List (List ℕ)) → memory_after_list (then_cut es) ≡ memory_after_list es

  -- and without power it changes nothing: not the state, not the memory, not what the ledger was fed
  abbrev pub CutWithoutPower : Type 0
  CutWithoutPower =
      (es : List (List ℕ))
      → (model_after model first es).bus ≡ Unpowered
      → (model_after model first (then_cut es) ≡ model_after model first es)
      × (memory_after_list (then_cut es) ≡ memory_after_list es)
      × (history_of model first (then_cut es) ≡ history_of model first es)

  -- on a part that stores late: after a list with an open WRITE, of whose data byte number n (from 0) a bit is in, further events bring
  -- its other bits or some of them, up to the eighth, and neither the next counted rise nor CS# rising. A cut then leaves the old byte: the
  -- memory is what it was before those events
  abbrev pub CutLosesWaiting : Type 0
  CutLosesWaiting =
      is_spi row.bus ≡ true
      → row.late ≡ true
      → (es ks : List (List ℕ)) (is : List Item) (bs ds address bits : List Bool) (n : ℕ)
      → items_of es ≡ selection bs unended ∷ is
      → items_of (es ++ ks) ≡ selection (bs ++ ds) unended ∷ is
      → reading row bs ≡ command WRITE (address ++ bits)
      → length address ≡ row.width
      → 8 * n < length bits
      → length (bits ++ ds) ≤ 8 * n + 8
      → memory_after_list (then_cut (es ++ ks)) ≡ memory_after_list es
