-- Lists that meet what a WRITE under block protection asks for: part 0 with a memory of zeros gets power, WREN, WRSR with BP 01 and WREN.
-- Then a WRITE of one byte, as document 01's third checked example has its two: at BFFh, the last address below the top quarter, it is
-- stored, and at C00h, the first of it, it is not. Assumes nothing.
use Prim.Native.Nat.{ℕ}
use mathlib.Core.Path.{◌≡◌, refl}
use mathlib.Core.Bool.{Bool, true, false}
use mathlib.Core.List.{List, [], ◌∷◌, ◌++◌}
use lib.ListN.{replicate, set}
use Rattle.trace.specs.Read.{read_of}
use Rattle.selection.specs.Opcode.{command_of}
use Rattle.spi.specs.Sample.{step_of}
use Rattle.chip.specs.Check.{check_of}
use Rattle.events.specs.Event.{advance_of}
use Rattle.runs.specs.Event.{event_of}
use Rattle.model.specs.Make.{make_of}
use Rattle.parts.specs.Status.{protected_start}
use Rattle.parts.specs.Table.{is_spi, part_of}
use Rattle.selection.specs.declared.opcode.Command.TheVariants.{WRITE}
use Rattle.chip.specs.declared.model.Model.{Model}
use Rattle.ledger.specs.SpiLedger.{ended, Item, items, selection, command, reading, data_bytes, data_address, asleep, without_ignored, enabled}
use Rattle.promise.specs.Lists.{memory_after}
use Rattle.promise.specs.Promise.{made_by, history_of}
use Rattle.promise.specs.Blocks.{protected}
use Rattle.promise.specs.SpiBytes.{sample}
use Rattle.promise.proofs.Blocks.{stored_unless_protected}

-- four bits of a number in hexadecimal, as they are sent
abbrev hex0 : List Bool
hex0 = false ∷ false ∷ false ∷ false ∷ []

abbrev hex1 : List Bool
hex1 = false ∷ false ∷ false ∷ true ∷ []

abbrev hex2 : List Bool
hex2 = false ∷ false ∷ true ∷ false ∷ []

abbrev hex4 : List Bool
hex4 = false ∷ true ∷ false ∷ false ∷ []

abbrev hex6 : List Bool
hex6 = false ∷ true ∷ true ∷ false ∷ []

abbrev hex_a : List Bool
hex_a = true ∷ false ∷ true ∷ false ∷ []

abbrev hex_b : List Bool
hex_b = true ∷ false ∷ true ∷ true ∷ []

abbrev hex_c : List Bool
hex_c = true ∷ true ∷ false ∷ false ∷ []

abbrev hex_f : List Bool
hex_f = true ∷ true ∷ true ∷ true ∷ []

-- a bit with its clock, WP# and HOLD# 1
abbrev sent : List Bool → List (List ℕ)
sent [] = []
sent (true ∷ bs) = sample 28 ∷ sample 30 ∷ sent bs
sent (false ∷ bs) = sample 24 ∷ sample 26 ∷ sent bs

-- a selection of these bits, ended
abbrev selected : List Bool → List (List ℕ)
selected bs = sample 24 ∷ (sent bs ++ (sample 24 ∷ sample 25 ∷ []))

-- power on with CS# 1; 06; 01 04; 06
abbrev enabled_with_quarter : List (List ℕ)
enabled_with_quarter =
    (1 ∷ 25 ∷ []) ∷ (selected (hex0 ++ hex6) ++ (selected (hex0 ++ (hex1 ++ (hex0 ++ hex4))) ++ selected (hex0 ++ hex6)))

-- the bits of 02, of an address and of AA
abbrev below : List Bool
below = hex0 ++ (hex_b ++ (hex_f ++ (hex_f ++ (hex_a ++ hex_a))))

abbrev at : List Bool
at = hex0 ++ (hex_c ++ (hex0 ++ (hex0 ++ (hex_a ++ hex_a))))

abbrev write : List Bool → List Bool
write rest = hex0 ++ (hex2 ++ rest)

abbrev zeros : List ℕ
zeros = replicate 4096 0

abbrev model : Model
model = made_by 0 0 0

abbrev items_in : List (List ℕ) → List Item
items_in es = items (history_of model zeros es)

-- what any WRITE after the list meets
spi : is_spi (part_of model.part).bus ≡ true
unfolding make_of
spi = refl

awake : asleep (part_of model.part) (items_in enabled_with_quarter) ≡ false
unfolding make_of event_of check_of read_of advance_of step_of command_of
awake = refl

enable : enabled (part_of model.part) (without_ignored (part_of model.part) (items_in enabled_with_quarter)) ≡ true
unfolding make_of event_of check_of read_of advance_of step_of command_of
enable = refl

-- the WRITE at an address, given by the bits after the opcode
module _ (rest : List Bool) where
  abbrev Written : Type 0
  Written = (items_in (enabled_with_quarter ++ selected (write rest)) ≡ selection (write rest) (ended true) ∷ items_in enabled_with_quarter)
      × (reading (part_of model.part) (write rest) ≡ command WRITE rest)
      × (data_bytes (part_of model.part) (ended true) rest ≡ 0xaa ∷ [])

written_below : Written below
unfolding make_of event_of check_of read_of advance_of step_of command_of protected_start
written_below = (refl, refl, refl)

written_at : Written at
unfolding make_of event_of check_of read_of advance_of step_of command_of protected_start
written_at = (refl, refl, refl)

address_below : data_address (part_of model.part) below ≡ 0xbff
unfolding make_of
address_below = refl

address_at : data_address (part_of model.part) at ≡ 0xc00
unfolding make_of
address_at = refl

open_below : protected 0 0 0 zeros enabled_with_quarter 0xbff ≡ false
unfolding make_of event_of check_of read_of advance_of step_of command_of
open_below = refl

closed_at : protected 0 0 0 zeros enabled_with_quarter 0xc00 ≡ true
unfolding make_of event_of check_of read_of advance_of step_of command_of
closed_at = refl

pub below_the_quarter : memory_after model zeros (enabled_with_quarter ++ selected (write below)) ≡ set (memory_after model zeros enabled_with_quarter) 0xbff 0xaa
below_the_quarter =
    rw (address_below, open_below)
    at (stored_unless_protected 0 0 0 zeros spi enabled_with_quarter (selected (write below)) (write below) (ended true) below 0xaa written_below.0 awake enable written_below.1 written_below.2)

pub at_the_quarter : memory_after model zeros (enabled_with_quarter ++ selected (write at)) ≡ memory_after model zeros enabled_with_quarter
at_the_quarter =
    rw (address_at, closed_at)
    at (stored_unless_protected 0 0 0 zeros spi enabled_with_quarter (selected (write at)) (write at) (ended true) at 0xaa written_at.0 awake enable written_at.1 written_at.2)
