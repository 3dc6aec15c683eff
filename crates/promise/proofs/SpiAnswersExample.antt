-- A list that meets what the bytes shown ask for: part 0 with a memory of zeros gets power, WREN and the opcode RDSR, bit by bit.
-- Every byte that follows is 02h (checked example 1, for as many bytes as a host likes). Assumes nothing.
use Prim.Native.Nat.{ℕ}
use mathlib.Core.Path.{◌≡◌, refl}
use mathlib.Core.Bool.{Bool, true, false}
use mathlib.Core.List.{List, [], ◌∷◌, ◌++◌}
use lib.ListN.{replicate}
use Rattle.trace.specs.Read.{read_of}
use Rattle.selection.specs.Opcode.{command_of}
use Rattle.spi.specs.Sample.{step_of}
use Rattle.chip.specs.Check.{check_of}
use Rattle.events.specs.Event.{advance_of}
use Rattle.runs.specs.Event.{event_of}
use Rattle.model.specs.Make.{make_of}
use Rattle.ledger.specs.SpiLedger.{ended, power_on, selection}
use Rattle.promise.specs.SpiBytes.{sample, clocks, Clocked, byte_shown}
use Rattle.promise.proofs.SpiAnswersBytes.{rdsr_bytes}

-- a bit 1 with its clock
abbrev one : List (List ℕ)
one = sample 28 ∷ sample 30 ∷ []

-- power on with CS# 1; CS# falls, 00000110, CS# rises; CS# falls, 00000101
abbrev pub wren_rdsr : List (List ℕ)
wren_rdsr =
    (1 ∷ 25 ∷ []) ∷ sample 24 ∷ (clocks 5 ++ (one ++ (one ++ (clocks 1 ++ (sample 25 ∷ sample 24 ∷ (clocks 5 ++ (one ++ (clocks 1 ++ one))))))))

abbrev wren : List Bool
wren = false ∷ false ∷ false ∷ false ∷ false ∷ true ∷ true ∷ false ∷ []

abbrev rdsr : List Bool
rdsr = false ∷ false ∷ false ∷ false ∷ false ∷ true ∷ false ∷ true ∷ []

-- the open selection is RDSR, after a WREN that has ended with WP# 1
asked : Clocked 0 0 0 (replicate 4096 0) wren_rdsr rdsr (selection wren (ended true) ∷ power_on ∷ [])
unfolding make_of event_of check_of read_of advance_of step_of command_of
asked = record { opened = refl; awake = refl; selected = refl; clock_high = refl; unheld = refl }

pub always_two : (i : ℕ) → byte_shown 0 0 0 (replicate 4096 0) wren_rdsr i ≡ 2
unfolding make_of event_of check_of read_of advance_of step_of command_of
always_two i = rdsr_bytes 0 0 0 (replicate 4096 0) refl wren_rdsr rdsr (selection wren (ended true) ∷ power_on ∷ []) asked i refl
