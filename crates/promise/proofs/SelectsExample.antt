-- Steps that are accepted and one that is refused: part 0 with a memory of zeros gets power, then WREN and RDSR as bytes, then a buffer of
-- another length. The events that RDSR is. And each other number of a selection, with a later one's reason beside it. Assumes nothing.
use Prim.Native.Nat.{ℕ}
use mathlib.Core.Path.{◌≡◌, refl}
use mathlib.Core.Bool.{true}
use mathlib.Core.List.{List, [], ◌∷◌}
use lib.ListN.{length, replicate}
use Rattle.trace.specs.Read.{read_of}
use Rattle.selection.specs.Opcode.{command_of}
use Rattle.spi.specs.Sample.{step_of}
use Rattle.chip.specs.Check.{check_of}
use Rattle.events.specs.Event.{advance_of}
use Rattle.byte_path.specs.PinPath.{selection_of}
use Rattle.byte_path.specs.Select.{select_of}
use Rattle.runs.specs.Event.{event_of}
use Rattle.model.specs.Make.{make_of}
use Rattle.promise.specs.Promise.{made_by}
use Rattle.promise.specs.Selects.{pin_trace}
use Rattle.promise.specs.SelectSteps.{Step, event, select, Shown, shown_steps, events_steps}

-- WP# 1: CS# falls, five bits 0, then 1, 0 and 1, and CS# rises with SI 1
rdsr_events : pin_trace true (5 ∷ [])
    ≡ 4 ∷ 24 ∷ 4 ∷ 26 ∷ 4 ∷ 24 ∷ 4 ∷ 26 ∷ 4 ∷ 24 ∷ 4 ∷ 26 ∷ 4 ∷ 24 ∷ 4 ∷ 26 ∷ 4 ∷ 24 ∷ 4 ∷ 26 ∷ 4 ∷ 24 ∷ 4 ∷ 30 ∷ 4 ∷ 28 ∷ 4 ∷ 26 ∷ 4 ∷ 24 ∷ 4 ∷ 30 ∷ 4 ∷ 28 ∷ 4 ∷ 29 ∷ []
rdsr_events = refl

abbrev steps : List Step
steps = event (1 ∷ 25 ∷ []) ∷ select true (6 ∷ []) (0 ∷ []) ∷ select true (5 ∷ 0 ∷ 0 ∷ []) (0 ∷ 0 ∷ 0 ∷ []) ∷ select true (5 ∷ []) [] ∷ []

-- number, index of the first driven byte, how many are driven, and what came back
abbrev seen : List Shown → List (List ℕ)
seen [] = []
seen (x ∷ xs) = (x.number ∷ x.first ∷ x.count ∷ x.back) ∷ seen xs

wren_rdsr_lem : seen (shown_steps (made_by 0 0 0) (replicate 4096 0) steps)
    ≡ (0 ∷ 0 ∷ 0 ∷ 2 ∷ []) ∷ (0 ∷ 1 ∷ 0 ∷ 255 ∷ []) ∷ (0 ∷ 1 ∷ 2 ∷ 255 ∷ 2 ∷ 2 ∷ []) ∷ (13 ∷ 0 ∷ 0 ∷ []) ∷ []
unfolding make_of event_of check_of read_of advance_of step_of command_of selection_of select_of
wren_rdsr_lem = refl

-- one event, 18 and 50
counted : length (events_steps (made_by 0 0 0) (replicate 4096 0) steps) ≡ 69
unfolding make_of event_of check_of read_of advance_of step_of command_of selection_of select_of
counted = refl

-- two bytes in, and a buffer of one: 13 holds of each
abbrev short : Step
short = select true (5 ∷ 0 ∷ []) (7 ∷ [])

-- without power, and where CS# was 0
refused_12 : seen (shown_steps (made_by 0 0 0) (replicate 4096 0) (short ∷ event (1 ∷ 24 ∷ []) ∷ short ∷ []))
    ≡ (12 ∷ 0 ∷ 0 ∷ 7 ∷ []) ∷ (0 ∷ 0 ∷ 0 ∷ 2 ∷ []) ∷ (12 ∷ 0 ∷ 0 ∷ 7 ∷ []) ∷ []
unfolding make_of event_of check_of read_of advance_of step_of command_of selection_of select_of
refused_12 = refl

-- on an I2C part, without power
refused_4 : seen (shown_steps (made_by 3 0 0) (replicate 8192 0) (short ∷ [])) ≡ (4 ∷ 0 ∷ 0 ∷ 7 ∷ []) ∷ []
unfolding make_of event_of check_of read_of advance_of step_of command_of selection_of select_of
refused_4 = refl

-- and with a memory of another length
refused_3 : seen (shown_steps (made_by 3 0 0) [] (short ∷ [])) ≡ (3 ∷ 0 ∷ 0 ∷ 7 ∷ []) ∷ []
unfolding make_of event_of check_of read_of advance_of step_of command_of selection_of select_of
refused_3 = refl
