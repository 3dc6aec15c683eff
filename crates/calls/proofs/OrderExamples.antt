-- The order of the numbers on images, with the reason of a later one beside each: 1 before 2 at making, 2 before 3, and 3 before all
-- others; and what a refused call leaves in its result. Computed. Assumes nothing.
use Prim.Native.Nat.{ℕ}
use mathlib.Core.Path.{◌≡◌, refl}
use mathlib.Core.Bool.{true}
use mathlib.Core.List.{List, [], ◌∷◌, ◌++◌}
use lib.ListN.{replicate}
use Rattle.chip.specs.Check.{check_of}
use Rattle.runs.specs.Event.{event_of}
use Rattle.runs.specs.Run.{run_of}
use Rattle.byte_path.specs.Select.{select_of}
use Rattle.model.specs.Make.{make_of}
use Rattle.image.specs.Taken.{taken}
use Rattle.calls.specs.Calls.{make_call, event_call, run_call, select_call}

-- no such part, and a buffer of 31 bytes; part 0, and the same buffer
pub one_first : make_call 5 0 0 (replicate 31 7) ≡ record { number = 1; state = replicate 31 7 }
unfolding make_call make_of
one_first = refl

pub two_of_a_making : make_call 0 0 0 (replicate 31 7) ≡ record { number = 2; state = replicate 31 7 }
unfolding make_call make_of
two_of_a_making = refl

-- part 0 without power: its image has no byte but zeros
abbrev off : List ℕ
off = replicate 32 0

-- an image that is none, a memory and a kind that are wrong; and the same with a result of 31 bytes
pub two_of_an_event : event_call (replicate 32 255) (9 ∷ []) [] (replicate 32 7)
    ≡ record { number = 2; state = replicate 32 255; memory = []; result = 2 ∷ replicate 31 0 }
unfolding event_call taken
two_of_an_event = refl

pub two_by_the_result : event_call off (9 ∷ []) [] (replicate 31 7) ≡ record { number = 2; state = off; memory = []; result = replicate 31 7 }
unfolding event_call
two_by_the_result = refl

-- a good image, and then a memory of another length before what is wrong with event, trace or selection
pub three_of_an_event : event_call off (9 ∷ []) (5 ∷ []) (replicate 32 7) ≡ record { number = 3; state = off; memory = 5 ∷ []; result = 2 ∷ replicate 31 0 }
unfolding event_call event_of taken check_of
three_of_an_event = refl

pub three_of_a_run : run_call off (9 ∷ []) 0 (5 ∷ []) (6 ∷ []) (replicate 32 7)
    ≡ record { number = 3; state = off; memory = 5 ∷ []; answers = 6 ∷ []; result = replicate 23 0 ++ (1 ∷ replicate 8 0) }
unfolding run_call run_of taken check_of
three_of_a_run = refl

pub three_of_a_selection : select_call off true (9 ∷ []) [] (5 ∷ []) (replicate 32 7)
    ≡ record { number = 3; state = off; memory = 5 ∷ []; output = []; result = replicate 32 0 }
unfolding select_call select_of taken check_of
three_of_a_selection = refl
