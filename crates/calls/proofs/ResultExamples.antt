-- Results written out: of an event that answers low and is flagged, of a run of 3 events with the offset 261 and the first flag at 4, of a
-- selection as bytes, and what buffers of other lengths get. Computed. Assumes nothing.
use mathlib.Core.Path.{◌≡◌, refl}
use mathlib.Core.Bool.{true}
use mathlib.Core.List.{◌∷◌}
use lib.ListN.{replicate}
use Rattle.calls.specs.Result.{event_result, run_result, select_result}

pub event_bytes : event_result 0 true (replicate 32 7) ≡ 0 ∷ 1 ∷ replicate 30 0
event_bytes = refl

-- eight bytes each, most significant first: 261 is 1 * 256 + 5
pub run_bytes : run_result 3 261 4 (replicate 32 7)
    ≡ 0 ∷ 0 ∷ 0 ∷ 0 ∷ 0 ∷ 0 ∷ 0 ∷ 3 ∷ 0 ∷ 0 ∷ 0 ∷ 0 ∷ 0 ∷ 0 ∷ 1 ∷ 5 ∷ 0 ∷ 0 ∷ 0 ∷ 0 ∷ 0 ∷ 0 ∷ 0 ∷ 4 ∷ replicate 8 0
run_bytes = refl

pub select_bytes_lem : select_result 3 261 (replicate 32 7) ≡ 0 ∷ 0 ∷ 0 ∷ 0 ∷ 0 ∷ 0 ∷ 0 ∷ 3 ∷ 0 ∷ 0 ∷ 0 ∷ 0 ∷ 0 ∷ 0 ∷ 1 ∷ 5 ∷ replicate 16 0
select_bytes_lem = refl

pub thirty_one_bytes : run_result 3 261 4 (replicate 31 7) ≡ replicate 31 7
thirty_one_bytes = refl

pub thirty_three_bytes : event_result 0 true (replicate 33 7) ≡ replicate 33 7
thirty_three_bytes = refl
