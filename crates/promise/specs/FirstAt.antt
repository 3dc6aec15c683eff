-- Where a run points that points at the first of its accepted events of which something holds.
use Rattle.std.specs.Prelude.{ℕ, ◌<◌, ◌≡◌, List, length}
use Rattle.runs.specs.Run.{Run}
use Rattle.promise.specs.Fields.{kind_at}

-- W i says it of event number i of the trace t, counted from 0; r is a run of t
pub data FirstAt (W : ℕ → Type 0) (t : List ℕ) (r : Run) : Type 0 where
  -- of none: the trace's length
  nowhere : ((i : ℕ) → i < r.count → W i → ⊥) → r.flag ≡ length t → FirstAt W t r
  -- of event number i, and of none before it: its kind byte
  there : (i : ℕ) → i < r.count → W i → ((j : ℕ) → j < i → W j → ⊥) → r.flag ≡ kind_at i t → FirstAt W t r
