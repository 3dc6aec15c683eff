-- Reached states are in range, whatever numbers, bytes, quotas and memories the calls were given, so that numbers 1 and 2 are not
-- given for them. From the same fact for each kind of call. Assumes nothing.
use Prim.Native.Nat.{ℕ}
use mathlib.Core.Path.{◌≡◌, refl}
use mathlib.Core.Bool.{true, cond}
use lib.Dec.{eqb}
use Rattle.parts.specs.declared.refusal.Refusal.TheVariants.{MemoryLength}
use Rattle.parts.specs.Table.{part_of}
use Rattle.chip.specs.declared.model.Model.{Model}
use Rattle.chip.specs.Check.{model_in, bus_in, check_of, Passed, Failed}
use Rattle.image.specs.Taken.{in_range}
use Rattle.calls.proofs.Opening.{check_by}
use Rattle.promise.specs.Reached.{Reached, by_making, by_event_lem, by_run_lem, by_select_lem}
use Rattle.promise.proofs.Ranges.{both, made_in, event_in, run_in, select_in}

pub reached_in_range : {s : Model} → Reached s → (model_in s ≡ true) × (bus_in (part_of s.part) s.status s.bus ≡ true)
reached_in_range (by_making part pins bits) = made_in part pins bits
reached_in_range (by_event_lem {s} m t r) = event_in s m t (reached_in_range r)
reached_in_range (by_run_lem {s} quota t m r) = run_in quota t s m (reached_in_range r)
reached_in_range (by_select_lem {s} wp input output m r) = select_in wp s input output m (reached_in_range r)

pub reached_range : {s : Model} → Reached s → in_range s ≡ true
reached_range {s} r = both s (reached_in_range r)

-- so a reached state fails the tests 1 to 3 only by a memory of the wrong length
pub reached_check : {s : Model} → Reached s → (length : ℕ)
    → check_of s length ≡ cond (eqb length (part_of s.part).size) Passed (Failed MemoryLength)
reached_check {s} r n = check_by s n _ (reached_range r) refl
