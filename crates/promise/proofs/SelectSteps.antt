-- Steps are the events that they count as, so demand 3 holds of lists in which selections as bytes stand among the events. From what a
-- selection is as events, by induction on the steps. Assumes nothing.
use Prim.Native.Nat.{ℕ}
use mathlib.Core.Path.{◌≡◌, refl, sym, ap}
use mathlib.Core.Bool.{Bool, true, false, cond}
use mathlib.Core.List.{List, [], ◌∷◌}
use lib.Dec.{eqb}
use borrow.Author.Tests.{eqb-true, eqb-false}
use Rattle.chip.specs.declared.model.Model.{Model}
use Rattle.byte_path.specs.Select.{select_of}
use Rattle.calls.proofs.Kept.{select_stays}
use Rattle.promise.specs.Lists.{model_after, memory_after}
use Rattle.promise.specs.Promise.{made_by, cut_memory}
use Rattle.promise.specs.Selects.{pin_events}
use Rattle.promise.specs.SelectSteps.{Step, event, select, stepped, step_events, model_steps, memory_steps, shown_steps, events_steps, StepsPromise}
use Rattle.promise.proofs.Demand3.{demand3}
use Rattle.promise.proofs.Joins.{model_join, memory_join}
use Rattle.promise.proofs.Selects.{as_events}

-- ---- one step, then all

-- a list of events leaves this state and this memory
abbrev Leaves : Model → List ℕ → List (List ℕ) → Model → List ℕ → Type 0
Leaves s m es t n = (model_after s m es ≡ t) × (memory_after s m es ≡ n)

pub step_leaves : (x : Step) (s : Model) (m : List ℕ) → Leaves s m (step_events s m x) (stepped s m x).model (stepped s m x).shown.memory
step_leaves (event t) s m = (refl, refl)
step_leaves (select wp input output) s m = by (eqb (select_of wp s input output m).number 0) refl
  where
    by : (y : Bool) → eqb (select_of wp s input output m).number 0 ≡ y
        → Leaves s m (cond y (pin_events wp input) []) (select_of wp s input output m).model (select_of wp s input output m).memory
    by true e = let k = as_events wp s input output m (eqb-true _ _ e) in (k.model, k.memory)
    by false e = let k = select_stays wp s input output m (eqb-false _ _ e) in (sym k.0, sym k.1)

pub steps_leave : (xs : List Step) (s : Model) (m : List ℕ) → Leaves s m (events_steps s m xs) (model_steps s m xs) (memory_steps s m xs)
steps_leave [] s m = (refl, refl)
steps_leave (x ∷ xs) s m =
    let h = step_leaves x s m in
    let k = steps_leave xs (stepped s m x).model (stepped s m x).shown.memory in
    (rw (model_join, h.0, h.1) k.0, rw (memory_join, h.0, h.1) k.1)

-- ---- steps from a making

pub steps_promise : (part pins bits : ℕ) (first : List ℕ) (xs : List Step) → StepsPromise part pins bits first xs
steps_promise part pins bits first xs =
    let k = steps_leave xs (made_by part pins bits) first in
    let es : List (List ℕ) = events_steps (made_by part pins bits) first xs in
    let d = demand3 part pins bits first es in
    record {
      model = k.0;
      memory = k.1;
      promise = d;
      later = λ ks. ap (λ (s : Model). shown_steps s (cut_memory part pins bits first es) ks) d.fresh;
    }
