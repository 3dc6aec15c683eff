-- A run that stops at once points at no event; and with one accepted event before it, a run points at that event if it is flagged, else as
-- it did. Assumes nothing.
use Prim.Native.Nat.{ℕ, zero, suc, ◌+◌, ◌<◌, ◌≤◌}
use mathlib.Core.Path.{◌≡◌, refl}
use mathlib.Core.Bool.{Bool, true, false}
use mathlib.Core.List.{List}
use native.Mathlib.Omega.{arith}
use lib.ListN.{length, drop}
use Rattle.runs.specs.Run.{Run, stop_at, after}
use Rattle.runs.proofs.RunLaws.{taken}
use Rattle.chip.specs.declared.model.Model.{Model}
use Rattle.samples.proofs.SamplesLaws.{none_left}
use Rattle.ledger.specs.Flags.{Exactly}
use Rattle.promise.specs.FirstAt.{FirstAt, nowhere, there}

pub first_stopped : (W : ℕ → Type 0) (n place : ℕ) (t : List ℕ) (s : Model) (m : List ℕ) → FirstAt W t (stop_at n place t s m)
first_stopped W n place t s m = nowhere (λ i l. absurd (omega arith)) refl

-- of the event W 0 holds exactly if it is flagged, and of those after it W what X holds of the rest of the trace
module _ (W X : ℕ → Type 0) (t : List ℕ) (r : Run) (a : ℕ) (within : taken t ≤ length t) (down : (i : ℕ) → W (suc i) → X i) (up : (i : ℕ) → X i → W (suc i)) where
  first_by : (f : Bool) → Exactly f (W 0) → FirstAt X (drop (taken t) t) r → FirstAt W t (after a f (taken t) r)
  first_by true x k = there 0 (omega arith) (x.only refl) (λ j b. absurd (omega arith)) refl
  first_by false x (nowhere n e) = nowhere none (rw e (none_left t (taken t) within))
    where
      none : (i : ℕ) → i < 1 + r.count → W i → ⊥
      none zero l w = let z : ◌≡◌ {A = Bool} false true = x.set w in let y : ◌≡◌ {A = ℕ} 0 1 = cc in omega arith
      none (suc i) l w = n i (omega arith) (down i w)
  first_by false x (there i l w n e) = there (suc i) (omega arith) (up i w) none (rw e)
    where
      none : (j : ℕ) → j < suc i → W j → ⊥
      none zero b v = let z : ◌≡◌ {A = Bool} false true = x.set v in let y : ◌≡◌ {A = ℕ} 0 1 = cc in omega arith
      none (suc j) b v = n j (omega arith) (down j v)

  pub first_more : (f : Bool) → Exactly f (W 0) → FirstAt X (drop (taken t) t) r → FirstAt W t (after a f (taken t) r)
  first_more f x k = first_by f x k
