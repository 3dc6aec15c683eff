-- The count of a run is the number of its answers, and no more than the trace has bytes. Assumes nothing.
use Prim.Native.Nat.{ℕ, zero, suc, ◌+◌, ◌-◌, ◌≤◌}
use mathlib.Core.Path.{◌≡◌, refl}
use mathlib.Core.Bool.{Bool}
use mathlib.Core.List.{List}
use native.Mathlib.Omega.{arith}
use lib.ListN.{length, drop, get_or, length-drop}
use Rattle.trace.proofs.ReadLaws.{length_positive}
use Rattle.chip.specs.declared.model.Model.{Model}
use Rattle.chip.specs.Check.{check_of, Verdict, Passed, Failed}
use Rattle.runs.specs.Event.{event_of}
use Rattle.runs.specs.Run.{Run, after, run_on_verdict, loop_of, run_of}
use Rattle.runs.specs.Rules.{Counted}
use Rattle.runs.proofs.RunLaws.{taken, loop_induction}

one_more_lem : (t : List ℕ) (r : Run) (a : ℕ) (f : Bool) (n : ℕ) → 1 ≤ n → (length t ≡ 0 → ⊥) → Counted (length (drop n t)) r → Counted (length t) (after a f n r)
one_more_lem t r a f n l some k =
    let e = k.answered in
    record { answered = omega arith; within = by (length t) some (rw length-drop at k.within) }
  where
    by : (b : ℕ) → (b ≡ 0 → ⊥) → r.count ≤ b - n → 1 + r.count ≤ b
    by zero z h = absurd (z refl)
    by (suc b) z h = omega arith

loop_counted : (q : ℕ) (t : List ℕ) (s : Model) (m : List ℕ) → Counted (length t) (loop_of q t s m)
loop_counted =
    loop_induction (λ q t s m r. Counted (length t) r)
    (λ q t s m n place e. record { answered = refl; within = omega arith })
    (λ q t s m some none r k. one_more_lem t r _ (event_of s m t).result.flag (taken t) (length_positive (get_or t 0 0)) some k)

pub run_counted : (q : ℕ) (t : List ℕ) (s : Model) (m : List ℕ) → Counted (length t) (run_of q t s m)
unfolding run_of
run_counted q t s m = by (check_of s (length m))
  where
    by : (v : Verdict) → Counted (length t) (run_on_verdict v q t s m)
    by Passed = loop_counted q t s m
    by (Failed r) = record { answered = refl; within = omega arith }
