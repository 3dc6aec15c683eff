-- A making that is accepted is run, and a refused one is not; so the counts of a run hold of both. Assumes nothing.
use Prim.Native.Nat.{ℕ}
use mathlib.Core.Path.{refl}
use mathlib.Core.Bool.{Bool, true, false, cond}
use mathlib.Core.List.{List}
use native.Mathlib.Omega.{arith}
use lib.Dec.{eqb}
use lib.ListN.{length}
use Rattle.model.specs.Made.{Made}
use Rattle.model.specs.Make.{make_of}
use Rattle.runs.specs.Run.{stop, run_of}
use Rattle.runs.specs.Rules.{Counted}
use Rattle.runs.proofs.RunCounts.{run_counted}
use Rattle.made.specs.MadeRun.{made_run}

pub made_counted : (part pins bits quota : ℕ) (t m : List ℕ) → Counted (length t) (made_run part pins bits quota t m)
unfolding made_run
made_counted part pins bits quota t m = by (eqb made.number 0)
  where
    made : Made
    made = make_of part pins bits

    by : (y : Bool) → Counted (length t) (cond y (run_of quota t made.model m) (stop made.number t made.model m))
    by true = run_counted quota t made.model m
    by false = record { answered = refl; within = omega arith }
