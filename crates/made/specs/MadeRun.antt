-- A making and a run in one: a refused making runs nothing.
use Rattle.std.specs.Prelude.{ℕ, cond, List, eqb}
use Rattle.model.specs.Made.{Made}
use Rattle.model.specs.Make.{make_of}
use Rattle.runs.specs.Run.{Run, stop, run_of}

abbrev pub run_made : Made → ℕ → List ℕ → List ℕ → Run
run_made made quota t m = cond (eqb made.number 0) (run_of quota t made.model m) (stop made.number t made.model m)

unfoldable pub made_run : ℕ → ℕ → ℕ → ℕ → List ℕ → List ℕ → Run
made_run part pins bits quota t m = run_made (make_of part pins bits) quota t m
