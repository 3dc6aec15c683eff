-- `sildrokk_replay` meets its contract: refused at its beginning, or the run of the image's state. Assumes nothing.
use native.Mathlib.Omega.{arith}
use Rattle.parts.proofs.NumberLaws.{number_positive}
use Rattle.sildrokk.proofs.CallLaws.{run_refused, begun, begun_taken, run_done}
use Rattle.sildrokk.proofs.call.sildrokk_replay.Goals as goal

pub returns-in-Err : goal.returns-in-Err
returns-in-Err c =
    let a = c.args in
    let k = run_refused a.state.now a.memory.now a.res.now (λ i. omega (arith, c.slice_known-1.given i)) _ c.in-Err.ensures (number_positive c.in-Err.refusal) a.trace.now a.quota a.answers.now _ c.write_run.ensures in
    record { number = rw c.number.ensures k.0; state = k.1; memory = k.2; answers = k.3; res = k.4 }

pub run_on-ran-requires : goal.run_on-ran-requires
run_on-ran-requires c =
    let a = c.args in
    (begun_taken a.state.now a.memory.now a.res.now c.in_default.ensures, (begun a.state.now a.memory.now a.res.now c.in_default.ensures).passes)

pub returns : goal.returns
returns c =
    let a = c.args in
    let e = c.run_on-ran.ensures in
    let k = run_done a.state.now a.memory.now a.res.now c.in_default.ensures a.trace.now a.quota a.answers.now _ _ _ _ _ e.ran e.state e.memory e.answers c.write_run-2.ensures in
    record { number = rw c.number_of.ensures k.0; state = k.1; memory = k.2; answers = k.3; res = k.4 }
