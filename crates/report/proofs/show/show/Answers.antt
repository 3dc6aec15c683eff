-- `show` meets its contract, by the law of what is shown of a run. Assumes nothing.
use mathlib.Core.Path.{◌∙◌}
use native.Mathlib.Omega.{arith}
use Rattle.runs.specs.Figures.{figures_of}
use Rattle.report.proofs.ShowLaws.{Shown, shown}
use Rattle.report.proofs.show.show.Goals as goal
use Rattle.report.proofs.show.show.Goals.{After-replay_made-ran}

-- what is known after the run
after_run : (c : After-replay_made-ran) → Shown c.args.part c.args.trace.now c.args.memory.now (figures_of c.replay_made-ran.result) c.replay_made-ran.new.answers c.replay_made-ran.new.memory
after_run c =
    let run = c.replay_made-ran.ensures in
    shown _ _ _ (omega arith) c.no_answers-answers.ensures run.ran run.memory run.answers

pub slice_bounds-answers-end : goal.slice_bounds-answers-end
slice_bounds-answers-end c = (after_run (goal.at.slice_bounds-answers-end c).After-replay_made-ran).fits

pub slice_bounds-write_text-end : goal.slice_bounds-write_text-end
slice_bounds-write_text-end c = (after_run (goal.at.slice_bounds-write_text-end c).After-replay_made-ran).taken

pub returns-clause-report : goal.returns-clause-report
returns-clause-report c =
    let s = after_run (goal.at.returns-clause-report c).After-replay_made-ran in
    let w = c.write_text-length.ensures in
    s.reported w.length

pub returns-clause-text : goal.returns-clause-text
returns-clause-text c =
    let s = after_run (goal.at.returns-clause-text c).After-replay_made-ran in
    let w = c.write_text-length.ensures in
    w.text ∙ s.written _
