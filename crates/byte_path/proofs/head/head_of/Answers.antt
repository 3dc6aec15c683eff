-- `head_of` meets its contract: what is left where no byte of the head comes is the head that was taken. Assumes nothing.
use mathlib.Core.Path.{sym, ap, ◌∙◌}
use mathlib.Core.List.{◌++◌}
use lib.ListN.{drop, replicate}
use Rattle.byte_path.specs.declared.head.Head.{Head}
use Rattle.byte_path.proofs.HeadLaws.{head_over}
use Rattle.byte_path.proofs.head.head_of.Goals as goal

pub returns-then-not-is_head-clause-head : goal.returns-then-not-is_head-clause-head
returns-then-not-is_head-clause-head c =
    let l = c.loop-at in
    head_over c.args.part c.args.input.now l.phase l.at (drop l.at c.args.input.now) (sym c.is_head.ensures ∙ c.if-not-is_head.true) ∙ l.invariant.1

pub returns-then-not-is_head-clause-output : goal.returns-then-not-is_head-clause-output
returns-then-not-is_head-clause-output c =
    c.loop-at.invariant.2 ∙ ap (λ (x : Head). replicate x.at 255 ++ drop x.at c.args.output.now) (returns-then-not-is_head-clause-head c)
