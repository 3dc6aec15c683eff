-- `head_of` meets its contract: the head of what is left, after the bytes taken, is the head of all. Assumes nothing.
use mathlib.Core.Path.{◌≡◌}
use mathlib.Core.List.{◌++◌}
use lib.ListN.{drop, replicate}
use Rattle.byte_path.specs.Head.{ahead, head_from, Bordered}
use Rattle.byte_path.proofs.head.head_of.Given as goal

abbrev pub invariant-loop-at : goal.invariant-loop-at
invariant-loop-at l =
    Bordered l.part l.phase × (ahead l.at (head_from l.part l.phase (drop l.at l.input)) ≡ head_from l.part l.initial.phase l.input)
    × (l.output ≡ replicate l.at 255 ++ drop l.at l.initial.output)
