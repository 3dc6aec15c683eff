-- `write_text` meets its contract, by the laws of the text: what is left of it, stored from here on, gives the whole. Assumes nothing.
use Prim.Native.Nat.{◌+◌, ◌*◌, ◌<◌, ◌≤◌}
use mathlib.Core.Path.{◌≡◌}
use lib.ListN.{length, drop}
use lib.Seq.{sets}
use Rattle.report.specs.Text.{text}
use Rattle.report.proofs.text.write_text.Given as goal

abbrev pub invariant-loop-answer : goal.invariant-loop-answer
invariant-loop-answer l =
    (l.answer-index ≤ length l.answers) × (l.column < 64) × (l.at ≤ 2 * l.answer-index) × (length l.out ≡ length l.initial.out)
    × (l.at + length (text l.column (drop l.answer-index l.answers)) ≡ length (text 0 l.answers))
    × (sets l.out l.at (text l.column (drop l.answer-index l.answers)) ≡ sets l.initial.out 0 (text 0 l.answers))
