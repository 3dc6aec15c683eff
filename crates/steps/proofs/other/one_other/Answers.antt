-- `one_other` adds up offsets within the trace: that of the reader's fault, and that after a whole event. Assumes nothing.
use Prim.Native.Nat.{ℕ}
use mathlib.Core.Path.{◌≡◌, sym, ◌∙◌}
use native.Mathlib.Omega.{arith}
use lib.ListN.{drop, length-drop}
use Rattle.trace.proofs.ReadLaws.{taken_within, place_within}
use Rattle.samples.proofs.SamplesLaws.{tail_part}
use Rattle.steps.proofs.other.one_other.Goals as goal

pub overflow_add-result : goal.overflow_add-result
overflow_add-result c =
    let a = c.args in
    let read = rw (tail_part a.trace.now a.offset) at c.read_event-read.ensures in
    let within = rw (← read, c.unwrap_err-refusal.ensures) at (place_within a.part (drop a.offset a.trace.now)) in
    omega (arith, within, length-drop a.offset a.trace.now, c.requires.1, c.well_formed.1.1.0.0)

pub overflow_add-past : goal.overflow_add-past
overflow_add-past c =
    let a = c.args in
    let read = rw (tail_part a.trace.now a.offset) at (sym c.read_event-read.ensures ∙ c.in-Ok.is) in
    omega (arith, taken_within _ _ _ _ read, length-drop a.offset a.trace.now, c.requires.1, c.well_formed.1.1.0.0)
