-- `replay_checked` meets its contract. The loop's invariant: state and memory still pass 1 to 3, the part is the one of the
-- state, and what is left of the run, with what it has given so far, is the whole run. A turn takes the samples at hand, and then
-- one other event. Assumes nothing.
use mathlib.Core.Path.{refl, sym, ◌∙◌}
use mathlib.Core.Logic.{◌⊎◌, inl, inr}
use Prim.Native.Nat.{◌≤◌}
use native.Mathlib.Omega.{arith}
use lib.ListN.{length}
use Rattle.parts.proofs.NumberLaws.{number_positive}
use Rattle.chip.proofs.CheckLaws.{sound_in}
use Rattle.runs.proofs.RunLaws.{left_used, three}
use Rattle.runs.proofs.SamplesRun.{samples_here, here_other}
use Rattle.runs.proofs.OtherLaws.{used, went}
use Rattle.runs.proofs.run.replay_checked.Goals as goal
use Rattle.runs.proofs.run.replay_checked.Goals.{then-quota-at-via-then-quota-at, then-quota-at-via-else-quota-at+then-trace-at}

pub part_of-part-requires : goal.part_of-part-requires
part_of-part-requires c = (sound_in c.args.model c.args.memory.now c.requires).model.known

pub returns-then-quota-at : goal.returns-then-quota-at
returns-then-quota-at c =
    let l = c.loop-at in
    let a = c.args in
    let e = c.samples-at.ensures in
    let h = samples_here _ a.trace.now a.quota l.at.flag l.at.count l.at.offset l.at.model l.memory l.answers _ l.invariant.2 l.invariant.3 c.loop-at-test.true l.invariant.1 l.invariant.6 _ _ _ e.progress e.memory e.answers in
    let over : (a.quota ≤ c.samples-at.result.count) ⊎ (length a.trace.now ≤ c.samples-at.result.offset) = elim c.then-quota-at.branch [ then-quota-at-via-then-quota-at w ↦ inl w.if-quota-at.true | then-quota-at-via-else-quota-at+then-trace-at w ↦ inr w.if-trace-at.true ] in
    let f = three _ _ (used _ _ _ _ _ _ _ _ h over) in
    record { ran = c.ended.ensures ∙ f.0; memory = f.1; answers = f.2 }

-- ---- one other event
pub one_other-requires : goal.one_other-requires
one_other-requires c =
    let l = c.loop-at in
    let a = c.args in
    let e = c.samples-at.ensures in
    let h = samples_here _ a.trace.now a.quota l.at.flag l.at.count l.at.offset l.at.model l.memory l.answers _ l.invariant.2 l.invariant.3 c.loop-at-test.true l.invariant.1 l.invariant.6 _ _ _ e.progress e.memory e.answers in
    (h.part, h.within, here_other _ _ _ _ _ _ _ _ h c.if-quota-at.false)

pub returns-in-Err : goal.returns-in-Err
returns-in-Err c =
    let l = c.loop-at in
    let a = c.args in
    let e = c.samples-at.ensures in
    let h = samples_here _ a.trace.now a.quota l.at.flag l.at.count l.at.offset l.at.model l.memory l.answers _ l.invariant.2 l.invariant.3 c.loop-at-test.true l.invariant.1 l.invariant.6 _ _ _ e.progress e.memory e.answers in
    let x = c.in-Err.ensures in
    let w = went _ _ _ _ _ _ _ _ h c.if-quota-at.false c.if-trace-at.false _ _ (x.other _) (x.answers _) in
    let f = three _ _ (w.over (number_positive c.in-Err.refusal)) in
    record { ran = c.ended-in-Err.ensures ∙ f.0; memory = f.1; answers = f.2 }

pub loop-at-preserved : goal.loop-at-preserved
loop-at-preserved c =
    let l = c.loop-at in
    let a = c.args in
    let e = c.samples-at.ensures in
    let h = samples_here _ a.trace.now a.quota l.at.flag l.at.count l.at.offset l.at.model l.memory l.answers _ l.invariant.2 l.invariant.3 c.loop-at-test.true l.invariant.1 l.invariant.6 _ _ _ e.progress e.memory e.answers in
    let x = c.in-Ok.ensures in
    let w = went _ _ _ _ _ _ _ _ h c.if-quota-at.false c.if-trace-at.false _ _ (x.other _) (x.answers _) in (
      omega (arith, c.if-quota-at.false),
      w.within,
      w.sound,
      w.part,
      c.samples-at.auto.memory ∙ l.invariant.4,
      c.one_other.auto.answers ∙ c.samples-at.auto.answers ∙ l.invariant.5,
      w.left refl,
    )

pub returns : goal.returns
returns c =
    let l = c.loop-at in
    let f = three _ _ (sym (left_used _ _ _ _ _ _ _ _ l.invariant.1 c.loop-at-test.false) ∙ l.invariant.6) in
    record { ran = c.ended-2.ensures ∙ f.0; memory = f.1; answers = f.2 }
