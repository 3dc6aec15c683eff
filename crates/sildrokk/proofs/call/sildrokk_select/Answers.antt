-- `sildrokk_select` meets its contract: refused at its beginning, or the selection on the image's state. Assumes nothing.
use native.Mathlib.Omega.{arith}
use mathlib.Core.Bool.{not}
use mathlib.Core.Path.{◌∙◌, sym, ap}
use lib.Dec.{eqb}
use Rattle.parts.proofs.NumberLaws.{number_positive}
use Rattle.image.specs.Taken.{image_of}
use Rattle.image.proofs.TakenLaws.{taken_long}
use Rattle.sildrokk.proofs.CallLaws.{select_refused, begun, begun_taken, begun_same, after_passes, select_done}
use Rattle.sildrokk.proofs.call.sildrokk_select.Goals as goal

pub returns-in-Err : goal.returns-in-Err
returns-in-Err c =
    let a = c.args in
    let k = select_refused a.state.now a.memory.now a.res.now (λ i. omega (arith, c.slice_known-1.given i)) _ c.in-Err.ensures (number_positive c.in-Err.refusal) (not (eqb a.wp 0)) a.input.now a.output.now _ c.refuse_select.ensures.res in
    record { number = rw c.refuse_select.ensures.number k.0; state = k.1; output = k.2; memory = k.3; res = k.4 }

pub state_of-model-requires : goal.state_of-model-requires
state_of-model-requires c =
    let a = c.args in
    taken_long _ (begun_taken a.state.now a.memory.now a.res.now c.in_default.ensures)

pub select_on_part-requires : goal.select_on_part-requires
select_on_part-requires c =
    let a = c.args in
    rw c.state_of-model.ensures (begun a.state.now a.memory.now a.res.now c.in_default.ensures).passes

pub put_image-requires : goal.put_image-requires
put_image-requires c =
    let a = c.args in
    let e = c.in_default.ensures in
    (taken_long _ (begun_taken a.state.now a.memory.now a.res.now e), after_passes a.state.now a.memory.now a.res.now e _ a.input.now a.output.now _ c.state_of-model.ensures _ c.in-Ok.ensures.selected)

pub returns-in-Ok : goal.returns-in-Ok
returns-in-Ok c =
    let a = c.args in
    let e = c.in-Ok.ensures in
    let k = select_done a.state.now a.memory.now a.res.now c.in_default.ensures _ a.input.now a.output.now _ c.state_of-model.ensures _ _ _ _ _ e.selected c.put_image.ensures e.memory e.output c.write_select.ensures in
    record { number = k.0; state = k.1; output = k.2; memory = k.3; res = k.4 }

-- the state stays, so that its image does
pub returns-in-Err-select_on_part : goal.returns-in-Err-select_on_part
returns-in-Err-select_on_part c =
    let a = c.args in
    let e = c.in-Err-select_on_part.ensures in
    let r = c.refuse_select-in-Err-select_on_part.ensures in
    let same = begun_same a.state.now a.memory.now a.res.now c.in_default.ensures (λ i. omega (arith, c.slice_known-1.given i)) ∙ ap image_of (sym c.state_of-model.ensures) in
    let k = select_done a.state.now a.memory.now a.res.now c.in_default.ensures _ a.input.now a.output.now _ c.state_of-model.ensures _ _ _ _ _ e.selected same e.memory e.output r.res in
    record { number = rw r.number k.0; state = k.1; output = k.2; memory = k.3; res = k.4 }
