-- `sildrokk_event` meets its contract: refused at its beginning, or the event on the image's state. Assumes nothing.
use mathlib.Core.Path.{◌∙◌}
use native.Mathlib.Omega.{arith}
use Rattle.parts.proofs.NumberLaws.{number_positive}
use Rattle.sildrokk.proofs.CallLaws.{event_refused, begun, begun_taken, event_done}
use Rattle.sildrokk.proofs.call.sildrokk_event.Goals as goal

pub returns-in-Err : goal.returns-in-Err
returns-in-Err c =
    let a = c.args in
    let k = event_refused a.state.now a.memory.now a.res.now (λ i. omega (arith, c.slice_known-1.given i)) _ c.in-Err.ensures (number_positive c.in-Err.refusal) a.event.now _ c.refuse_event.ensures.res in
    record { number = rw c.refuse_event.ensures.number k.0; state = k.1; memory = k.2; res = k.3 }

pub event_on-requires : goal.event_on-requires
event_on-requires c =
    let a = c.args in
    (begun_taken a.state.now a.memory.now a.res.now c.in_default.ensures, (begun a.state.now a.memory.now a.res.now c.in_default.ensures).passes)

pub returns-in-Ok : goal.returns-in-Ok
returns-in-Ok c =
    let a = c.args in
    let e = c.in-Ok.ensures in
    let k = event_done a.state.now a.memory.now a.res.now c.in_default.ensures a.event.now _ _ _ _ e.told e.state e.memory (c.write_event.ensures ∙ rw c.number.ensures) in
    record { number = k.0; state = k.1; memory = k.2; res = k.3 }

pub returns-in-Err-event_on : goal.returns-in-Err-event_on
returns-in-Err-event_on c =
    let a = c.args in
    let e = c.in-Err-event_on.ensures in
    let r = c.refuse_event-in-Err-event_on.ensures in
    let k = event_done a.state.now a.memory.now a.res.now c.in_default.ensures a.event.now _ _ _ _ e.told e.state e.memory r.res in
    record { number = rw r.number k.0; state = k.1; memory = k.2; res = k.3 }
