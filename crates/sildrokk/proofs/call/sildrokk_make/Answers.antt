-- `sildrokk_make` meets its contract: refused by its numbers, then by the buffer's length, or written. Assumes nothing.
use mathlib.Core.Path.{refl}
use Rattle.parts.proofs.NumberLaws.{number_positive}
use Rattle.calls.proofs.InRange.{make_range}
use Rattle.sildrokk.proofs.MakeLaws.{making_refused, making_short, making_done}
use Rattle.sildrokk.proofs.call.sildrokk_make.Goals as goal

pub returns-in-Some : goal.returns-in-Some
returns-in-Some c =
    let a = c.args in
    let k = making_refused a.part a.pins a.bits a.state.now _ (rw c.in-Some.is at c.make-made.ensures) (number_positive c.in-Some.refusal) in
    record { number = rw c.number.ensures k.0; state = k.1 }

pub returns-in-None : goal.returns-in-None
returns-in-None c =
    let a = c.args in
    let k = making_short a.part a.pins a.bits a.state.now _ (rw c.in-None.is at c.make-made.ensures) refl c.if-state-ne32.true in
    record { number = rw c.number-in-None.ensures k.0; state = k.1 }

pub put_image-requires : goal.put_image-requires
put_image-requires c =
    let a = c.args in
    (c.if-state-ne32.false, rw (← c.make-made.ensures) at (make_range a.part a.pins a.bits))

pub returns-in-None-2 : goal.returns-in-None-2
returns-in-None-2 c =
    let a = c.args in
    let k = making_done a.part a.pins a.bits a.state.now _ (rw c.in-None.is at c.make-made.ensures) refl c.if-state-ne32.false in
    record { number = k.0; state = rw c.put_image.ensures k.1 }
