-- `on_state` meets its contract: what the event gives on the state, and the image of the next one. Assumes nothing.
use mathlib.Core.Path.{refl, sym}
use native.Mathlib.Omega.{arith}
use borrow.Author.Tests.{eqb-true}
use Rattle.std.proofs.lemmas.Result.{err_from_is_err_and}
use Rattle.image.proofs.TakenLaws.{taken_long}
use Rattle.image_run.proofs.EventLaws.{empty_gave, reply_range, reply_gave, refused_gave}
use Rattle.image_run.proofs.event.on_state.Goals as goal

pub returns-then-is_empty : goal.returns-then-is_empty
returns-then-is_empty c =
    let none = eqb-true _ _ (sym c.if-is_empty.ensures) in
    let g = empty_gave _ _ _ c.requires.0 c.requires.1 (λ i. omega (arith, c.slice_known-1.given i)) none in
    record { told = g.0; state = g.1; memory = g.2 }

pub state_of-model-requires : goal.state_of-model-requires
state_of-model-requires c = taken_long _ c.requires.0

pub returns-in_err-answered : goal.returns-in_err-answered
returns-in_err-answered c =
    let e = c.in_err-answered.ensures in
    let g = refused_gave _ _ _ c.requires.0 c.requires.1 _ c.state_of-model.ensures _ _ e.answered e.memory (λ i. omega (arith, c.slice_known-1.given i)) refl in
    let back = err_from_is_err_and c.from_residual.result c.from_residual.ensures.1 in
    record { told = rw (back.1, back.2) g.0; state = g.1; memory = g.2 }

pub put_image-requires : goal.put_image-requires
put_image-requires c =
    let e = c.in_ok-answered.ensures in (
      taken_long _ c.requires.0,
      reply_range _ _ _ c.requires.0 c.requires.1 _ c.state_of-model.ensures _ _ e.answered e.memory,
    )

pub returns : goal.returns
returns c =
    let e = c.in_ok-answered.ensures in
    let g = reply_gave _ _ _ c.requires.0 c.requires.1 _ c.state_of-model.ensures _ _ e.answered e.memory _ c.put_image.ensures in
    record { told = g.0; state = g.1; memory = g.2 }
