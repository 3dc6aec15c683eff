-- `checked_event` meets its contract: no bytes, or a run of one event, refused or not. Assumes nothing.
use mathlib.Core.Path.{refl, sym, ap}
use borrow.Author.Tests.{eqb-true, eqb-false}
use Rattle.events.specs.Reply.{Reply}
use Rattle.runs.proofs.OneLaws.{nothing_read, one, answer_named, refused_one}
use Rattle.runs.proofs.one.checked_event.Goals as goal

pub returns-then-is_empty : goal.returns-then-is_empty
returns-then-is_empty c =
    let a = c.args in
    let h = nothing_read a.model a.memory.now a.bytes.now c.requires (eqb-true _ _ (sym c.if-is_empty.ensures)) in
    rw h (record { answered = refl; memory = refl })

pub returns-in-Some : goal.returns-in-Some
returns-in-Some c =
    let a = c.args in
    let e = c.replay_checked-ran.ensures in
    let h = one a.model a.memory.now a.bytes.now c.requires (eqb-false _ _ (sym c.if-is_empty.ensures)) _ _ _ e.ran e.memory e.answers in
    let number = rw c.in-Some.is at (ap (λ (x : Reply). x.number) h.0) in
    record { answered = refused_one a.model a.memory.now a.bytes.now c.requires c.in-Some.refusal (sym number); memory = h.1 }

pub returns : goal.returns
returns c =
    let a = c.args in
    let e = c.replay_checked-ran.ensures in
    let h = one a.model a.memory.now a.bytes.now c.requires (eqb-false _ _ (sym c.if-is_empty.ensures)) _ _ _ e.ran e.memory e.answers in
    let named = answer_named a.model a.memory.now a.bytes.now c.requires _ h.0 in
    record { answered = rw (c.of_number.ensures, named) (rw c.in_default.is at h.0); memory = h.1 }
