-- `show_source` meets its contract, by what is shown. Assumes nothing.
use Rattle.std.proofs.Common.{length, sym, ◌∙◌, arith}
use Rattle.std.proofs.lemmas.Grind.{common_steps}
use Rattle.byte_rest.proofs.BackLaws.{memory_bytes, register_bytes, identity_bytes, memory_leading, register_leading, identity_leading}
use Rattle.byte_rest.proofs.data.show_source.Goals as goal

pub returns-in-Memory-clause-output : goal.returns-in-Memory-clause-output
returns-in-Memory-clause-output c =
    let a = c.args in
    rw c.in-Memory.is (c.read_rolled.ensures ∙ sym (memory_bytes a.part a.status a.memory.now c.requires.1 (length a.output.now) _))

pub returns-in-Memory-clause-count : goal.returns-in-Memory-clause-count
returns-in-Memory-clause-count c =
    let a = c.args in
    rw c.in-Memory.is (sym (memory_leading a.part a.status a.memory.now (length a.output.now) _).count)

pub returns-in-Register-clause-count : goal.returns-in-Register-clause-count
returns-in-Register-clause-count c =
    let a = c.args in
    rw c.in-Register.is (sym (register_leading a.part a.status a.memory.now (length a.output.now)).count)

pub returns-in-Register-clause-output : goal.returns-in-Register-clause-output
returns-in-Register-clause-output c =
    let a = c.args in
    let filled = c.fill.ensures.after (λ y e. e) in
    rw (c.in-Register.is, register_bytes a.part a.status a.memory.now (length a.output.now)) (grind (arith, common_steps, filled, c.byte.ensures))

pub returns-in-Identity-clause-count : goal.returns-in-Identity-clause-count
returns-in-Identity-clause-count c =
    let a = c.args in
    let h = rw c.in-Identity.is at c.requires.0 in
    rw (c.in-Identity.is, c.min.ensures, c.from.ensures) (sym (identity_leading a.part a.status a.memory.now (length a.output.now) _ h).count)

pub returns-in-Identity-clause-output : goal.returns-in-Identity-clause-output
returns-in-Identity-clause-output c =
    let a = c.args in
    rw c.in-Identity.is (c.show_identity.ensures ∙ sym (identity_bytes a.part a.status a.memory.now (length a.output.now) _))
