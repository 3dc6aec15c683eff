-- `write_rolled` meets its contract: the first stretch ends at the top or is all, and so is each from 0 on. Assumes nothing.
use Rattle.std.proofs.Common.{◌∙◌, ℕ, arith, rules, take-append-drop, length-take, length-drop}
use Rattle.std.proofs.lemmas.Grind.{common_steps}
use Rattle.rolled_write.proofs.WrittenLaws.{written_on}
use Rattle.rolled_write.proofs.write_rolled.Goals as goal

pub loop-stretch-init : goal.loop-stretch-init
loop-stretch-init c =
    let a = c.args in
    let first = c.split_at.result.0.now in
    let rest = c.into_iter-stretch-iterator.result.rest.now in
    record {
      some = search rules;
      size = search rules;
      whole =
          written_on a.start a.memory.now c.write_stretch.new.memory a.address a.bytes.now first rest (search rules) (grind (arith, common_steps, take-append-drop))
          (omega (arith, length-take {A = ℕ}, length-drop {A = ℕ})) c.write_stretch.ensures;
    }

pub loop-stretch-preserved : goal.loop-stretch-preserved
loop-stretch-preserved c =
    let l = c.loop-stretch in
    let x = c.in-Some in
    record {
      some = search rules;
      size = search rules;
      whole =
          written_on c.args.start l.memory _ 0 l.stretch-iterator.rest.now x.stretch.now _ (search rules) x.ensures.steps.1.0 (search rules) c.write_stretch-in-loop-stretch.ensures
          ∙ l.invariant.whole;
    }
