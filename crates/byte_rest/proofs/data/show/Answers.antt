-- `show` meets its contract: where nothing is shown every byte is 255, and none is driven. Assumes nothing.
use Rattle.std.proofs.Common.{length, sym, arith}
use Rattle.std.proofs.lemmas.Grind.{common_steps}
use Rattle.byte_rest.proofs.BackLaws.{quiet_rest, all_quiet, all_quiet_bytes}
use Rattle.byte_rest.proofs.data.show.Goals as goal

pub returns-in_default-clause-output : goal.returns-in_default-clause-output
returns-in_default-clause-output c =
    let a = c.args in
    let n = length a.output.now in
    let filled = c.fill.ensures.after (λ y e. e) in
    rw (quiet_rest a.part a.status a.memory.now a.phase n c.in_default.not-Showing, all_quiet_bytes n) (grind (arith, common_steps, filled))

pub returns-in_default-clause-count : goal.returns-in_default-clause-count
returns-in_default-clause-count c =
    let a = c.args in
    let n = length a.output.now in
    rw (quiet_rest a.part a.status a.memory.now a.phase n c.in_default.not-Showing) (sym (all_quiet n).count)
