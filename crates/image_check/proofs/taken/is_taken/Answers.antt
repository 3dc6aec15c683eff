-- `is_taken` meets its contract, by the tests of 32 bytes in one line. Assumes nothing.
use Rattle.std.proofs.Common.{rules}
use Rattle.image_check.proofs.BusLaws.{taken_tests}
use Rattle.image_check.proofs.taken.is_taken.Goals as goal

pub returns-then-zeros : goal.returns-then-zeros
returns-then-zeros c =
    let image = c.in-Ok.ensures.1 in
    rw (taken_tests c.args.bytes.now image.long, ← image.same) (search rules)

pub returns-else-zeros : goal.returns-else-zeros
returns-else-zeros c =
    let image = c.in-Ok.ensures.1 in
    rw (taken_tests c.args.bytes.now image.long, ← image.same) (search rules)
