-- `i2c_takes` meets its contract, by its tests in one line. Assumes nothing.
use Rattle.std.proofs.Common.{rules}
use Rattle.image_check.proofs.BusLaws.{i2c_tests}
use Rattle.image_check.proofs.fields.i2c_takes.Goals as goal

pub returns-then-latch_clear : goal.returns-then-latch_clear
returns-then-latch_clear c = rw (i2c_tests c.args.part c.args.fields c.requires) (search rules)

pub returns-else-latch_clear : goal.returns-else-latch_clear
returns-else-latch_clear c = rw (i2c_tests c.args.part c.args.fields c.requires) (search rules)
