-- `spi_takes` meets its contract, by its tests in one line. Assumes nothing.
use Rattle.std.proofs.Common.{rules}
use Rattle.image_check.proofs.BusLaws.{spi_tests}
use Rattle.image_check.proofs.fields.spi_takes.Goals as goal

pub returns-then-eq : goal.returns-then-eq
returns-then-eq c = rw (spi_tests c.args.part c.args.fields c.requires.1) (search rules)

pub returns-else-eq : goal.returns-else-eq
returns-else-eq c = rw (spi_tests c.args.part c.args.fields c.requires.1) (search rules)
