-- `expected_on` meets its contract: the present answer by the bus, or nothing. Assumes nothing.
use mathlib.Core.Path.{◌∙◌}
use Rattle.image_run.proofs.ExpectedLaws.{spi_held, i2c_held}
use Rattle.image_run.proofs.expected.expected_on.Goals as goal

pub returns-in-1 : goal.returns-in-1
returns-in-1 c =
    spi_held c.args.fields c.requires c.args.value _ c.held.ensures c.in-1.is (c.if-value-shown.true ∙ c.shown.ensures)

pub returns-in-2 : goal.returns-in-2
returns-in-2 c =
    i2c_held c.args.fields c.requires c.args.value _ c.held-in-2.ensures c.in-2.is c.if-value-fields.true
