-- `on_fields` meets its contract: a sample in range and an expected answer are what the fields give, and of anything else nothing is said.
-- Assumes nothing.
use native.Mathlib.Omega.{arith}
use Rattle.image_run.proofs.ExpectedLaws.{expected_told}
use Rattle.image_run.proofs.SampleLaws.{read_back, known, ready, spi_told, i2c_told}
use Rattle.image_run.proofs.fields.on_fields.Goals as goal

pub expected_on-requires : goal.expected_on-requires
expected_on-requires c =
    read_back _ _ c.requires.0 c.requires.1 _ c.in-Ok.ensures.1.same _ c.fields_in-fields.ensures

pub returns-then-kind : goal.returns-then-kind
returns-then-kind c =
    expected_told _ _ _ c.requires.1 _ c.in-Ok.ensures.1.same _ c.fields_in-fields.ensures c.in-len2-up.len_at_least c.if-kind.true _ c.expected_on.ensures

pub part_of-part-requires : goal.part_of-part-requires
part_of-part-requires c =
    rw c.from.ensures (known _ _ c.requires.0 c.requires.1 _ c.in-Ok.ensures.1.same _ c.fields_in-fields.ensures)

pub spi_sample-requires : goal.spi_sample-requires
spi_sample-requires c =
    ready _ _ c.requires.0 c.requires.1 _ c.in-Ok.ensures.1.same _ c.fields_in-fields.ensures c.from.ensures c.part_of-part.ensures c.in-1.is (omega arith)

pub returns-in-1 : goal.returns-in-1
returns-in-1 c =
    spi_told _ _ _ c.requires.1 _ c.in-Ok.ensures.1.same _ c.fields_in-fields.ensures _ c.in-1.is c.in-len2-up.len_at_least c.if-kind-2.false (omega arith) c.spi_sample.ensures

pub i2c_sample-requires : goal.i2c_sample-requires
i2c_sample-requires c =
    ready _ _ c.requires.0 c.requires.1 _ c.in-Ok.ensures.1.same _ c.fields_in-fields.ensures c.from.ensures c.part_of-part.ensures c.in-2.is (omega arith)

pub returns-in-2 : goal.returns-in-2
returns-in-2 c =
    i2c_told _ _ _ c.requires.1 _ c.in-Ok.ensures.1.same _ c.fields_in-fields.ensures _ c.in-2.is c.in-len2-up.len_at_least c.if-kind-2.false (omega arith) c.i2c_sample.ensures
