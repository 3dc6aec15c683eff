-- `spi_sample` meets its contract, by the edge between the samples. Assumes nothing.
use Rattle.image_sample.proofs.SpiLaws.{ready, fall_ready, rise_ready, select, deselect, rise, fall, quiet}
use Rattle.image_sample.proofs.spi_sample.spi_sample.Goals as goal

pub early-requires : goal.early-requires
early-requires c =
    (ready _ _ _ c.args.memory.now c.requires).fit

pub rise-requires : goal.rise-requires
rise-requires c =
    rise_ready _ _ _ c.args.memory.now c.requires c.early.ensures c.if-fields-early.true

pub fall-requires : goal.fall-requires
fall-requires c =
    fall_ready _ _ _ c.args.memory.now c.requires

pub returns-in-Select : goal.returns-in-Select
returns-in-Select c =
    select _ _ _ _ c.requires c.from-before.ensures c.from-levels.ensures c.flag_of-flag.ensures c.edge_of.ensures c.in-Select.is c.select.ensures c.done.ensures

pub returns-in-Deselect : goal.returns-in-Deselect
returns-in-Deselect c =
    deselect _ _ _ _ c.requires c.from-before.ensures c.from-levels.ensures c.flag_of-flag.ensures c.edge_of.ensures c.in-Deselect.is c.if-fields-lt-PENDING.true c.deselect.ensures c.done-in-Deselect.ensures

pub returns-in-Rise : goal.returns-in-Rise
returns-in-Rise c =
    rise _ _ _ _ c.requires c.from-before.ensures c.from-levels.ensures c.flag_of-flag.ensures c.edge_of.ensures c.in-Rise.is c.early.ensures c.if-fields-early.true c.rise.ensures c.done-in-Rise.ensures

pub returns-in-Fall : goal.returns-in-Fall
returns-in-Fall c =
    fall _ _ _ _ c.requires c.from-before.ensures c.from-levels.ensures c.flag_of-flag.ensures c.edge_of.ensures c.in-Fall.is c.fall.ensures c.done-in-Fall.ensures

pub returns-in-Quiet : goal.returns-in-Quiet
returns-in-Quiet c =
    quiet _ _ _ _ c.requires c.from-before.ensures c.from-levels.ensures c.flag_of-flag.ensures c.edge_of.ensures c.in-Quiet.is c.quiet.ensures c.done-in-Quiet.ensures
