-- `i2c_sample` meets its contract, by the edge between the samples. Assumes nothing.
use Rattle.image_sample.proofs.I2cLaws.{fall_ready, rise_ready, start, stop, rise, fall, quiet}
use Rattle.image_sample.proofs.i2c_sample.i2c_sample.Goals as goal

pub rise-requires : goal.rise-requires
rise-requires c =
    rise_ready _ _ _ c.args.memory.now c.requires c.if-fields-lt8.true

pub fall-requires : goal.fall-requires
fall-requires c =
    fall_ready _ _ _ c.args.memory.now c.requires

pub returns-in-Start : goal.returns-in-Start
returns-in-Start c =
    start _ _ _ _ c.requires c.from-before.ensures c.from-levels.ensures c.from.ensures c.flag_of-flag.ensures c.edge_of.ensures c.in-Start.is c.start.ensures c.done.ensures

pub returns-in-Stop : goal.returns-in-Stop
returns-in-Stop c =
    stop _ _ _ _ c.requires c.from-before.ensures c.from-levels.ensures c.from.ensures c.flag_of-flag.ensures c.edge_of.ensures c.in-Stop.is c.stop.ensures c.done-in-Stop.ensures

pub returns-in-Rise : goal.returns-in-Rise
returns-in-Rise c =
    rise _ _ _ _ c.requires c.from-before.ensures c.from-levels.ensures c.from.ensures c.flag_of-flag.ensures c.edge_of.ensures c.in-Rise.is c.if-fields-lt8.true c.rise.ensures c.done-in-Rise.ensures

pub returns-in-Fall : goal.returns-in-Fall
returns-in-Fall c =
    fall _ _ _ _ c.requires c.from-before.ensures c.from-levels.ensures c.from.ensures c.flag_of-flag.ensures c.edge_of.ensures c.in-Fall.is c.fall.ensures c.done-in-Fall.ensures

pub returns-in-Quiet : goal.returns-in-Quiet
returns-in-Quiet c =
    quiet _ _ _ _ c.requires c.from-before.ensures c.from-levels.ensures c.from.ensures c.flag_of-flag.ensures c.edge_of.ensures c.in-Quiet.is c.quiet.ensures c.done-in-Quiet.ensures
