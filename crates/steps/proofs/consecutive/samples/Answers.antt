-- `samples` meets its contract, by the bus. Assumes nothing.
use mathlib.Core.Path.{sym}
use Rattle.samples.proofs.SamplesLaws.{three, none_unpowered}
use Rattle.steps.proofs.consecutive.samples.Goals as goal

pub returns-in-Unpowered : goal.returns-in-Unpowered
returns-in-Unpowered c =
    let a = c.args in
    let e = three _ _ (none_unpowered a.trace.now a.quota a.from.flag a.from.count a.from.offset a.from.model a.memory.now a.answers.now c.requires.2 c.in-Unpowered.is) in
    record { progress = sym e.0; memory = sym e.1; answers = sym e.2 }
