-- `other_event` meets its contract, by what the bus waits for. Assumes nothing.
use Rattle.events.proofs.OtherEventLaws.{gives_unpowered}
use Rattle.events.proofs.event.other_event.Goals as goal

pub returns-in-Unpowered : goal.returns-in-Unpowered
returns-in-Unpowered c =
    let a = c.args in
    rw c.on_unpowered.ensures (gives_unpowered a.model a.event c.in-Unpowered.is)
