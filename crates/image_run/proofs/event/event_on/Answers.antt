-- `event_on` meets its contract: by the fields of the image, or on its state. Assumes nothing.
use Rattle.image.proofs.TakenLaws.{taken_long}
use Rattle.image_run.proofs.EventLaws.{step_gave}
use Rattle.image_run.proofs.event.event_on.Goals as goal

pub put_fields-requires : goal.put_fields-requires
put_fields-requires c = taken_long _ c.requires.0

pub returns-in-Some : goal.returns-in-Some
returns-in-Some c =
    let g = step_gave _ _ _ c.requires.0 c.requires.1 c.in-Some.stepped _ c.on_fields.ensures c.in-Some.is _ c.of_number.ensures in
    record { told = g.0; state = rw c.put_fields.ensures g.1; memory = g.2 }
