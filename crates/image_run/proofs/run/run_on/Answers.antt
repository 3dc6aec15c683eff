-- `run_on` meets its contract: the run of the image's state, and the image of the state that it reached. Assumes nothing.
use mathlib.Core.Path.{ap}
use Rattle.runs.specs.Figures.{Figures}
use Rattle.runs.specs.Run.{loop_of}
use Rattle.runs.proofs.RunRule.{loop_sound}
use Rattle.image.specs.Taken.{state_of}
use Rattle.image.proofs.TakenLaws.{taken_long}
use Rattle.calls.proofs.InRange.{sound_range}
use Rattle.image_run.proofs.run.run_on.Goals as goal

pub state_of-model-requires : goal.state_of-model-requires
state_of-model-requires c = taken_long _ c.requires.0

pub put_image-requires : goal.put_image-requires
put_image-requires c =
    let a = c.args in
    let s = state_of a.state.now in
    let model = ap (λ (x : Figures). x.model) c.replay_checked-ran.ensures.ran in (
      taken_long _ c.requires.0,
      rw (model, c.state_of-model.ensures)
          (sound_range (loop_of a.quota a.trace.now s a.memory.now).model (loop_of a.quota a.trace.now s a.memory.now).memory (loop_sound a.quota a.trace.now s a.memory.now c.requires.1)),
    )
