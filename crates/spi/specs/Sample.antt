-- One sample of an SPI part under power: next status register and state, answer, and what is written.
use Rattle.std.specs.Prelude.{ℕ, ◌≡◌, Bool, true, false, List, length, None, Option}
use Rattle.parts.specs.declared.answer.Answer.{Answer}
use Rattle.parts.specs.declared.answer.Answer.TheVariants.{HighZ}
use Rattle.parts.specs.declared.part.Part.{Part}
use Rattle.parts.specs.declared.status.Status.{Status}
use Rattle.parts.specs.Table.{Fit}
use Rattle.serial.specs.declared.write.Write.{Write}
use Rattle.selection.specs.declared.levels.Levels.{Levels}
use Rattle.selection.specs.declared.edge.Edge.{Edge}
use Rattle.selection.specs.declared.edge.Edge.TheVariants.{Select, Deselect, Rise, Fall, Quiet}
use Rattle.selection.specs.declared.phase.Field.TheVariants.{Opcode}
use Rattle.selection.specs.declared.phase.Phase.{Phase}
use Rattle.selection.specs.declared.phase.Phase.TheVariants.{Rest, Ignoring, Taking}
use Rattle.spi.specs.declared.sample.Spi.{Spi}
use Rattle.selection.specs.Edge.{edge_of}
use Rattle.selection.specs.Phase.{after_rise}
use Rattle.spi.specs.Store.{rise_write, end_write}
use Rattle.spi.specs.Show.{after_fall, answer_at}
use Rattle.spi_status.specs.Deselect.{status_after, asleep_after}
use Rattle.selection.specs.Ranges.{PhaseIn}

-- the phase after CS# falls: a part that sleeps ignores the selection
abbrev pub selected : Bool → Phase
selected true = Ignoring
selected false = Taking Opcode 0 0

-- what one sample gives
pub record Outcome : Type 0 where
  pub status : Status
  pub spi : Spi
  pub answer : Answer
  pub write : Option Write

-- a step to a status register, the levels seen, whether the part sleeps, what is shown, a phase, and what is written
abbrev pub step_to : Status → Levels → Bool → Answer → Phase → Option Write → Outcome
step_to st l z shown ph w =
    record { status = st; spi = record { last = l; asleep = z; shown = shown; phase = ph }; answer = answer_at l shown; write = w }

-- what an edge does, with the levels l and a memory that the part may read
abbrev pub step_on : Edge → Part → Status → Spi → Levels → List ℕ → Outcome
step_on Select p st s l m = step_to st l s.asleep HighZ (selected s.asleep) None
step_on Deselect p st s l m = step_to (status_after st l.wp s.phase) l (asleep_after s.asleep s.phase) HighZ Rest (end_write p st s.phase)
step_on (Rise b) p st s l m = step_to st l s.asleep s.shown (after_rise p s.phase b) (rise_write p st s.phase b)
step_on Fall p st s l m = step_to st l s.asleep (after_fall p st m s.phase s.shown) s.phase None
step_on Quiet p st s l m = step_to st l s.asleep s.shown s.phase None

unfoldable pub step_of : Part → Status → Spi → Levels → List ℕ → Outcome
step_of p st s l m = step_on (edge_of s.last l) p st s l m

-- what a step needs: constants that fit, a phase in its ranges, a memory of the part's size
pub record Ready (p : Part) (s : Spi) (m : List ℕ) : Type 0 where
  pub fit : Fit p
  pub inside : PhaseIn p s.phase
  pub sized : length m ≡ p.size
