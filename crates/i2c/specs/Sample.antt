-- One sample of an I2C part under power: next state, answer, and what is written.
use Rattle.std.specs.Prelude.{ℕ, ◌≡◌, Bool, true, false, List, length, None, Option}
use Rattle.parts.specs.declared.answer.Answer.{Answer}
use Rattle.parts.specs.declared.answer.Answer.TheVariants.{Low, HighZ}
use Rattle.parts.specs.declared.part.Part.{Part}
use Rattle.serial.specs.declared.write.Write.{Write}
use Rattle.transfer.specs.declared.levels.Levels.{Levels}
use Rattle.transfer.specs.declared.edge.Edge.{Edge}
use Rattle.transfer.specs.declared.edge.Edge.TheVariants.{Start, Stop, Rise, Fall, Quiet}
use Rattle.transfer.specs.declared.buffer.AddressBuffer.{AddressBuffer}
use Rattle.transfer.specs.declared.phase.Field.TheVariants.{Word}
use Rattle.transfer.specs.declared.phase.Phase.{Phase}
use Rattle.transfer.specs.declared.phase.Phase.TheVariants.{Rest, Taking}
use Rattle.i2c.specs.declared.sample.I2c.{I2c}
use Rattle.transfer.specs.Edge.{edge_of}
use Rattle.transfer.specs.Phase.{after_rise}
use Rattle.transfer.specs.Buffer.{buffer_after}
use Rattle.i2c.specs.Store.{rise_write}
use Rattle.i2c.specs.Pull.{pulls_after}
use Rattle.transfer.specs.Ranges.{PhaseIn, Placed}

-- SDA is open-drain: the part pulls it low or lets go, and never drives it high
abbrev pub answer_of : Bool → Answer
answer_of true = Low
answer_of false = HighZ

-- what one sample gives
pub record Outcome : Type 0 where
  pub i2c : I2c
  pub answer : Answer
  pub write : Option Write

-- a step to the levels seen, whether the part pulls, an address buffer, a phase, and what is written
abbrev pub step_to : Levels → Bool → AddressBuffer → Phase → Option Write → Outcome
step_to l pulling b ph w =
    record { i2c = record { last = l; pulling = pulling; buffer = b; phase = ph }; answer = answer_of pulling; write = w }

-- what an edge does, with the levels l and a memory that the part may read. At START and STOP the part lets go of the line and forgets
-- a byte that is not whole; it then takes in a word after START, and rests after STOP
abbrev pub step_on : Edge → Part → ℕ → I2c → Levels → List ℕ → Outcome
step_on Start p pins s l m = step_to l false s.buffer (Taking Word 0 0) None
step_on Stop p pins s l m = step_to l false s.buffer Rest None
step_on (Rise line) p pins s l m =
    step_to l s.pulling (buffer_after p s.buffer s.phase) (after_rise p pins s.buffer s.phase line) (rise_write s.phase l.wp)
step_on Fall p pins s l m = step_to l (pulls_after p pins m s.phase) s.buffer s.phase None
step_on Quiet p pins s l m = step_to l s.pulling s.buffer s.phase None

unfoldable pub step_of : Part → ℕ → I2c → Levels → List ℕ → Outcome
step_of p pins s l m = step_on (edge_of s.pulling s.last l) p pins s l m

-- what a step needs: constants that fit, with pins and a buffer of the part, a phase in its ranges, a memory of the part's size
pub record Ready (p : Part) (pins : ℕ) (s : I2c) (m : List ℕ) : Type 0 where
  pub placed : Placed p pins s.buffer
  pub inside : PhaseIn p s.phase
  pub sized : length m ≡ p.size
