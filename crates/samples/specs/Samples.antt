-- Consecutive samples of a part under power, with expected answers that hold among them: the events of a run up to the first other
-- one.
use Rattle.std.specs.Prelude.{ℕ, zero, suc, ◌+◌, Bool, false, cond, List, [], ◌∷◌, eqb, ltb, length, drop, get_or}
use Rattle.parts.specs.declared.answer.Answer.{Answer}
use Rattle.parts.specs.declared.part.Bus.TheVariants.{Spi, I2c}
use Rattle.parts.specs.Numbers.{answer_number}
use Rattle.trace.specs.Event.{sample_limit}
use Rattle.trace.specs.Sample.{stays_first, first_event}
use Rattle.selection.specs.declared.levels.Levels as SpiLevels
use Rattle.selection.specs.declared.phase.Phase as SpiPhase
use Rattle.spi.specs.declared.sample.Spi as SpiState
use Rattle.spi.specs.Show as SpiShow
use Rattle.transfer.specs.declared.buffer.AddressBuffer.{AddressBuffer}
use Rattle.transfer.specs.declared.levels.Levels as I2cLevels
use Rattle.transfer.specs.declared.phase.Phase as I2cPhase
use Rattle.i2c.specs.declared.sample.I2c as I2cState
use Rattle.i2c.specs.Sample as I2cSample
use Rattle.chip.specs.declared.model.BusState.{BusState}
use Rattle.chip.specs.declared.model.BusState.TheVariants.{Unpowered, SpiOn, I2cOn}
use Rattle.chip.specs.declared.model.Model.{Model}
use Rattle.events.specs.Event.{Outcome, advance_of}
use Rattle.events.specs.Flag.{flag_from, first_flag}
use Rattle.samples.specs.declared.progress.Progress.{Progress}

-- state, count of events, bytes taken, the offset of the first flagged one or the length of the trace, memory and answers
pub record Samples : Type 0 where
  pub model : Model
  pub count : ℕ
  pub offset : ℕ
  pub flag : ℕ
  pub memory : List ℕ
  pub answers : List ℕ

abbrev pub none : List ℕ → Model → List ℕ → Samples
none t s m = record { model = s; count = 0; offset = 0; flag = length t; memory = m; answers = [] }

-- one event with this answer, flagged or not, before others
abbrev pub one : ℕ → Bool → Samples → Samples
one a f r =
    record {
      model = r.model;
      count = 1 + r.count;
      offset = 2 + r.offset;
      flag = flag_from f 2 r.flag;
      memory = r.memory;
      answers = a ∷ r.answers;
    }

-- whether the next event is a sample in range, or an expected answer that holds, of a part under power
abbrev pub stays_on : BusState → List ℕ → Bool
stays_on Unpowered t = false
stays_on (SpiOn x) t = stays_first (sample_limit Spi) (answer_number (SpiShow.answer_at x.last x.shown)) t
stays_on (I2cOn x) t = stays_first (sample_limit I2c) (answer_number (I2cSample.answer_of x.pulling)) t

-- what that event does
abbrev pub first_done : Model → List ℕ → List ℕ → Outcome
first_done s m t = advance_of s m (first_event t)

-- at most `quota` of them from the front of t
unfoldable pub samples_of : ℕ → List ℕ → Model → List ℕ → Samples
samples_of zero t s m = none t s m
samples_of (suc quota) t s m =
    cond (stays_on s.bus t)
    (one (first_done s m t).result.answer (first_done s m t).result.flag
    (samples_of quota (drop 2 t) (first_done s m t).result.model (first_done s m t).memory))
    (none t s m)

-- ---- how far a run has come with them

abbrev pub progress : Model → ℕ → ℕ → ℕ → Progress
progress s c o f = record { model = s; count = c; offset = o; flag = f }

-- after c events and o bytes before them, of a trace of n bytes whose first flag before them is at f
abbrev pub progress_by : ℕ → ℕ → ℕ → ℕ → Samples → Progress
progress_by n f c o r = progress r.model (c + r.count) (o + r.offset) (first_flag n f (o + r.flag))

-- whether one more event is allowed and t begins with a sample below the limit, or with this expected answer
abbrev pub next_is : ℕ → ℕ → ℕ → ℕ → List ℕ → Bool
next_is limit answer quota count t = cond (ltb count quota) (stays_first limit answer t) false

-- the sample that the event at the front of t amounts to, after the sample last: an expected answer that holds changes nothing, like
-- a sample with the same levels
abbrev pub first_sample : ℕ → List ℕ → ℕ
first_sample last t = cond (eqb (get_or t 0 0) 4) (get_or t 1 0) last

-- ---- the state of a bus, from its parts

abbrev pub spi_of : SpiLevels.Levels → Bool → Answer → SpiPhase.Phase → SpiState.Spi
spi_of l z shown ph = record { last = l; asleep = z; shown = shown; phase = ph }

abbrev pub i2c_of : I2cLevels.Levels → Bool → AddressBuffer → I2cPhase.Phase → I2cState.I2c
i2c_of l z buffer ph = record { last = l; pulling = z; buffer = buffer; phase = ph }
