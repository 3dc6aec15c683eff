-- A selection as bytes is a list of events, each a sample (kind 04): two for each bit, and the fall and the rise of CS#. What they leave,
-- one after the other or run as one trace, and the buffer, which their answers spell.
use Rattle.std.specs.Prelude.{ℕ, zero, suc, ◌+◌, ◌*◌, ◌≤◌, ◌≡◌, Bool, true, false, List, [], ◌∷◌, ◌++◌, length, take, drop, replicate}
use Rattle.chip.specs.declared.model.Model.{Model}
use Rattle.byte_path.specs.PinPath.{sample_of, bits_of, Back, back_of, last_si, bytes_of, first_driven, driven_count}
use Rattle.byte_path.specs.Select.{Select, select_of}
use Rattle.runs.specs.Run.{Run, run_of}
use Rattle.promise.specs.Lists.{observations, model_after, memory_after}
use Rattle.promise.specs.RunEvents.{numbers_of, answers_of, flags_of}

-- ---- the events

module _ (wp : Bool) where
  -- each bit: SCK rises with SI at the bit, and falls with SI kept
  abbrev pub bit_samples : List Bool → List ℕ
  bit_samples [] = []
  bit_samples (b ∷ bs) = sample_of false true b wp ∷ sample_of false false b wp ∷ bit_samples bs

  -- each byte, its most significant bit first
  abbrev pub byte_samples : List ℕ → List ℕ
  byte_samples [] = []
  byte_samples (v ∷ vs) = bit_samples (bits_of v) ++ byte_samples vs

  -- CS# falls with SCK low and SI 0; the bytes; CS# rises with SCK low and SI at the last bit
  abbrev pub select_samples : List ℕ → List ℕ
  select_samples input = sample_of false false false wp ∷ (byte_samples input ++ (sample_of true false (last_si false input) wp ∷ []))

-- each sample as the bytes of an event
abbrev pub sample_events : List ℕ → List (List ℕ)
sample_events [] = []
sample_events (x ∷ xs) = (4 ∷ x ∷ []) ∷ sample_events xs

-- events as one trace
abbrev pub trace_of : List (List ℕ) → List ℕ
trace_of [] = []
trace_of (t ∷ es) = t ++ trace_of es

abbrev pub pin_events : Bool → List ℕ → List (List ℕ)
pin_events wp input = sample_events (select_samples wp input)

abbrev pub pin_trace : Bool → List ℕ → List ℕ
pin_trace wp input = trace_of (pin_events wp input)

-- ---- the buffer

-- the answers just before the rises of SCK, and before CS# rises: every second one, from that of the fall of CS# on
abbrev pub before_rises : List ℕ → List ℕ
before_rises [] = []
before_rises (a ∷ []) = []
before_rises (a ∷ b ∷ more) = a ∷ before_rises more

-- the bytes of so many times eight answers, the first most significant
abbrev pub bytes_in : ℕ → List ℕ → List Back
bytes_in zero answers = []
bytes_in (suc n) answers = back_of (take 8 answers) ∷ bytes_in n (drop 8 answers)

-- the bytes that n bytes bring back, by the answers of the events
abbrev pub backs_in : ℕ → List ℕ → List Back
backs_in n answers = bytes_in n (before_rises answers)

-- ---- a selection that is accepted

-- the answers of its events
abbrev pub pin_answers : Bool → Model → List ℕ → List ℕ → List ℕ
pin_answers wp s m input = answers_of (observations s m (pin_events wp input))

module _ (wp : Bool) (s : Model) (input output m : List ℕ) where
  abbrev taken : Select
  taken = select_of wp s input output m

  abbrev backs : List Back
  backs = backs_in (length input) (pin_answers wp s m input)

  -- the run of all the events; none is flagged
  abbrev pub pin_run : Run
  pin_run =
      record {
        number = 0;
        model = taken.model;
        count = length (pin_events wp input);
        offset = length (pin_trace wp input);
        flag = length (pin_trace wp input);
        memory = taken.memory;
        answers = pin_answers wp s m input;
      }

  pub record AsEvents : Type 0 where
    -- so many events, of two bytes each
    pub events : length (pin_events wp input) ≡ 16 * length input + 2
    pub bytes : length (pin_trace wp input) ≡ 2 * length (pin_events wp input)
    -- each is accepted, one after the other
    pub accepted : numbers_of (observations s m (pin_events wp input)) ≡ replicate (length (pin_events wp input)) 0
    -- none is flagged: WP# is still from the fall of CS# to its rise
    pub unflagged : flags_of (observations s m (pin_events wp input)) ≡ replicate (length (pin_events wp input)) false
    -- state and memory are those after them
    pub model : model_after s m (pin_events wp input) ≡ taken.model
    pub memory : memory_after s m (pin_events wp input) ≡ taken.memory
    -- the buffer and both figures are what their answers spell
    pub buffer : taken.output ≡ bytes_of backs
    pub first : taken.first ≡ first_driven backs
    pub count : taken.count ≡ driven_count backs
    -- a run of the trace takes them all, with any quota that allows so many
    pub run : (quota : ℕ) → length (pin_events wp input) ≤ quota → run_of quota (pin_trace wp input) s m ≡ pin_run
