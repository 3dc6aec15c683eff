-- Where the warning flag is set and where not (document 02, ask 2): an event in the midst of others, for each clause of the request.
use Rattle.std.specs.Prelude.{ℕ, ◌-◌, ◌≡◌, Bool, true, false, cond, List, [], ◌∷◌, ◌++◌, eqb, length}
use Rattle.runs.specs.Run.{Run, run_of}
use Rattle.worked_examples.specs.Traces.{Step, step_bytes, sample, step, power_off, spelled, spi_on, sent, command, i2c_on, taken, start, stop, word, put, given}
use Rattle.worked_examples.specs.Cases.{made_of}

-- on a part just made with pins and bits 0: events that are not flagged, one that is or is not, and bytes behind it. The answers beside
-- the events are not compared here
pub record Move : Type 0 where
  pub part : ℕ
  pub size : ℕ
  pub before : List Step
  pub event : List ℕ
  pub behind : List ℕ
  pub flagged : Bool
  -- 0, or that of a sample out of range: the event, or the last one behind it
  pub number : ℕ

abbrev pub trace_of : Move → List ℕ
trace_of x = step_bytes x.before ++ x.event ++ x.behind

-- the offset of the first flagged event: that of the event, or the length of the trace
abbrev pub flag_wanted : Move → ℕ
flag_wanted x = cond x.flagged (length (step_bytes x.before)) (length (trace_of x))

-- all of the trace is taken, or all but its last event, whose sample is its last byte
abbrev pub offset_wanted : Move → ℕ
offset_wanted x = cond (eqb x.number 0) (length (trace_of x)) (length (trace_of x) - 1)

-- a run of the whole trace gives these, on every memory of the part's size
pub record Gives (x : Move) (r : Run) : Type 0 where
  pub number : r.number ≡ x.number
  pub offset : r.offset ≡ offset_wanted x
  pub flag : r.flag ≡ flag_wanted x

abbrev pub Points : Move → Type 0
Points x = (m : List ℕ) → length m ≡ x.size → Gives x (run_of (length (trace_of x)) (trace_of x) (made_of x.part 0 0) m)

abbrev spi_refused : List Step → ℕ → List ℕ → Bool → ℕ → Move
spi_refused before x behind set n = record { part = 0; size = 4096; before = before; event = 4 ∷ x ∷ []; behind = behind; flagged = set; number = n }

abbrev spi : List Step → ℕ → List ℕ → Bool → Move
spi before x behind set = spi_refused before x behind set 0

abbrev i2c_refused : List Step → ℕ → List ℕ → Bool → ℕ → Move
i2c_refused before x behind set n = record { part = 3; size = 8192; before = before; event = 4 ∷ x ∷ []; behind = behind; flagged = set; number = n }

abbrev i2c : List Step → ℕ → Bool → Move
i2c before x set = i2c_refused before x [] set 0

-- SPI samples have CS# 1, SCK 2, SI 4, WP# 8 and HOLD# 16
unfoldable pub spi_moves : List Move
spi_moves =
    -- in a selection, WP# falling and rising; of two moves the first counts
    spi (spi_on ++ sample 24 2) 16 (4 ∷ 24 ∷ 4 ∷ 25 ∷ []) true
    ∷ spi (spi_on ++ sample 16 2) 24 (3 ∷ []) true
    -- with a counted rise of SCK
    ∷ spi (spi_on ++ sample 24 2) 18 [] true
    -- as CS# falls, as it rises, and while it is 1
    ∷ spi spi_on 16 [] false
    ∷ spi (spi_on ++ sample 24 2) 17 [] false
    ∷ spi spi_on 17 (4 ∷ 25 ∷ []) false
    -- while the part is held, and as a hold begins
    ∷ spi (spi_on ++ sample 24 2 ++ sample 8 2) 0 [] true
    ∷ spi (spi_on ++ sample 24 2) 0 [] true
    -- in a selection that the part ignores, after an opcode that it lacks
    ∷ spi (spi_on ++ sample 24 2 ++ sent 24 (0x9f ∷ [])) 22 [] true
    -- CS# is 0 at power on, whose sample is the one before
    ∷ spi (step (1 ∷ 24 ∷ []) 2) 16 [] true
    -- an expected answer is no sample: the one before it counts
    ∷ spi (spi_on ++ sample 24 2 ++ step (5 ∷ 2 ∷ []) 2) 16 [] true
    -- a refused sample is not flagged; a flag stands though a later event is refused
    ∷ spi_refused (spi_on ++ sample 24 2) 32 [] false 6
    ∷ spi_refused (spi_on ++ sample 24 2) 16 (4 ∷ 32 ∷ []) true 6
    -- power on begins anew: its sample is the one before, and is not flagged itself
    ∷ spi (spi_on ++ sample 24 2 ++ power_off ++ step (1 ∷ 17 ∷ []) 2 ++ sample 16 2) 24 [] true
    ∷ spi (spi_on ++ sample 24 2 ++ power_off ++ step (1 ∷ 16 ∷ []) 2) 16 [] false
    -- asleep: the selection that wakes part 1
    ∷ record { part = 1; size = 131072; before = spi_on ++ command 24 (0xb9 ∷ []) ++ sample 24 2; event = 4 ∷ 16 ∷ []; behind = []; flagged = true; number = 0 }
    ∷ []

-- I2C samples have SCL 1, SDA 2 and WP 4
unfoldable pub i2c_moves : List Move
i2c_moves =
    -- at rest, from power on and after STOP
    i2c (i2c_on 0) 7 false
    ∷ i2c (i2c_on 0 ++ start ++ stop) 7 false
    -- at the START that ends the rest; right after it; at a START in a transfer; at STOP
    ∷ i2c (i2c_on 0) 5 false
    ∷ i2c (i2c_on 0 ++ start) 5 true
    ∷ i2c (i2c_on 0 ++ start ++ sample 0 2 ++ sample 2 2 ++ sample 3 2) 5 true
    ∷ i2c (i2c_on 0 ++ start) 7 true
    -- WP falling; of two moves the first counts; with a fall and with a rise of SCL
    ∷ i2c (step (2 ∷ 7 ∷ 0 ∷ 0 ∷ 0 ∷ []) 2 ++ sample 5 2) 1 true
    ∷ i2c_refused (i2c_on 0 ++ start) 5 (4 ∷ 1 ∷ 4 ∷ 3 ∷ []) true 0
    ∷ i2c (i2c_on 0 ++ start) 4 true
    ∷ i2c (i2c_on 0 ++ start ++ sample 0 2) 5 true
    -- in a word, after a write word, after an address, at the ninth rise of a data byte, after a read word
    ∷ i2c (i2c_on 0 ++ start ++ sample 0 2) 4 true
    ∷ i2c (i2c_on 0 ++ word 0xa0 0) 7 true
    ∷ i2c (i2c_on 0 ++ put 0xa0 (0 ∷ 0 ∷ []) []) 7 true
    ∷ i2c (i2c_on 0 ++ put 0xa0 (0 ∷ 0 ∷ []) [] ++ spelled taken 0x5a 0 8 ++ sample 2 0) 7 true
    ∷ i2c (i2c_on 0 ++ word 0xa1 0) 7 true
    -- while the part ignores the bus: after another word, and after a master's high
    ∷ i2c (i2c_on 0 ++ word 0x08 2) 7 true
    ∷ i2c (i2c_on 0 ++ word 0xa1 0 ++ given true 0xff) 7 true
    -- an expected answer is no sample; a refused sample is not flagged; a power off ends the transfer
    ∷ i2c (i2c_on 0 ++ start ++ step (5 ∷ 2 ∷ []) 2) 5 true
    ∷ i2c_refused (i2c_on 0 ++ start) 8 [] false 6
    ∷ i2c_refused (i2c_on 0 ++ start) 5 (4 ∷ 8 ∷ []) true 6
    ∷ i2c (i2c_on 0 ++ start ++ power_off ++ i2c_on 0) 7 false
    ∷ []
