-- The event at the front of some bytes, or why there is none. The first byte is its kind, which says how many bytes it has in all;
-- those after it are not looked at (document 01, Models and events).
use Rattle.std.specs.Prelude.{ℕ, ◌+◌, ◌*◌, Bool, true, false, cond, not, List, eqb, ltb, length, get_or, Result, Ok, Err}
use Rattle.parts.specs.declared.part.Bus.{Bus}
use Rattle.parts.specs.declared.part.Part.{Part}
use Rattle.parts.specs.declared.refusal.Refusal.{Refusal}
use Rattle.parts.specs.declared.refusal.Refusal.TheVariants.{UnknownKind, Truncated, SampleRange, StartRange, ExpectedRange}
use Rattle.parts.specs.Table.{is_spi}
use Rattle.trace.specs.declared.event.Event.{Event}
use Rattle.trace.specs.declared.event.Event.TheVariants.{SpiPowerOn, I2cPowerOn, PowerOff, Sample, Expected}
use Rattle.trace.specs.Event.{sample_in, start_in, expected_in}

-- an event and how many bytes it takes, or why there is none and how far after the kind's byte the fault lies
abbrev pub Read : Type 0
Read = Result (Event × ℕ) (Refusal × ℕ)

pattern abbrev pub Whole : Event → ℕ → Read
Whole e n = Ok (e, n)

pattern abbrev pub Refused : Refusal → ℕ → Read
Refused r place = Err (r, place)

-- power off (03), sample (04) and expected answer (05) are known on both buses; power on is 01 on SPI alone and 02 on I2C alone
abbrev pub known_kind : Bus → ℕ → Bool
known_kind bus k =
    cond (eqb k 1) (is_spi bus) (cond (eqb k 2) (not (is_spi bus)) (cond (eqb k 3) true (cond (eqb k 4) true (cond (eqb k 5) true false))))

-- the kind's byte, with four bytes of body for 02, none for 03 and one for the others
abbrev pub event_length : ℕ → ℕ
event_length k = cond (eqb k 2) 5 (cond (eqb k 3) 1 2)

-- of three bytes, the high one first
abbrev pub start_address : ℕ → ℕ → ℕ → ℕ
start_address high middle low = 65536 * high + 256 * middle + low

-- the event of a known kind from its bytes
abbrev pub parsed_event : ℕ → List ℕ → Event
parsed_event k t =
    cond (eqb k 1) (SpiPowerOn (get_or t 1 0))
    (cond (eqb k 2) (I2cPowerOn (get_or t 1 0) (start_address (get_or t 2 0) (get_or t 3 0) (get_or t 4 0)))
    (cond (eqb k 3) PowerOff
    (cond (eqb k 4) (Sample (get_or t 1 0))
    (Expected (get_or t 1 0)))))

-- an event of n bytes that are all there: numbers 6, 10 and 11, in that order. Each points at the first byte of its field: a sample or
-- an expected answer comes right after the kind's byte, a start address after the sample (document 02, ask 1)
abbrev pub fields_read : Part → Event → ℕ → Read
fields_read p e n =
    cond (sample_in p e)
    (cond (start_in p e)
    (cond (expected_in e) (Whole e n)
    (Refused ExpectedRange 1))
    (Refused StartRange 2))
    (Refused SampleRange 1)

-- numbers 4 and 5, which point at the kind's byte, then those of the fields; an empty event is 5
unfoldable pub read_of : Part → List ℕ → Read
read_of p t =
    cond (eqb (length t) 0) (Refused Truncated 0)
    (cond (known_kind p.bus (get_or t 0 0))
    (cond (ltb (length t) (event_length (get_or t 0 0))) (Refused Truncated 0)
    (fields_read p (parsed_event (get_or t 0 0) t) (event_length (get_or t 0 0))))
    (Refused UnknownKind 0))

-- how far after its kind's byte a refused event is pointed at: where the reader found the fault, and 0 if the event was read whole
abbrev pub place_of : Read → ℕ
place_of (Whole e n) = 0
place_of (Refused r place) = place
