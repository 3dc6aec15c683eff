-- Single events and makings that are refused: document 01's table 'Numbers given back' with 10 and 11 of document 02, each number alone
-- and with a reason for a later number beside it. No event can have the reasons of both 10 and 11 (02, 05), of both 10 and 7 (02 needs no
-- power), of both 7 and 8 (no power, power is on) or of both 8 and 9 (01 or 02, 05).
use Rattle.std.specs.Prelude.{ℕ, zero, suc, ◌+◌, ◌≡◌, true, false, List, [], ◌∷◌, ◌++◌, map, length}
use Rattle.parts.specs.declared.answer.Answer.TheVariants.{HighZ}
use Rattle.parts.specs.declared.status.Status.{Status}
use Rattle.parts.specs.Status.{cleared, with_wel}
use Rattle.selection.specs.Levels as SpiLevels
use Rattle.selection.specs.declared.phase.Field.TheVariants as SpiFields
use Rattle.selection.specs.declared.phase.Source.TheVariants as SpiSources
use Rattle.selection.specs.declared.phase.Phase as SpiPhase
use Rattle.selection.specs.declared.phase.Phase.TheVariants as SpiPhases
use Rattle.transfer.specs.declared.phase.Field.TheVariants as I2cFields
use Rattle.transfer.specs.declared.phase.Phase as I2cPhase
use Rattle.transfer.specs.declared.phase.Phase.TheVariants as I2cPhases
use Rattle.transfer.specs.Levels as I2cLevels
use Rattle.power.specs.Power.{spi_start, i2c_start}
use Rattle.chip.specs.declared.model.BusState.TheVariants.{SpiOn, I2cOn}
use Rattle.chip.specs.declared.model.Model.{Model}
use Rattle.chip.specs.Model.{model_of, unpowered}
use Rattle.events.specs.Reply.{Reply}
use Rattle.events.specs.Event.{keeping}
use Rattle.runs.specs.Event.{event_of}
use Rattle.runs.specs.Run.{stop_at, run_of}
use Rattle.model.specs.Make.{make_of}
use Rattle.worked_examples.specs.Cases.{made_of}

pub record Refusal : Type 0 where
  pub model : Model
  -- the length of a memory that holds any bytes
  pub size : ℕ
  pub event : List ℕ
  pub number : ℕ
  -- where a run points, counted from the kind byte
  pub place : ℕ

-- at the kind byte
abbrev pub refusal : Model → ℕ → List ℕ → ℕ → Refusal
refusal s size e n = record { model = s; size = size; event = e; number = n; place = 0 }

-- at a field
abbrev pub bad_field : Model → ℕ → List ℕ → ℕ → ℕ → Refusal
bad_field s size e n place = record { model = s; size = size; event = e; number = n; place = place }

-- the number, answer 2, no flag and the given state
abbrev pub answer_to : Refusal → Reply
answer_to x = record { number = x.number; answer = 2; flag = false; model = x.model }

-- on every memory of the length the event gives these, and the memory as it was
abbrev pub EventRefused : Refusal → Type 0
EventRefused x = (m : List ℕ) → length m ≡ x.size → event_of x.model m x.event ≡ keeping m (answer_to x)

-- and a run of it alone stops with the number and points at the place, state and memory as they were and nothing accepted
abbrev pub RunRefused : Refusal → Type 0
RunRefused x = (m : List ℕ) → length m ≡ x.size → run_of 1 x.event x.model m ≡ stop_at x.number x.place x.event x.model m

-- ---- the states

-- part 0 just made and under power, and part 3 just made
abbrev pub off : Model
off = made_of 0 0 0

abbrev pub on : Model
on = model_of 0 0 cleared (SpiOn (spi_start (SpiLevels.levels_of 25)))

abbrev pub off3 : Model
off3 = made_of 3 0 0

-- WEL set, BP1 set
abbrev pub latched : Status
latched = with_wel cleared true

abbrev pub halved : Status
halved = record { srwd = false; bp1 = true; bp0 = false; wel = false }

-- part and status register, with the bus of an I2C part that rests and this address in its buffer
abbrev pub on_i2c : ℕ → Status → ℕ → Model
on_i2c part st a = model_of part 0 st (I2cOn (i2c_start (I2cLevels.levels_of 3) a))

-- an SPI part, and part 3 with an address of 0 in its buffer, in a phase
abbrev pub in_spi : ℕ → SpiPhase.Phase → Model
in_spi part ph = model_of part 0 cleared (SpiOn (record { last = SpiLevels.levels_of 24; asleep = false; shown = HighZ; phase = ph }))

abbrev pub in_i2c : I2cPhase.Phase → Model
in_i2c ph =
    model_of 3 0 cleared
    (I2cOn (record { last = I2cLevels.levels_of 3; pulling = false; buffer = record { address = 0; used = false }; phase = ph }))

-- ---- the events

-- n numbers from k up
abbrev pub up_from : ℕ → ℕ → List ℕ
up_from k zero = []
up_from k (suc n) = k ∷ up_from (k + 1) n

-- 4 for every kind from 6 up, on either bus, with a body that an expected answer could have
unfoldable pub other_kinds : List Refusal
other_kinds =
    map (λ k. refusal on 4096 (k ∷ 2 ∷ []) 4) (up_from 6 250)
    ++ map (λ k. refusal (on_i2c 3 cleared 0) 8192 (k ∷ 2 ∷ []) 4) (up_from 6 250)

unfoldable pub refusals : List Refusal
refusals =
    -- 1: part, address pins, saved bits of part 0 without power and of part 3; with 2: WEL set without power, a buffer past the size
    refusal (unpowered 5 0 cleared) 4096 (1 ∷ 25 ∷ []) 1
    ∷ refusal (unpowered 0 1 cleared) 4096 (1 ∷ 25 ∷ []) 1
    ∷ refusal (unpowered 3 8 cleared) 8192 (2 ∷ 3 ∷ 0 ∷ 0 ∷ 0 ∷ []) 1
    ∷ refusal (unpowered 0 0 halved) 4096 (1 ∷ 25 ∷ []) 1
    ∷ refusal (on_i2c 3 halved 0) 8192 (4 ∷ 3 ∷ []) 1
    ∷ refusal (unpowered 0 1 latched) 4096 (1 ∷ 25 ∷ []) 1
    ∷ refusal (on_i2c 3 halved 8192) 8192 (4 ∷ 3 ∷ []) 1
    -- 2: WEL set without power and on part 3, a buffer past the size, the other bus with bits 0 and with bits that part 0 may hold under
    -- power; with 3: a byte too few. `out_of_range` has the numbers of the phases
    ∷ refusal (unpowered 0 0 latched) 4096 (1 ∷ 25 ∷ []) 2
    ∷ refusal (on_i2c 3 latched 0) 8192 (4 ∷ 3 ∷ []) 2
    ∷ refusal (on_i2c 3 cleared 8192) 8192 (4 ∷ 3 ∷ []) 2
    ∷ refusal (on_i2c 0 cleared 0) 4096 (4 ∷ 3 ∷ []) 2
    ∷ refusal (on_i2c 0 halved 0) 4096 (4 ∷ 3 ∷ []) 2
    ∷ refusal (model_of 3 0 cleared (SpiOn (spi_start (SpiLevels.levels_of 25)))) 8192 (4 ∷ 3 ∷ []) 2
    ∷ refusal (unpowered 0 0 latched) 4095 (1 ∷ 25 ∷ []) 2
    -- 3: a byte too few, a byte too many; with 4: an unknown kind
    ∷ refusal off 4095 (1 ∷ 25 ∷ []) 3
    ∷ refusal off 4097 (1 ∷ 25 ∷ []) 3
    ∷ refusal off 4095 (6 ∷ 25 ∷ []) 3
    -- 4: unknown kinds, 02 on SPI, 01 on I2C; with 5: 02 on SPI with no body
    ∷ refusal on 4096 (0 ∷ 25 ∷ []) 4
    ∷ refusal on 4096 (6 ∷ 25 ∷ []) 4
    ∷ refusal off 4096 (2 ∷ 3 ∷ 0 ∷ 0 ∷ 0 ∷ []) 4
    ∷ refusal off3 8192 (1 ∷ 3 ∷ []) 4
    ∷ refusal off 4096 (2 ∷ []) 4
    -- 5: no body, a start address cut short; with 6: a sample out of range before the end; with 10: an address past the size,
    -- whatever its last byte
    ∷ refusal off 4096 (1 ∷ []) 5
    ∷ refusal off3 8192 (2 ∷ 3 ∷ 0 ∷ 0 ∷ []) 5
    ∷ refusal off3 8192 (2 ∷ 8 ∷ 0 ∷ 0 ∷ []) 5
    ∷ refusal off3 8192 (2 ∷ 3 ∷ 0xff ∷ 0xff ∷ []) 5
    -- 6: samples of 32 and 8, and of 255; with 10: a start address of the size; with 7: no power; with 8: power is on
    ∷ bad_field on 4096 (4 ∷ 32 ∷ []) 6 1
    ∷ bad_field off 4096 (1 ∷ 32 ∷ []) 6 1
    ∷ bad_field off3 8192 (2 ∷ 8 ∷ 0 ∷ 0 ∷ 0 ∷ []) 6 1
    ∷ bad_field (on_i2c 3 cleared 0) 8192 (4 ∷ 8 ∷ []) 6 1
    ∷ bad_field on 4096 (4 ∷ 255 ∷ []) 6 1
    ∷ bad_field off3 8192 (2 ∷ 8 ∷ 0 ∷ 0x20 ∷ 0 ∷ []) 6 1
    ∷ bad_field off3 8192 (2 ∷ 255 ∷ 255 ∷ 255 ∷ 255 ∷ []) 6 1
    ∷ bad_field off 4096 (4 ∷ 32 ∷ []) 6 1
    ∷ bad_field on 4096 (1 ∷ 32 ∷ []) 6 1
    -- 10: a start address of the size, on both parts, and the largest there is; with 8: power is on
    ∷ bad_field off3 8192 (2 ∷ 3 ∷ 0 ∷ 0x20 ∷ 0 ∷ []) 10 2
    ∷ bad_field (unpowered 4 0 cleared) 131072 (2 ∷ 3 ∷ 2 ∷ 0 ∷ 0 ∷ []) 10 2
    ∷ bad_field off3 8192 (2 ∷ 7 ∷ 255 ∷ 255 ∷ 255 ∷ []) 10 2
    ∷ bad_field (on_i2c 3 cleared 0) 8192 (2 ∷ 3 ∷ 0 ∷ 0x20 ∷ 0 ∷ []) 10 2
    -- 11: an expected answer of 3 or more on either bus, which is never the present one, so 9 would hold too; with 7: no power
    ∷ bad_field on 4096 (5 ∷ 3 ∷ []) 11 1
    ∷ bad_field (on_i2c 3 cleared 0) 8192 (5 ∷ 3 ∷ []) 11 1
    ∷ bad_field on 4096 (5 ∷ 255 ∷ []) 11 1
    ∷ bad_field off 4096 (5 ∷ 3 ∷ []) 11 1
    -- 7: 03, 04 and 05 without power; with 9: a low is expected
    ∷ refusal off 4096 (3 ∷ []) 7
    ∷ refusal off 4096 (4 ∷ 25 ∷ []) 7
    ∷ refusal off 4096 (5 ∷ 2 ∷ []) 7
    ∷ refusal off 4096 (5 ∷ 0 ∷ []) 7
    -- 8: 01 and 02 under power
    ∷ refusal on 4096 (1 ∷ 25 ∷ []) 8
    ∷ refusal (on_i2c 3 cleared 0) 8192 (2 ∷ 3 ∷ 0 ∷ 0 ∷ 0 ∷ []) 8
    -- 9: low and high are expected, nothing is driven; bytes after the event are ignored
    ∷ refusal on 4096 (5 ∷ 0 ∷ []) 9
    ∷ refusal on 4096 (5 ∷ 1 ∷ 4 ∷ []) 9
    ∷ refusal (on_i2c 3 cleared 0) 8192 (5 ∷ 0 ∷ []) 9
    ∷ []

-- 2: each number of a phase one past its range, and a data byte that waits on a part that does not store late
unfoldable pub out_of_range : List Refusal
out_of_range =
    map (λ ph. refusal (in_spi 0 ph) 4096 (4 ∷ 25 ∷ []) 2)
    (SpiPhases.Taking SpiFields.Opcode 8 0
    ∷ SpiPhases.Taking SpiFields.Opcode 7 128
    ∷ SpiPhases.Taking SpiFields.ReadAddress 16 0
    ∷ SpiPhases.Taking SpiFields.ReadAddress 15 32768
    ∷ SpiPhases.Taking SpiFields.FastAddress 16 0
    ∷ SpiPhases.Taking SpiFields.WriteAddress 16 0
    ∷ SpiPhases.Taking (SpiFields.Dummy 0) 8 0
    ∷ SpiPhases.Taking (SpiFields.Dummy 4096) 0 0
    ∷ SpiPhases.Taking (SpiFields.Data 0 false) 8 0
    ∷ SpiPhases.Taking (SpiFields.Data 4096 false) 0 0
    ∷ SpiPhases.Taking SpiFields.StatusByte 8 0
    ∷ SpiPhases.Showing SpiSources.Register 8
    ∷ SpiPhases.Showing (SpiSources.Memory 4096) 0
    ∷ SpiPhases.Showing (SpiSources.Identity 4) 0
    ∷ SpiPhases.Pending 0 0
    ∷ [])
    ++ (refusal (in_spi 1 (SpiPhases.Pending 0 131072)) 131072 (4 ∷ 25 ∷ []) 2
    ∷ refusal (in_spi 2 (SpiPhases.Pending 0 0)) 262144 (4 ∷ 25 ∷ []) 2
    ∷ [])
    ++ map (λ ph. refusal (in_i2c ph) 8192 (4 ∷ 3 ∷ []) 2)
    (I2cPhases.Taking I2cFields.Word 9 0
    ∷ I2cPhases.Taking I2cFields.Word 8 256
    ∷ I2cPhases.Taking (I2cFields.HighByte false) 9 0
    ∷ I2cPhases.Taking (I2cFields.LowByte false 0) 9 0
    ∷ I2cPhases.Taking (I2cFields.Data 0) 9 0
    ∷ I2cPhases.Taking (I2cFields.Data 8192) 0 0
    ∷ I2cPhases.Sending 8192 0
    ∷ I2cPhases.Sending 0 9
    ∷ [])

-- 5: a single event that is empty, without power and with
unfoldable pub empty_events : List Refusal
empty_events = refusal off 4096 [] 5 ∷ refusal on 4096 [] 5 ∷ []

-- ---- the makings

pub record Making : Type 0 where
  pub part : ℕ
  pub pins : ℕ
  pub bits : ℕ

abbrev pub making : ℕ → ℕ → ℕ → Making
making part pins bits = record { part = part; pins = pins; bits = bits }

-- it gives number 1, and part 0 without power, pins and bits 0
abbrev pub MakingRefused : Making → Type 0
MakingRefused x = make_of x.part x.pins x.bits ≡ record { number = 1; model = unpowered 0 0 cleared }

-- one past each range
unfoldable pub refused_makings : List Making
refused_makings =
    making 5 0 0
    ∷ making 0 1 0
    ∷ making 1 1 0
    ∷ making 2 1 0
    ∷ making 3 8 0
    ∷ making 4 4 0
    ∷ making 0 0 1
    ∷ making 1 0 8
    ∷ making 2 0 8
    ∷ making 3 0 1
    ∷ making 4 0 1
    ∷ []

-- ---- runs with accepted events before the refused one

pub record Stopped : Type 0 where
  pub part : ℕ
  pub size : ℕ
  pub trace : List ℕ
  pub number : ℕ
  pub count : ℕ
  pub offset : ℕ

abbrev pub stopped : ℕ → ℕ → List ℕ → ℕ → ℕ → ℕ → Stopped
stopped part size t n c o = record { part = part; size = size; trace = t; number = n; count = c; offset = o }

-- number, count and offset of a run on the part just made, pins and bits 0, and every memory of its size, and that no event is flagged; no
-- list below has more events
abbrev pub RunStopped : Stopped → Type 0
RunStopped x =
    (m : List ℕ) → length m ≡ x.size → ((run_of 8 x.trace (made_of x.part 0 0) m).number ≡ x.number)
    × (((run_of 8 x.trace (made_of x.part 0 0) m).count ≡ x.count) × ((run_of 8 x.trace (made_of x.part 0 0) m).offset ≡ x.offset)
    × ((run_of 8 x.trace (made_of x.part 0 0) m).flag ≡ length x.trace))

-- after a power on of two or five bytes and up to three other events: the bad field's first byte for 6, 10 and 11, the kind byte for the
-- others, and the trace's length for 0
unfoldable pub stopped_runs : List Stopped
stopped_runs =
    stopped 0 4096 (1 ∷ 25 ∷ 4 ∷ 24 ∷ 5 ∷ 2 ∷ 4 ∷ 32 ∷ 3 ∷ []) 6 3 7
    ∷ stopped 0 4096 (1 ∷ 25 ∷ 4 ∷ 24 ∷ 5 ∷ 2 ∷ 5 ∷ 3 ∷ 3 ∷ []) 11 3 7
    ∷ stopped 0 4096 (1 ∷ 25 ∷ 4 ∷ 24 ∷ 5 ∷ 2 ∷ 5 ∷ 0 ∷ 3 ∷ []) 9 3 6
    ∷ stopped 0 4096 (1 ∷ 25 ∷ 4 ∷ 24 ∷ 5 ∷ 2 ∷ 1 ∷ 25 ∷ 3 ∷ []) 8 3 6
    ∷ stopped 0 4096 (1 ∷ 25 ∷ 4 ∷ 24 ∷ 5 ∷ 2 ∷ 3 ∷ 3 ∷ []) 7 4 7
    ∷ stopped 0 4096 (1 ∷ 25 ∷ 4 ∷ 24 ∷ 5 ∷ 2 ∷ 4 ∷ []) 5 3 6
    ∷ stopped 0 4096 (1 ∷ 25 ∷ 4 ∷ 24 ∷ 5 ∷ 2 ∷ 6 ∷ []) 4 3 6
    ∷ stopped 0 4096 (1 ∷ 25 ∷ 4 ∷ 24 ∷ 5 ∷ 2 ∷ []) 0 3 6
    ∷ stopped 3 8192 (2 ∷ 3 ∷ 0 ∷ 0x1f ∷ 255 ∷ 3 ∷ 2 ∷ 8 ∷ 0 ∷ 0x20 ∷ 0 ∷ []) 6 2 7
    ∷ stopped 3 8192 (2 ∷ 3 ∷ 0 ∷ 0x1f ∷ 255 ∷ 3 ∷ 2 ∷ 7 ∷ 0 ∷ 0x20 ∷ 0 ∷ []) 10 2 8
    ∷ stopped 3 8192 (2 ∷ 3 ∷ 0 ∷ 0x1f ∷ 255 ∷ 2 ∷ 3 ∷ 0 ∷ 0x20 ∷ 0 ∷ []) 10 1 7
    ∷ stopped 3 8192 (2 ∷ 3 ∷ 0 ∷ 0x1f ∷ 255 ∷ 4 ∷ 2 ∷ 5 ∷ 3 ∷ []) 11 2 8
    ∷ []
