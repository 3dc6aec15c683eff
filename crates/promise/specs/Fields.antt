-- The numbers that the bytes of an event get, which field was wrong, and where a run points: said of the bytes of the trace alone, a kind
-- byte and then the fields that document 01 lists for it under 'Models and events' (document 02, ask 1).
use Rattle.std.specs.Prelude.{ℕ, zero, suc, ◌+◌, ◌*◌, ◌<◌, ◌≤◌, ◌≡◌, true, false, cond, List, ◌⊎◌, eqb, length, drop, get_or}
use Rattle.parts.specs.declared.part.Part.{Part}
use Rattle.parts.specs.Table.{is_spi, part_of}
use Rattle.runs.specs.Event.{event_of}
use Rattle.runs.specs.Run.{Run, run_of}
use Rattle.promise.specs.Lists.{model_after, memory_after}
use Rattle.promise.specs.Promise.{made_by}

-- ---- the event at the front of some bytes t

-- the kinds that the part's bus has: 01 on SPI, 02 on I2C, 03 to 05 on both
abbrev pub KnownKind : Part → ℕ → Type 0
KnownKind p k = ((k ≡ 1) × (is_spi p.bus ≡ true)) ⊎ (((k ≡ 2) × (is_spi p.bus ≡ false)) ⊎ ((3 ≤ k) × (k ≤ 5)))

-- how many bytes the event of a kind has, its kind byte included
abbrev pub length_given : ℕ → ℕ
length_given k = cond (eqb k 2) 5 (cond (eqb k 3) 1 2)

-- one of these kinds, with all its bytes
pub record Readable (p : Part) (t : List ℕ) : Type 0 where
  pub known : KnownKind p (get_or t 0 0)
  pub there : length_given (get_or t 0 0) ≤ length t

-- the kinds with a sample, which comes right after the kind byte: 01, 02 and 04
abbrev pub HasSample : ℕ → Type 0
HasSample k = (k ≡ 1) ⊎ ((k ≡ 2) ⊎ (k ≡ 4))

-- one past the largest sample: five pins on SPI, three levels on I2C
abbrev pub samples : Part → ℕ
samples p = cond (is_spi p.bus) 32 8

-- the start address of a power on of I2C, after its sample
abbrev pub start_given : List ℕ → ℕ
start_given t = 65536 * get_or t 2 0 + 256 * get_or t 3 0 + get_or t 4 0

-- the sample is too large, whatever comes after it
pub record BadSample (p : Part) (t : List ℕ) : Type 0 where
  pub kind : HasSample (get_or t 0 0)
  pub large : samples p ≤ get_or t 1 0

-- the sample is in range, the start address is not
pub record BadStart (p : Part) (t : List ℕ) : Type 0 where
  pub kind : get_or t 0 0 ≡ 2
  pub sample : get_or t 1 0 < samples p
  pub large : p.size ≤ start_given t

-- there is no such answer as the expected one
pub record BadExpected (t : List ℕ) : Type 0 where
  pub kind : get_or t 0 0 ≡ 5
  pub large : 3 ≤ get_or t 1 0

-- every field that the event has is in range
pub record GoodFields (p : Part) (t : List ℕ) : Type 0 where
  pub sample : HasSample (get_or t 0 0) → get_or t 1 0 < samples p
  pub start : get_or t 0 0 ≡ 2 → start_given t < p.size
  pub expected : get_or t 0 0 ≡ 5 → get_or t 1 0 < 3

-- no fault in the bytes
pub record Faultless (p : Part) (t : List ℕ) : Type 0 where
  pub readable : Readable p t
  pub good : GoodFields p t

-- ---- the number that it gets

-- on a part in a state that a host can be given, with a memory of l bytes. 3 is for the memory; each of 4, 5, 6, 10 and 11 is for its own
-- fault of the bytes; 7, 8 and 9, which are for power and answer, come only where there is none. Any other number is never given, and 1
-- and 2 not for such a state
pub data Judged (p : Part) (l : ℕ) (t : List ℕ) : ℕ → Type 0 where
  number_0 : Judged p l t 0
  number_3 : (l ≡ p.size → ⊥) → Judged p l t 3
  number_4 : 0 < length t → (KnownKind p (get_or t 0 0) → ⊥) → Judged p l t 4
  number_5 : (length t ≡ 0) ⊎ (KnownKind p (get_or t 0 0) × (length t < length_given (get_or t 0 0))) → Judged p l t 5
  number_6 : Readable p t → BadSample p t → Judged p l t 6
  number_10 : Readable p t → BadStart p t → Judged p l t 10
  number_11 : Readable p t → BadExpected t → Judged p l t 11
  number_7 : Faultless p t → 3 ≤ get_or t 0 0 → Judged p l t 7
  number_8 : Faultless p t → get_or t 0 0 ≤ 2 → Judged p l t 8
  number_9 : Faultless p t → get_or t 0 0 ≡ 5 → Judged p l t 9

-- a single event; one that is accepted has no fault in its bytes
pub record EventJudged (p : Part) (l : ℕ) (t : List ℕ) (n : ℕ) : Type 0 where
  pub judged : Judged p l t n
  pub accepted : n ≡ 0 → Faultless p t

-- ---- where a run points

-- where the kind byte of event number i stands, counted from 0: after the bytes of those before it
abbrev pub kind_at : ℕ → List ℕ → ℕ
kind_at zero t = 0
kind_at (suc i) t = length_given (get_or t 0 0) + kind_at i (drop (length_given (get_or t 0 0)) t)

-- how far from there the field of a number begins: a sample or an expected answer one byte on, a start address two
abbrev pub field_at : ℕ → ℕ
field_at n = cond (eqb n 6) 1 (cond (eqb n 10) 2 (cond (eqb n 11) 1 0))

-- the run r of the trace t, with a memory of l bytes
pub record Points (p : Part) (l : ℕ) (t : List ℕ) (r : Run) : Type 0 where
  -- no accepted event has a fault in its bytes
  pub accepted : (i : ℕ) → i < r.count → Faultless p (drop (kind_at i t) t)
  -- the next one got the run's number
  pub judged : Judged p l (drop (kind_at r.count t) t) r.number
  -- and there is one, if the number is for an event
  pub there : 4 ≤ r.number → kind_at r.count t < length t
  -- the offset is that of its bad field, else of its kind byte or past the last event
  pub offset : r.offset ≡ kind_at r.count t + field_at r.number

-- ---- from a making, after any events: one event more, and a run

pub record FieldsPromise (part pins bits : ℕ) (first : List ℕ) (es : List (List ℕ)) (quota : ℕ) (t : List ℕ) : Type 0 where
  pub event : EventJudged (part_of (made_by part pins bits).part) (length (memory_after (made_by part pins bits) first es)) t (event_of (model_after (made_by part pins bits) first es) (memory_after (made_by part pins bits) first es) t).result.number
  pub run : Points (part_of (made_by part pins bits).part) (length (memory_after (made_by part pins bits) first es)) t (run_of quota t (model_after (made_by part pins bits) first es) (memory_after (made_by part pins bits) first es))
