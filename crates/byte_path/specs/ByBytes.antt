-- The same byte by byte: what a whole byte makes of the phase at a byte's border, what it stores, and what comes back.
use Rattle.std.specs.Prelude.{ℕ, ◌+◌, ◌*◌, ◌%◌, ◌^◌, ◌<◌, ◌≡◌, Bool, true, false, cond, List, [], ◌∷◌, ltb, get_or, None, Option}
use Rattle.parts.specs.declared.answer.Answer.TheVariants.{HighZ}
use Rattle.parts.specs.declared.part.Part.{Part}
use Rattle.parts.specs.declared.status.Status.{Status}
use Rattle.parts.specs.Status.{status_byte}
use Rattle.parts.specs.Table.{part_of}
use Rattle.serial.specs.declared.write.Write.{Write}
use Rattle.serial.specs.Address.{next_address}
use Rattle.serial.specs.Write.{applied}
use Rattle.selection.specs.declared.levels.Levels.{Levels}
use Rattle.selection.specs.declared.phase.Field.{Field}
use Rattle.selection.specs.declared.phase.Field.TheVariants.{Opcode, ReadAddress, FastAddress, WriteAddress, Dummy, Data, StatusByte}
use Rattle.selection.specs.declared.phase.Phase.{Phase}
use Rattle.selection.specs.declared.phase.Phase.TheVariants.{Rest, Ignoring, Taking, Showing, Waiting, Pending}
use Rattle.selection.specs.declared.phase.Source.{Source}
use Rattle.selection.specs.declared.phase.Source.TheVariants.{Memory, Register, Identity}
use Rattle.selection.specs.Phase.{width, phase_after_field, next_source}
use Rattle.spi_status.specs.Deselect.{status_after, asleep_after}
use Rattle.spi.specs.declared.sample.Spi.{Spi}
use Rattle.spi.specs.Sample.{selected}
use Rattle.spi.specs.Store.{permitted, finished_write, end_write}
use Rattle.chip.specs.declared.model.BusState.TheVariants.{SpiOn}
use Rattle.chip.specs.declared.model.Model.{Model}
use Rattle.chip.specs.Model.{model_of}
use Rattle.byte_path.specs.PinPath.{Back, last_si, Selection}

-- a byte's border: whole bytes of a field are in, and more is to come; no bit of what is shown is out yet; or a data byte waits
abbrev pub AtBorder : Part → Phase → Type 0
AtBorder p Rest = Unit {0}
AtBorder p Ignoring = Unit {0}
AtBorder p (Taking f n v) = (n % 8 ≡ 0) × (n < width p f) × (v < 2 ^ n)
AtBorder p (Showing s k) = k ≡ 0
AtBorder p (Waiting a) = Unit {0}
AtBorder p (Pending w a) = (p.late ≡ true) × (w < 256)

-- eight bits more of a field, or the next byte of what is shown; after a data byte that waits, the next one
abbrev pub phase_after_byte : Part → Phase → ℕ → Phase
phase_after_byte p Rest v = Rest
phase_after_byte p Ignoring v = Ignoring
phase_after_byte p (Taking f n w) v = cond (ltb (n + 8) (width p f)) (Taking f (n + 8) (256 * w + v)) (phase_after_field p f (256 * w + v))
phase_after_byte p (Showing s k) v = Showing (next_source p s) 0
phase_after_byte p (Waiting a) v = Waiting a
phase_after_byte p (Pending w a) v = Pending v (next_address p.size a)

-- a data byte of WRITE is stored, if it is permitted, unless it waits
abbrev pub field_stores : Part → Status → Field → ℕ → Option Write
field_stores p st Opcode v = None
field_stores p st ReadAddress v = None
field_stores p st FastAddress v = None
field_stores p st WriteAddress v = None
field_stores p st (Dummy a) v = None
field_stores p st (Data a w) v = finished_write p st a v
field_stores p st StatusByte v = None

-- a data byte that waits is stored as the next one begins
abbrev pub byte_write : Part → Status → Phase → ℕ → Option Write
byte_write p st Rest v = None
byte_write p st Ignoring v = None
byte_write p st (Taking f n w) v = field_stores p st f v
byte_write p st (Showing s k) v = None
byte_write p st (Waiting a) v = None
byte_write p st (Pending w a) v = permitted p st a w

-- nothing driven: every bit is 1
abbrev pub undriven : Back
undriven = record { byte = 255; driven = false }

abbrev pub source_back : Part → Status → List ℕ → Source → Back
source_back p st m (Memory a) = record { byte = get_or m a 0; driven = true }
source_back p st m Register = record { byte = status_byte st; driven = true }
source_back p st m (Identity i) = cond (ltb i 3) (record { byte = get_or p.identity i 0; driven = true }) undriven

abbrev pub byte_back : Part → Status → List ℕ → Phase → Back
byte_back p st m Rest = undriven
byte_back p st m Ignoring = undriven
byte_back p st m (Taking f n v) = undriven
byte_back p st m (Showing s k) = source_back p st m s
byte_back p st m (Waiting a) = undriven
byte_back p st m (Pending w a) = undriven

-- a list of bytes from a phase and a memory on
module _ (p : Part) (st : Status) where
  abbrev pub phase_after_bytes : Phase → List ℕ → Phase
  phase_after_bytes ph [] = ph
  phase_after_bytes ph (v ∷ vs) = phase_after_bytes (phase_after_byte p ph v) vs

  abbrev pub memory_after_bytes : Phase → List ℕ → List ℕ → List ℕ
  memory_after_bytes ph m [] = m
  memory_after_bytes ph m (v ∷ vs) = memory_after_bytes (phase_after_byte p ph v) (applied (byte_write p st ph v) m) vs

  abbrev pub back_after_bytes : Phase → List ℕ → List ℕ → List Back
  back_after_bytes ph m [] = []
  back_after_bytes ph m (v ∷ vs) = byte_back p st m ph ∷ back_after_bytes (phase_after_byte p ph v) (applied (byte_write p st ph v) m) vs

-- ---- the whole selection

-- the levels of the last sample: CS# and HOLD# 1, SCK 0
abbrev pub end_levels : Bool → Bool → Levels
end_levels si wp = record { cs = true; sck = false; si = si; wp = wp; hold = true }

-- of an SPI part under power, whose bus state is x
module _ (wp : Bool) (s : Model) (x : Spi) (m input : List ℕ) where
  abbrev row : Part
  row = part_of s.part

  -- the phases after CS# has fallen and before it rises
  abbrev pub first_phase : Phase
  first_phase = selected x.asleep

  abbrev pub last_phase : Phase
  last_phase = phase_after_bytes row s.status first_phase input

  abbrev pub by_bytes : Selection
  by_bytes =
      record {
        model = model_of s.part s.pins (status_after s.status wp last_phase)
            (SpiOn (record { last = end_levels (last_si false input) wp; asleep = asleep_after x.asleep last_phase; shown = HighZ; phase = Rest }));
        memory = applied (end_write row s.status last_phase) (memory_after_bytes row s.status first_phase m input);
        back = back_after_bytes row s.status first_phase m input;
      }
