-- A state's fields read as that state: by the laws of each field. Assumes nothing.
use Prim.Native.Nat.{ℕ, ◌+◌, ◌*◌, ◌<◌}
use mathlib.Core.Path.{◌≡◌, refl, ap}
use mathlib.Core.Bool.{Bool, true, false}
use native.Mathlib.Omega.{arith}
use lib.Dec.{eqb}
use Rattle.parts.specs.declared.answer.Answer.{Answer}
use Rattle.parts.specs.declared.answer.Answer.TheVariants.{Low, High, HighZ}
use Rattle.parts.specs.declared.status.Status.{Status}
use Rattle.parts.specs.Numbers.{answer_number}
use Rattle.parts.specs.Status.{bit, status_byte}
use Rattle.serial.proofs.BitLaws.{bit_is_one}
use Rattle.selection.specs.declared.phase.Field as SpiField
use Rattle.selection.specs.declared.phase.Field.TheVariants.{Opcode, ReadAddress, FastAddress, WriteAddress, Dummy, StatusByte}
use Rattle.selection.specs.declared.phase.Field.TheVariants as SpiFields
use Rattle.selection.specs.declared.phase.Source.{Source}
use Rattle.selection.specs.declared.phase.Source.TheVariants.{Memory, Register, Identity}
use Rattle.selection.specs.declared.phase.Action.{Action}
use Rattle.selection.specs.declared.phase.Action.TheVariants.{SetLatch, ClearLatch, FallAsleep, WriteStatus}
use Rattle.selection.specs.declared.phase.Phase as SpiPhases
use Rattle.selection.specs.declared.phase.Phase.TheVariants as Spi
use Rattle.selection.proofs.LevelLaws as SpiLevels
use Rattle.transfer.specs.declared.phase.Field as I2cField
use Rattle.transfer.specs.declared.phase.Field.TheVariants.{Word, HighByte, LowByte}
use Rattle.transfer.specs.declared.phase.Field.TheVariants as I2cFields
use Rattle.transfer.specs.declared.phase.Phase as I2cPhases
use Rattle.transfer.specs.declared.phase.Phase.TheVariants as I2c
use Rattle.transfer.proofs.LevelLaws as I2cLevels
use Rattle.i2c.specs.Sample.{answer_of}
use Rattle.chip.specs.declared.model.BusState.{BusState}
use Rattle.chip.specs.declared.model.BusState.TheVariants.{Unpowered, SpiOn, I2cOn}
use Rattle.chip.specs.declared.model.Model.{Model}
use Rattle.image_fields.specs.SpiPhase as SpiPhase
use Rattle.image_fields.specs.I2cPhase as I2cPhase
use Rattle.image_fields.specs.State.{bus_fields, fields_of, status_in, answer_in, bus_from, state_in}

-- ---- fields

pub answer_back : (a : Answer) → answer_in (answer_number a) ≡ a
answer_back Low = refl
answer_back High = refl
answer_back HighZ = refl

-- an answer is one of three
pub answer_small : (a : Answer) → answer_number a < 3
answer_small Low = omega arith
answer_small High = omega arith
answer_small HighZ = omega arith

pulling_back : (p : Bool) → eqb (answer_number (answer_of p)) 0 ≡ p
pulling_back true = refl
pulling_back false = refl

a16_back : (a16 : Bool) → eqb (I2cPhase.a16_address a16) 65536 ≡ a16
a16_back true = refl
a16_back false = refl

bits_back : (a b c d : Bool) → status_in (128 * bit a + 8 * bit b + 4 * bit c + 2 * bit d) ≡ record { srwd = a; bp1 = b; bp0 = c; wel = d }
bits_back true true true true = refl
bits_back true true true false = refl
bits_back true true false true = refl
bits_back true true false false = refl
bits_back true false true true = refl
bits_back true false true false = refl
bits_back true false false true = refl
bits_back true false false false = refl
bits_back false true true true = refl
bits_back false true true false = refl
bits_back false true false true = refl
bits_back false true false false = refl
bits_back false false true true = refl
bits_back false false true false = refl
bits_back false false false true = refl
bits_back false false false false = refl

status_back : (st : Status) → status_in (status_byte st) ≡ st
status_back st = bits_back st.srwd st.bp1 st.bp0 st.wel

-- ---- phases: each tag is that of one phase

taking_back : (f : SpiField.Field) (n v : ℕ) → SpiPhase.phase_in (SpiPhase.taking_fields f n v) ≡ Spi.Taking f n v
unfolding SpiPhase.phase_in
taking_back Opcode n v = refl
taking_back ReadAddress n v = refl
taking_back FastAddress n v = refl
taking_back WriteAddress n v = refl
taking_back (Dummy a) n v = refl
taking_back (SpiFields.Data a whole) n v = ap (λ (b : Bool). Spi.Taking (SpiFields.Data a b) n v) (bit_is_one whole)
taking_back StatusByte n v = refl

showing_back : (s : Source) (k : ℕ) → SpiPhase.phase_in (SpiPhase.showing_fields s k) ≡ Spi.Showing s k
unfolding SpiPhase.phase_in
showing_back (Memory a) k = refl
showing_back Register k = refl
showing_back (Identity i) k = refl

waiting_back : (a : Action) → SpiPhase.phase_in (SpiPhase.waiting_fields a) ≡ Spi.Waiting a
unfolding SpiPhase.phase_in
waiting_back SetLatch = refl
waiting_back ClearLatch = refl
waiting_back FallAsleep = refl
waiting_back (WriteStatus v) = refl

pub spi_phase_back : (ph : SpiPhases.Phase) → SpiPhase.phase_in (SpiPhase.fields_of ph) ≡ ph
unfolding SpiPhase.phase_in
spi_phase_back Spi.Rest = refl
spi_phase_back Spi.Ignoring = refl
spi_phase_back (Spi.Taking f n v) = taking_back f n v
spi_phase_back (Spi.Showing s k) = showing_back s k
spi_phase_back (Spi.Waiting a) = waiting_back a
spi_phase_back (Spi.Pending v a) = refl

byte_back_lem : (f : I2cField.Field) (n v : ℕ) → I2cPhase.phase_in (I2cPhase.taking_fields f n v) ≡ I2c.Taking f n v
unfolding I2cPhase.phase_in
byte_back_lem Word n v = refl
byte_back_lem (HighByte a16) n v = ap (λ (b : Bool). I2c.Taking (HighByte b) n v) (a16_back a16)
byte_back_lem (LowByte a16 high) n v = ap (λ (b : Bool). I2c.Taking (LowByte b high) n v) (a16_back a16)
byte_back_lem (I2cFields.Data a) n v = refl

pub i2c_phase_back : (ph : I2cPhases.Phase) → I2cPhase.phase_in (I2cPhase.fields_of ph) ≡ ph
unfolding I2cPhase.phase_in
i2c_phase_back I2c.Rest = refl
i2c_phase_back I2c.Ignoring = refl
i2c_phase_back (I2c.Taking f n v) = byte_back_lem f n v
i2c_phase_back (I2c.Sending a n) = refl

-- ---- the bus, and the state

bus_back : (part pins status : ℕ) (b : BusState) → bus_from (bus_fields part pins status b) ≡ b
bus_back part pins status Unpowered = refl
bus_back part pins status (SpiOn x) =
    rw (SpiLevels.sample_back x.last, bit_is_one x.asleep, answer_back x.shown, spi_phase_back x.phase)
bus_back part pins status (I2cOn x) =
    rw (I2cLevels.sample_back x.last, pulling_back x.pulling, bit_is_one x.buffer.used, i2c_phase_back x.phase)

same_head : (part pins : ℕ) (status : ℕ) (b : BusState)
    → state_in (bus_fields part pins status b) ≡ record { part = part; pins = pins; status = status_in status; bus = bus_from (bus_fields part pins status b) }
same_head part pins status Unpowered = refl
same_head part pins status (SpiOn x) = refl
same_head part pins status (I2cOn x) = refl

pub state_back : (s : Model) → state_in (fields_of s) ≡ s
state_back s =
    rw (same_head s.part s.pins (status_byte s.status) s.bus, bus_back s.part s.pins (status_byte s.status) s.bus, status_back s.status)
