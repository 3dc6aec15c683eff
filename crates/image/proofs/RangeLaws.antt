-- What passes 1 and 2 fits the bytes of an image: by the ranges of each field. Assumes nothing.
use Prim.Native.Nat.{ℕ, ◌<◌}
use mathlib.Core.Path.{◌≡◌}
use mathlib.Core.Bool.{true, not}
use native.Mathlib.Omega.{arith}
use lib.Dec.{ltb}
use borrow.Author.Tests.{ltb-true}
use Rattle.parts.specs.declared.part.Part.{Part}
use Rattle.parts.specs.declared.status.Status.{Status}
use Rattle.parts.specs.Table.{is_spi, part_of, Fit}
use Rattle.parts.proofs.Rows.{and_both, part_fits}
use Rattle.serial.proofs.BitLaws.{bit_small, small}
use Rattle.selection.specs.declared.phase.Field as SpiField
use Rattle.selection.specs.declared.phase.Field.TheVariants.{Opcode, ReadAddress, FastAddress, WriteAddress, Dummy, StatusByte}
use Rattle.selection.specs.declared.phase.Field.TheVariants as SpiFields
use Rattle.selection.specs.declared.phase.Source.TheVariants.{Memory, Register, Identity}
use Rattle.selection.specs.declared.phase.Action.TheVariants.{SetLatch, ClearLatch, FallAsleep, WriteStatus}
use Rattle.selection.specs.declared.phase.Phase as SpiPhases
use Rattle.selection.specs.declared.phase.Phase.TheVariants as Spi
use Rattle.selection.specs.Ranges as SpiRanges
use Rattle.selection.proofs.RangeLaws as SpiLaws
use Rattle.transfer.specs.declared.phase.Field as I2cField
use Rattle.transfer.specs.declared.phase.Field.TheVariants.{Word, HighByte, LowByte}
use Rattle.transfer.specs.declared.phase.Field.TheVariants as I2cFields
use Rattle.transfer.specs.declared.phase.Phase as I2cPhases
use Rattle.transfer.specs.declared.phase.Phase.TheVariants as I2c
use Rattle.transfer.specs.Ranges as I2cRanges
use Rattle.transfer.proofs.RangeLaws as I2cLaws
use Rattle.chip.specs.declared.model.BusState.{BusState}
use Rattle.chip.specs.declared.model.BusState.TheVariants.{Unpowered, SpiOn, I2cOn}
use Rattle.chip.specs.declared.model.Model.{Model}
use Rattle.chip.specs.Check.{model_in, bus_in}
use Rattle.chip.proofs.CheckLaws.{ModelIn, model_in_lem}
use Rattle.image.specs.Layout.{SmallPhase, Small}
use Rattle.image_fields.specs.SpiPhase as SpiPhase
use Rattle.image_fields.specs.I2cPhase as I2cPhase
use Rattle.image_fields.specs.State.{bus_fields, fields_of}
use Rattle.image.specs.Taken.{in_range}

module _ (p : Part) (fit : Fit p) where
  -- ---- SPI

  taking_address : (f : SpiField.Field) (n v : ℕ) → SpiRanges.FieldIn p f → (SpiPhase.taking_fields f n v).address < 16777216
  taking_address Opcode n v h = omega arith
  taking_address ReadAddress n v h = omega arith
  taking_address FastAddress n v h = omega arith
  taking_address WriteAddress n v h = omega arith
  taking_address (Dummy a) n v h = omega (arith, fit.small)
  taking_address (SpiFields.Data a w) n v h = omega (arith, fit.small)
  taking_address StatusByte n v h = omega arith

  taking_value : (f : SpiField.Field) (n v : ℕ) → v < 16777216 → (SpiPhase.taking_fields f n v).value < 16777216
  taking_value Opcode n v h = h
  taking_value ReadAddress n v h = h
  taking_value FastAddress n v h = h
  taking_value WriteAddress n v h = h
  taking_value (Dummy a) n v h = h
  taking_value (SpiFields.Data a w) n v h = h
  taking_value StatusByte n v h = h

  spi_small : (ph : SpiPhases.Phase) → SpiRanges.PhaseIn p ph → SmallPhase (SpiPhase.fields_of ph)
  spi_small Spi.Rest h = record { value = omega arith; address = omega arith }
  spi_small Spi.Ignoring h = record { value = omega arith; address = omega arith }
  spi_small (Spi.Taking f n v) h =
      record { value = taking_value f n v (SpiLaws.taken_small p fit f n v h); address = taking_address f n v h.field }
  spi_small (Spi.Showing (Memory a) k) h = let s : a < p.size = h.source in record { value = omega arith; address = omega (arith, fit.small) }
  spi_small (Spi.Showing Register k) h = record { value = omega arith; address = omega arith }
  spi_small (Spi.Showing (Identity i) k) h = record { value = omega arith; address = omega arith }
  spi_small (Spi.Waiting SetLatch) h = record { value = omega arith; address = omega arith }
  spi_small (Spi.Waiting ClearLatch) h = record { value = omega arith; address = omega arith }
  spi_small (Spi.Waiting FallAsleep) h = record { value = omega arith; address = omega arith }
  spi_small (Spi.Waiting (WriteStatus v)) h = record { value = omega arith; address = omega arith }
  spi_small (Spi.Pending v a) h = let s : a < p.size = h.address in record { value = omega arith; address = omega (arith, fit.small) }

  -- ---- I2C

  byte_small : (f : I2cField.Field) (n v : ℕ) → I2cRanges.FieldIn p f → v < 16777216 → SmallPhase (I2cPhase.taking_fields f n v)
  byte_small Word n v h k = record { value = k; address = omega arith }
  byte_small (HighByte a16) n v h k = record { value = k; address = omega (arith, bit_small a16) }
  byte_small (LowByte a16 high) n v h k = record { value = k; address = omega (arith, bit_small a16) }
  byte_small (I2cFields.Data a) n v h k = record { value = k; address = omega (arith, fit.small) }

  i2c_small : (ph : I2cPhases.Phase) → I2cRanges.PhaseIn p ph → SmallPhase (I2cPhase.fields_of ph)
  i2c_small I2c.Rest h = record { value = omega arith; address = omega arith }
  i2c_small I2c.Ignoring h = record { value = omega arith; address = omega arith }
  i2c_small (I2c.Taking f n v) h = byte_small f n v h.0 (small n 24 v (let s = h.1 in omega arith) h.2)
  i2c_small (I2c.Sending a n) h = let s = h.0 in record { value = omega arith; address = omega (arith, fit.small) }

  -- ---- the bus

  bus_small : (part pins status : ℕ) (st : Status) (b : BusState) → bus_in p st b ≡ true → Small (bus_fields part pins status b)
  bus_small part pins status st Unpowered h = record { phase = record { value = omega arith; address = omega arith }; buffer = omega arith }
  bus_small part pins status st (SpiOn x) h =
      let k = and_both (is_spi p.bus) _ h in
      record { phase = spi_small x.phase (SpiLaws.phase_in_lem p x.phase k.1); buffer = omega arith }
  bus_small part pins status st (I2cOn x) h =
      let k = and_both (not st.wel) _ (and_both (not (is_spi p.bus)) _ h).1 in
      let l = and_both (ltb x.buffer.address p.size) _ k.1 in
      let s = ltb-true x.buffer.address p.size l.0 in
      record { phase = i2c_small x.phase (I2cLaws.phase_in_lem p x.phase l.1); buffer = omega (arith, fit.small) }

-- a state that passes 1 and 2
module _ (s : Model) (h : in_range s ≡ true) where
  model_test : model_in s ≡ true
  model_test = (and_both (model_in s) _ h).0

  pub bus_test : bus_in (part_of s.part) s.status s.bus ≡ true
  bus_test = (and_both (model_in s) _ h).1

  pub inside : ModelIn s
  inside = model_in_lem s model_test

  pub fit_part : Fit (part_of s.part)
  fit_part = part_fits s.part inside.known

  pub small_fields : Small (fields_of s)
  small_fields = bus_small (part_of s.part) fit_part s.part s.pins _ s.status s.bus bus_test
