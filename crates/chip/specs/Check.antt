-- What is tested of state and memory before anything else: numbers 1, 2 and 3, in that order (document 01, Numbers given back).
use Rattle.std.specs.Prelude.{ℕ, ◌≡◌, Bool, true, cond, not, ◌&&◌, List, ltb, eqb, length, Result, Ok, Err, ⊤}
use Rattle.parts.specs.declared.part.Part.{Part}
use Rattle.parts.specs.declared.refusal.Refusal.{Refusal}
use Rattle.parts.specs.declared.refusal.Refusal.TheVariants.{ModelRange, StateRange, MemoryLength}
use Rattle.parts.specs.declared.status.Status.{Status}
use Rattle.parts.specs.Table.{is_spi, part_of}
use Rattle.selection.specs.Ranges as SpiRanges
use Rattle.i2c.specs.declared.sample.I2c as State
use Rattle.transfer.specs.Ranges as I2cRanges
use Rattle.chip.specs.declared.model.BusState.{BusState}
use Rattle.chip.specs.declared.model.BusState.TheVariants.{Unpowered, SpiOn, I2cOn}
use Rattle.chip.specs.declared.model.Model.{Model}

-- a state and a memory pass, or why not
abbrev pub Verdict : Type 0
Verdict = Result ⊤ Refusal

pattern abbrev pub Passed : Verdict
Passed = Ok tt

pattern abbrev pub Failed : Refusal → Verdict
Failed r = Err r

-- SRWD, BP1 and BP0 are all 0
abbrev pub bits_clear : Status → Bool
bits_clear st = not st.srwd && (not st.bp1 && not st.bp0)

-- whether SRWD, BP1 and BP0 may be set: on a part that saves them always, and under power on every SPI part, so on part 0 too,
-- whichever bus the state has; that it has the wrong one is number 2
abbrev pub holds_bits : Part → BusState → Bool
holds_bits p Unpowered = p.saved
holds_bits p (SpiOn s) = cond p.saved true (is_spi p.bus)
holds_bits p (I2cOn s) = cond p.saved true (is_spi p.bus)

-- address pins and saved bits that the part can have
abbrev pub placed_in : Part → Model → Bool
placed_in p s = ltb s.pins p.pins && cond (holds_bits p s.bus) true (bits_clear s.status)

-- the test of number 1: a part of the table, with pins and saved bits that it can have
abbrev pub model_in : Model → Bool
model_in s = ltb s.part 5 && placed_in (part_of s.part) s

abbrev pub i2c_in : Part → State.I2c → Bool
i2c_in p s = ltb s.buffer.address p.size && I2cRanges.phase_in p s.phase

-- the test of number 2: the bus is the part's, WEL is set only on an SPI part under power, and the numbers of phase and address buffer
-- are in range
abbrev pub bus_in : Part → Status → BusState → Bool
bus_in p st Unpowered = not st.wel
bus_in p st (SpiOn s) = is_spi p.bus && SpiRanges.phase_in p s.phase
bus_in p st (I2cOn s) = not (is_spi p.bus) && (not st.wel && i2c_in p s)

-- number 2, then number 3: the memory must have just as many bytes as the part
abbrev pub part_check : Part → Model → ℕ → Verdict
part_check p s length = cond (bus_in p s.status s.bus) (cond (eqb length p.size) Passed (Failed MemoryLength)) (Failed StateRange)

-- the first of 1, 2 and 3 that holds, with a memory of that length
unfoldable pub check_of : Model → ℕ → Verdict
check_of s length = cond (model_in s) (part_check (part_of s.part) s length) (Failed ModelRange)

-- state and memory pass 1 to 3
abbrev pub Sound : Model → List ℕ → Type 0
Sound s m = check_of s (length m) ≡ Passed
