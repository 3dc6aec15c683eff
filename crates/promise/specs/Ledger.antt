-- The ledger of a model just made, after a history: what the permitted writes and status writes have made of the first memory and
-- of the bits of the making.
use Rattle.std.specs.Prelude.{ℕ, ◌+◌, ◌*◌, cond, List}
use Rattle.parts.specs.declared.status.Status.{Status}
use Rattle.parts.specs.Status.{bit}
use Rattle.parts.specs.Table.{is_spi, part_of}
use Rattle.chip.specs.declared.model.Model.{Model}
use Rattle.ledger.specs.History.{Entry}
use Rattle.ledger.specs.Stores.{Store}
use Rattle.ledger.specs.SpiLedger.{SavedBits, zero_bits, without_ignored}
use Rattle.ledger.specs.SpiLedger as SpiLedger
use Rattle.ledger.specs.I2cLedger as I2cLedger

-- SRWD, BP1 and BP0 of a status register
abbrev pub saved_in : Status → SavedBits
saved_in st = record { srwd = st.srwd; bp1 = st.bp1; bp0 = st.bp0 }

-- saved bits as the number that a making takes: three bits, SRWD on top
abbrev pub bits_number : SavedBits → ℕ
bits_number b = 4 * bit b.srwd + 2 * bit b.bp1 + bit b.bp0

-- the permitted writes, the first first: by selections on SPI, from START to START, STOP or power off on I2C
abbrev pub ledger_stores : Model → List Entry → List Store
ledger_stores made h =
    cond (is_spi (part_of made.part).bus)
    (SpiLedger.writes (part_of made.part) (saved_in made.status) (without_ignored (part_of made.part) (SpiLedger.items h)))
    (I2cLedger.writes (part_of made.part) made.pins (I2cLedger.items h))

-- the saved bits: those of the last permitted status write, or those made; power off zeroes them on part 0; I2C parts have none
abbrev pub ledger_bits : Model → List Entry → SavedBits
ledger_bits made h =
    cond (is_spi (part_of made.part).bus)
    (SpiLedger.bits (part_of made.part) (saved_in made.status) (without_ignored (part_of made.part) (SpiLedger.items h)))
    zero_bits
