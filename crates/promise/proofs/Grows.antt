-- One event more in a history adds at most one permitted write to the ledger, after those that were there, and each puts a byte at an
-- address of the part: for every part whose addresses have bits, by selections and by spans. Assumes nothing.
use Prim.Native.Nat.{ℕ, ◌<◌}
use mathlib.Core.Path.{◌≡◌, refl, sym}
use mathlib.Core.Bool.{Bool, true, false, cond}
use mathlib.Core.List.{List, [], ◌∷◌, ◌++◌, append_assoc, append-nil}
use Rattle.parts.specs.declared.part.Part.{Part}
use Rattle.parts.specs.Table.{is_spi, part_of}
use Rattle.std.specs.Prelude.{None, Option}
use Rattle.serial.specs.declared.write.Write.{Write}
use Rattle.trace.specs.declared.event.Event.{Event}
use Rattle.trace.specs.declared.event.Event.TheVariants.{SpiPowerOn, I2cPowerOn, PowerOff, Sample, Expected}
use Rattle.selection.specs.declared.edge.Edge as SpiEdge
use Rattle.selection.specs.declared.edge.Edge.TheVariants as SpiEdges
use Rattle.selection.specs.declared.phase.Field.TheVariants.{Opcode}
use Rattle.selection.specs.declared.phase.Phase.TheVariants as SpiPhases
use Rattle.selection.specs.Edge as SpiEdgeOf
use Rattle.selection.specs.Levels as SpiLevels
use Rattle.spi.specs.Store as SpiStore
use Rattle.transfer.specs.declared.buffer.AddressBuffer.{AddressBuffer}
use Rattle.transfer.specs.declared.edge.Edge as I2cEdge
use Rattle.transfer.specs.declared.edge.Edge.TheVariants as I2cEdges
use Rattle.transfer.specs.declared.phase.Field.TheVariants.{Word}
use Rattle.transfer.specs.declared.phase.Phase.TheVariants as I2cPhases
use Rattle.transfer.specs.Levels as I2cLevels
use Rattle.i2c.specs.Store as I2cStore
use Rattle.chip.specs.declared.model.Model.{Model}
use Rattle.ledger.specs.History.{Entry}
use Rattle.ledger.specs.Stores.{Store}
use Rattle.ledger.specs.SpiLedger.{unended, ended, power_on, power_off, selection, asleep, without_ignored, enabled, SavedBits, register, bits}
use Rattle.ledger.specs.SpiLedger as SpiLedger
use Rattle.ledger.specs.I2cLedger.{Clock, idle, span}
use Rattle.ledger.specs.I2cLedger as I2cLedger
use Rattle.ledger.proofs.Proper.{AllProper, spi_proper, i2c_proper}
use Rattle.ledger.proofs.StoreLaws.{stores_of}
use Rattle.ledger.specs.Word.{Wired}
use Rattle.ledger.proofs.SpiReads.{phase_after, no_stores, stores_snoc, stores_end}
use Rattle.ledger.proofs.I2cReads.{after, wrote_more, span_wrote}
use Rattle.promise.specs.Ledger.{saved_in, ledger_stores}

-- the stores us are the stores ws, with at most one more after them
abbrev pub Grown : List Store → List Store → Type 0
Grown ws us = (w : Option Write) × us ≡ ws ++ stores_of w

same : (ws : List Store) → Grown ws ws
same ws = (None, sym (append-nil ws))

-- ---- SPI

module _ (p : Part) (made : SavedBits) (wide : 0 < p.width) where
  abbrev spi_stores : List SpiLedger.Item → List Store
  spi_stores is = SpiLedger.writes p made (without_ignored p is)

  select_grows : (y : Bool) (hs : List SpiLedger.Item)
      → Grown (SpiLedger.writes p made hs) (SpiLedger.writes p made (cond y hs (selection [] unended ∷ hs)))
  select_grows true hs = same _
  select_grows false hs = (None, rw no_stores)

  end_grows : (y : Bool) (bs : List Bool) (wp : Bool) (hs : List SpiLedger.Item)
      → Grown (SpiLedger.writes p made (cond y hs (selection bs unended ∷ hs))) (SpiLedger.writes p made (cond y hs (selection bs (ended wp) ∷ hs)))
  end_grows true bs wp hs = same _
  end_grows false bs wp hs = (
    SpiStore.end_write p (register (bits p made hs) (enabled p hs)) (phase_after p (SpiPhases.Taking Opcode 0 0) bs),
    rw (stores_end p (bits p made hs) (enabled p hs) wp wide bs, append_assoc),
  )

  rise_grows : (y : Bool) (bs : List Bool) (x : Bool) (hs : List SpiLedger.Item)
      → Grown (SpiLedger.writes p made (cond y hs (selection bs unended ∷ hs)))
      (SpiLedger.writes p made (cond y hs (selection (bs ++ (x ∷ [])) unended ∷ hs)))
  rise_grows true bs x hs = same _
  rise_grows false bs x hs = (
    SpiStore.rise_write p (register (bits p made hs) (enabled p hs)) (phase_after p (SpiPhases.Taking Opcode 0 0) bs) x,
    rw (stores_snoc p (bits p made hs) (enabled p hs) true wide bs x, append_assoc),
  )

  closed_grows : (wp : Bool) (is : List SpiLedger.Item) → Grown (spi_stores is) (spi_stores (SpiLedger.closed wp is))
  closed_grows wp [] = same _
  closed_grows wp (power_on ∷ is) = same _
  closed_grows wp (power_off ∷ is) = same _
  closed_grows wp (selection bs unended ∷ is) = end_grows (asleep p is) bs wp (without_ignored p is)
  closed_grows wp (selection bs (ended w) ∷ is) = same _

  bit_grows : (x : Bool) (is : List SpiLedger.Item) → Grown (spi_stores is) (spi_stores (SpiLedger.with_bit x is))
  bit_grows x [] = same _
  bit_grows x (power_on ∷ is) = same _
  bit_grows x (power_off ∷ is) = same _
  bit_grows x (selection bs unended ∷ is) = rise_grows (asleep p is) bs x (without_ignored p is)
  bit_grows x (selection bs (ended w) ∷ is) = same _

  edge_grows : (e : SpiEdge.Edge) (wp : Bool) (is : List SpiLedger.Item) → Grown (spi_stores is) (spi_stores (SpiLedger.items_on_edge e wp is))
  edge_grows SpiEdges.Select wp is = select_grows (asleep p is) (without_ignored p is)
  edge_grows SpiEdges.Deselect wp is = closed_grows wp is
  edge_grows (SpiEdges.Rise x) wp is = bit_grows x is
  edge_grows SpiEdges.Fall wp is = same _
  edge_grows SpiEdges.Quiet wp is = same _

  spi_grows : (e : Event) (a : ℕ) (h : List Entry)
      → Grown (spi_stores (SpiLedger.items h)) (spi_stores (SpiLedger.items (record { event = e; answer = a } ∷ h)))
  spi_grows (SpiPowerOn x) a h = same _
  spi_grows (I2cPowerOn x n) a h = same _
  spi_grows PowerOff a h = same _
  spi_grows (Sample x) a h =
      edge_grows (SpiEdgeOf.edge_of (SpiLedger.last_sample h) (SpiLevels.levels_of x)) (SpiLevels.levels_of x).wp (SpiLedger.items h)
  spi_grows (Expected v) a h = same _

-- ---- I2C

module _ (p : Part) (pins : ℕ) (wired : Wired p pins) where
  abbrev i2c_stores : List I2cLedger.Item → List Store
  i2c_stores is = I2cLedger.writes p pins is

  clock_grows : (k : Clock) (is : List I2cLedger.Item) → Grown (i2c_stores is) (i2c_stores (I2cLedger.with_clock k is))
  clock_grows k [] = same _
  clock_grows k (idle ∷ is) = same _
  clock_grows k (span ks ∷ is) =
      let b : AddressBuffer = record { address = 0; used = false } in (
        I2cStore.rise_write (after p pins (I2cPhases.Taking Word 0 0) b ks).phase k.wp,
        rw (← span_wrote p pins wired b (ks ++ (k ∷ [])), wrote_more, span_wrote p pins wired, append_assoc),
      )

  line_grows : (e : I2cEdge.Edge) (wp : Bool) (is : List I2cLedger.Item) → Grown (i2c_stores is) (i2c_stores (I2cLedger.items_on_edge e wp is))
  line_grows I2cEdges.Start wp is = (None, refl)
  line_grows I2cEdges.Stop wp is = same _
  line_grows (I2cEdges.Rise x) wp is = clock_grows (record { line = x; wp = wp }) is
  line_grows I2cEdges.Fall wp is = same _
  line_grows I2cEdges.Quiet wp is = same _

  i2c_grows : (e : Event) (a : ℕ) (h : List Entry)
      → Grown (i2c_stores (I2cLedger.items h)) (i2c_stores (I2cLedger.items (record { event = e; answer = a } ∷ h)))
  i2c_grows (SpiPowerOn x) a h = same _
  i2c_grows (I2cPowerOn x n) a h = same _
  i2c_grows PowerOff a h = same _
  i2c_grows (Sample x) a h =
      line_grows (I2cLedger.edge_between (I2cLedger.last_wires h) (I2cLedger.wires_at (I2cLevels.levels_of x) a)) (I2cLevels.levels_of x).wp (I2cLedger.items h)
  i2c_grows (Expected v) a h = same _

-- ---- either

pub ledger_grows : (made : Model) → 0 < (part_of made.part).width → Wired (part_of made.part) made.pins → (e : Event) (a : ℕ) (h : List Entry)
    → Grown (ledger_stores made h) (ledger_stores made (record { event = e; answer = a } ∷ h))
ledger_grows made wide wired e a h = by (is_spi (part_of made.part).bus) refl
  where
    by : (y : Bool) → is_spi (part_of made.part).bus ≡ y → Grown (ledger_stores made h) (ledger_stores made (record { event = e; answer = a } ∷ h))
    by true q = rw q (spi_grows (part_of made.part) (saved_in made.status) wide e a h)
    by false q = rw q (i2c_grows (part_of made.part) made.pins wired e a h)

-- ---- and every one is a byte at an address of the part

pub ledger_proper : (made : Model) → 0 < (part_of made.part).size → (h : List Entry) → AllProper (part_of made.part).size (ledger_stores made h)
ledger_proper made positive h = by (is_spi (part_of made.part).bus) refl
  where
    by : (y : Bool) → is_spi (part_of made.part).bus ≡ y → AllProper (part_of made.part).size (ledger_stores made h)
    by true q = rw q (spi_proper (part_of made.part) positive (saved_in made.status) (without_ignored (part_of made.part) (SpiLedger.items h)))
    by false q = rw q (i2c_proper (part_of made.part) positive made.pins (I2cLedger.items h))
