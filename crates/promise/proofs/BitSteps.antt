-- The saved bits likewise: one event more leaves the ledger's bits as they were, or takes all three from the first data byte of a
-- WRSR that it ends, or is a power off that zeroes them. From the ledger's definition. Assumes nothing.
use Prim.Native.Nat.{ℕ}
use mathlib.Core.Path.{◌≡◌, refl, ap}
use mathlib.Core.Bool.{Bool, true, false, cond, not, ◌&&◌}
use mathlib.Core.List.{List, [], ◌∷◌, ◌++◌}
use lib.Dec.{eqb}
use Rattle.parts.specs.declared.part.Part.{Part}
use Rattle.parts.specs.Table.{is_spi, part_of}
use Rattle.parts.proofs.Rows.{and_both}
use Rattle.trace.specs.declared.event.Event.{Event}
use Rattle.trace.specs.declared.event.Event.TheVariants.{SpiPowerOn, I2cPowerOn, PowerOff, Sample, Expected}
use Rattle.trace.specs.Read.{read_of, Read, Whole, Refused}
use Rattle.selection.specs.declared.edge.Edge.{Edge}
use Rattle.selection.specs.declared.edge.Edge.TheVariants.{Select, Deselect, Rise, Fall, Quiet}
use Rattle.selection.specs.declared.opcode.Command.TheVariants.{WREN, WRDI, RDSR, WRSR, READ, WRITE, FSTRD, RDID, SLEEP, Unknown}
use Rattle.selection.specs.Edge.{edge_of}
use Rattle.selection.specs.Levels.{levels_of}
use Rattle.chip.specs.declared.model.Model.{Model}
use Rattle.runs.specs.Event.{event_of}
use Rattle.ledger.specs.Bits as Bits
use Rattle.ledger.specs.History.{Entry}
use Rattle.ledger.specs.SpiLedger.{unended, ended, Item, power_on, power_off, selection, with_bit, closed, items_on_edge, last_sample, items, Reading, partial, command, reading, asleep, without_ignored, enabled, SavedBits, zero_bits, bits_in, status_write, bits_after, bits}
use Rattle.promise.specs.Lists.{Observed, observed, model_after, memory_after}
use Rattle.promise.specs.Fed.{with_event}
use Rattle.promise.specs.Ledger.{saved_in, ledger_bits}
use Rattle.promise.specs.Promise.{made_by, history_of}
use Rattle.promise.specs.BitSteps.{BitsOldOrNew, old, written, zeroed, LedgerBits, ModelBits}
use Rattle.promise.proofs.Ranges.{made_in, made_off}
use Rattle.promise.proofs.Joins.{fed_join}
use Rattle.promise.proofs.Steps.{list_bits}

module _ (p : Part) (made : SavedBits) where
  abbrev left : List Item → SavedBits
  left is = bits p made (without_ignored p is)

  -- ---- the end of a selection

  module _ (bs : List Bool) (wp : Bool) (is : List Item) where
    abbrev Ends : SavedBits → Type 0
    Ends b' = BitsOldOrNew p (selection bs (ended wp) ∷ is) (left is) b'

    by_bytes_lem : (rest : List Bool) (vs : List ℕ) → reading p bs ≡ command WRSR rest → Bits.bytes rest ≡ vs
        → Ends (status_write vs (enabled p (without_ignored p is)) wp (left is))
    by_bytes_lem rest [] r q = old refl
    by_bytes_lem rest (v ∷ vs) r q = by (enabled p (without_ignored p is) && not ((left is).srwd && not wp)) refl
      where
        by : (y : Bool) → (enabled p (without_ignored p is) && not ((left is).srwd && not wp)) ≡ y → Ends (cond y (bits_in v) (left is))
        by true t = written bs wp is rest v vs refl r q (and_both (enabled p (without_ignored p is)) _ t).0 refl
        by false t = old refl

    by_reading : (r : Reading) → reading p bs ≡ r → Ends (bits_after r (enabled p (without_ignored p is)) wp (left is))
    by_reading partial q = old refl
    by_reading (command WREN rest) q = old refl
    by_reading (command WRDI rest) q = old refl
    by_reading (command RDSR rest) q = old refl
    by_reading (command WRSR rest) q = by_bytes_lem rest (Bits.bytes rest) q refl
    by_reading (command READ rest) q = old refl
    by_reading (command WRITE rest) q = old refl
    by_reading (command FSTRD rest) q = old refl
    by_reading (command RDID rest) q = old refl
    by_reading (command SLEEP rest) q = old refl
    by_reading (command Unknown rest) q = old refl

    by_sleep : (y : Bool) → BitsOldOrNew p (selection bs (ended wp) ∷ is) (bits p made (cond y (without_ignored p is) (selection bs unended ∷ without_ignored p is)))
        (bits p made (cond y (without_ignored p is) (selection bs (ended wp) ∷ without_ignored p is)))
    by_sleep true = old refl
    by_sleep false = by_reading (reading p bs) refl

  -- ---- one event

  abbrev Steps : List Item → List Item → Type 0
  Steps is is' = BitsOldOrNew p is' (left is) (left is')

  closes : (wp : Bool) (is : List Item) → Steps is (closed wp is)
  closes wp [] = old refl
  closes wp (power_on ∷ is) = old refl
  closes wp (power_off ∷ is) = old refl
  closes wp (selection bs unended ∷ is) = by_sleep bs wp is (asleep p is)
  closes wp (selection bs (ended w) ∷ is) = old refl

  -- an open selection has not changed the bits
  open_bits : (y : Bool) (bs : List Bool) (hs : List Item) → bits p made (cond y hs (selection bs unended ∷ hs)) ≡ bits p made hs
  open_bits true bs hs = refl
  open_bits false bs hs = refl

  rises : (x : Bool) (is : List Item) → Steps is (with_bit x is)
  rises x [] = old refl
  rises x (power_on ∷ is) = old refl
  rises x (power_off ∷ is) = old refl
  rises x (selection bs unended ∷ is) =
      old (rw (open_bits (asleep p is) bs (without_ignored p is), open_bits (asleep p is) (bs ++ (x ∷ [])) (without_ignored p is)))
  rises x (selection bs (ended w) ∷ is) = old refl

  on_edge : (e : Edge) (wp : Bool) (is : List Item) → Steps is (items_on_edge e wp is)
  on_edge Select wp is = old (open_bits (asleep p is) [] (without_ignored p is))
  on_edge Deselect wp is = closes wp is
  on_edge (Rise x) wp is = rises x is
  on_edge Fall wp is = old refl
  on_edge Quiet wp is = old refl

  on_off : (y : Bool) (is : List Item) → p.saved ≡ y → Steps is (power_off ∷ is)
  on_off true is q = old (ap (λ (y : Bool). cond y (bits p made (without_ignored p is)) zero_bits) q)
  on_off false is q = zeroed is refl q (rw q)

  on_event : (e : Event) (a : ℕ) (h : List Entry) → Steps (items h) (items (record { event = e; answer = a } ∷ h))
  on_event (SpiPowerOn x) a h = old refl
  on_event (I2cPowerOn x n) a h = old refl
  on_event PowerOff a h = on_off p.saved (items h) refl
  on_event (Sample x) a h = on_edge (edge_of (last_sample h) (levels_of x)) (levels_of x).wp (items h)
  on_event (Expected v) a h = old refl

  on_fed : (y : Bool) (r : Read) (a : ℕ) (h : List Entry) → Steps (items h) (items (cond y (with_event r a h) h))
  on_fed true (Whole e n) a h = on_event e a h
  on_fed true (Refused r place) a h = old refl
  on_fed false r a h = old refl

-- for every making, first memory and list of events, and one event more
module _ (part pins bits : ℕ) (first : List ℕ) (es : List (List ℕ)) (t : List ℕ) where
  abbrev made : Model
  made = made_by part pins bits

  ledger_step : BitsOldOrNew (part_of made.part) (items (history_of made first (es ++ (t ∷ []))))
      (ledger_bits made (history_of made first es)) (ledger_bits made (history_of made first (es ++ (t ∷ []))))
  ledger_step = by (is_spi (part_of made.part).bus) refl
    where
      by : (y : Bool) → is_spi (part_of made.part).bus ≡ y
          → BitsOldOrNew (part_of made.part) (items (history_of made first (es ++ (t ∷ []))))
          (ledger_bits made (history_of made first es)) (ledger_bits made (history_of made first (es ++ (t ∷ []))))
      by true q =
          let x : Observed = observed (event_of (model_after made first es) (memory_after made first es) t) in
          rw (q, fed_join (part_of made.part) es (t ∷ []) made first [])
          (on_fed (part_of made.part) (saved_in made.status) (eqb x.number 0) (read_of (part_of made.part) t) x.answer (history_of made first es))
      by false q = rw q (old refl)

  -- the same of the bits that the model holds, which are the ledger's after every list
  model_step : BitsOldOrNew (part_of made.part) (items (history_of made first (es ++ (t ∷ []))))
      (saved_in (model_after made first es).status) (saved_in (model_after made first (es ++ (t ∷ []))).status)
  model_step =
      let same = list_bits made first (made_in part pins bits) (made_off part pins bits) in
      rw (same es, same (es ++ (t ∷ []))) ledger_step

pub bits_old_or_new : (part pins bits : ℕ) (first : List ℕ) → LedgerBits part pins bits first
bits_old_or_new part pins bits first es t = ledger_step part pins bits first es t

pub model_bits_old_or_new : (part pins bits : ℕ) (first : List ℕ) → ModelBits part pins bits first
model_bits_old_or_new part pins bits first es t = model_step part pins bits first es t
