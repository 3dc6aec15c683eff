-- What it means that a state and a memory agree with the ledger of a model just made, and that one event on either bus keeps it
-- so, by the same facts for one sample and for a power on. Assumes nothing.
use Prim.Native.Nat.{ℕ, zero, suc}
use mathlib.Core.Path.{◌≡◌, refl, ap}
use mathlib.Core.Bool.{Bool, true, false, cond}
use mathlib.Core.List.{List}
use lib.Dec.{eqb}
use Rattle.parts.specs.declared.answer.Answer.{Answer}
use Rattle.parts.specs.declared.part.Part.{Part}
use Rattle.parts.specs.declared.refusal.Refusal.TheVariants as R
use Rattle.parts.specs.declared.status.Status.{Status}
use Rattle.parts.specs.Numbers.{answer_number}
use Rattle.parts.specs.Status.{cleared}
use Rattle.parts.specs.Table.{is_spi, part_of, Fit}
use Rattle.trace.specs.declared.event.Event.{Event}
use Rattle.trace.specs.declared.event.Event.TheVariants.{SpiPowerOn, I2cPowerOn, PowerOff, Sample, Expected}
use Rattle.trace.proofs.SuitLaws.{Suits}
use Rattle.spi.specs.declared.sample.Spi as SpiState
use Rattle.selection.specs.declared.edge.Edge.{Edge}
use Rattle.selection.specs.declared.edge.Edge.TheVariants.{Select, Deselect, Rise, Fall, Quiet}
use Rattle.selection.specs.declared.levels.Levels as SpiLevel
use Rattle.selection.specs.Edge.{edge_of}
use Rattle.selection.specs.Levels as SpiLevels
use Rattle.spi.specs.Sample as SpiSample
use Rattle.spi.specs.Show as SpiShow
use Rattle.i2c.specs.declared.sample.I2c as I2cState
use Rattle.transfer.specs.Levels as I2cLevels
use Rattle.i2c.specs.Sample as I2cSample
use Rattle.chip.specs.declared.model.BusState.{BusState}
use Rattle.chip.specs.declared.model.BusState.TheVariants.{Unpowered, SpiOn, I2cOn}
use Rattle.chip.specs.declared.model.Model.{Model}
use Rattle.events.specs.Event.{Outcome, keeping, accepted, refused, on_unpowered, on_spi, on_i2c, advance_on}
use Rattle.chip.specs.Model.{model_of}
use Rattle.ledger.specs.History.{Entry}
use Rattle.ledger.specs.Stores.{stored}
use Rattle.ledger.specs.SpiLedger.{SavedBits, zero_bits, register}
use Rattle.ledger.specs.SpiLedger as SpiLedger
use Rattle.ledger.specs.I2cLedger as I2cLedger
use Rattle.ledger.proofs.SpiFits as SpiFits
use Rattle.ledger.proofs.I2cFits as I2cFits
use Rattle.ledger.specs.Word.{Wired}
use Rattle.promise.specs.Ledger.{saved_in, ledger_stores, ledger_bits}
use Rattle.promise.proofs.Runs.{entered}

-- ---- what is left of the register at power off

kept_register : (y : Bool) (b : SavedBits) → cond y (register b false) cleared ≡ register (cond y b zero_bits) false
kept_register true b = refl
kept_register false b = refl

-- no I2C part saves bits
pub i2c_unsaved : (n : ℕ) → is_spi (part_of n).bus ≡ false → (part_of n).saved ≡ false
i2c_unsaved zero h = refl
i2c_unsaved (suc zero) h = h
i2c_unsaved (suc (suc zero)) h = h
i2c_unsaved (suc (suc (suc zero))) h = refl
i2c_unsaved (suc (suc (suc (suc zero)))) h = refl
i2c_unsaved (suc (suc (suc (suc (suc n))))) h = refl

-- the sample is the last one then
pub sample_last : (p : Part) (st : Status) (s : SpiState.Spi) (l : SpiLevel.Levels) (m : List ℕ) → l ≡ (SpiSample.step_of p st s l m).spi.last
unfolding SpiSample.step_of
sample_last p st s l m = by (edge_of s.last l)
  where
    by : (e : Edge) → l ≡ (SpiSample.step_on e p st s l m).spi.last
    by Select = refl
    by Deselect = refl
    by (Rise x) = refl
    by Fall = refl
    by Quiet = refl

module _ (made : Model) (first : List ℕ) where
  abbrev part : Part
  part = part_of made.part

  -- without power memory and register are the ledger's; under power the bus is the part's, and what it waits for is what the items
  -- of the history say
  abbrev pub AgreesOn : BusState → Status → List ℕ → List Entry → Type 0
  AgreesOn Unpowered st m h = (m ≡ stored first (ledger_stores made h)) × (st ≡ register (ledger_bits made h) false)
  AgreesOn (SpiOn x) st m h =
      (is_spi part.bus ≡ true)
      × SpiFits.Good part (saved_in made.status) first st x m (SpiLedger.items h)
      × (SpiLedger.last_sample h ≡ x.last)
  AgreesOn (I2cOn x) st m h =
      (is_spi part.bus ≡ false) × I2cFits.Good part made.pins first x m (I2cLedger.items h) (I2cLedger.last_wires h)

  -- with the memory, whatever the bus
  pub memory_agrees : (b : BusState) (st : Status) (m : List ℕ) (h : List Entry) → AgreesOn b st m h → m ≡ stored first (ledger_stores made h)
  memory_agrees Unpowered st m h f = f.0
  memory_agrees (SpiOn x) st m h f = rw f.0 f.1.memory_is
  memory_agrees (I2cOn x) st m h f = rw f.0 f.1.memory_is

  -- one event of a model of this part and these pins
  module _ (st : Status) (m : List ℕ) (h : List Entry) where
    abbrev at : BusState → Model
    at b = model_of made.part made.pins st b

    abbrev AgreesAfter : Event → Outcome → Type 0
    AgreesAfter e o = AgreesOn o.result.model.bus o.result.model.status o.memory (entered e o h)

    unpowered_agrees : (e : Event) → Suits part e → AgreesOn Unpowered st m h → AgreesAfter e (keeping m (on_unpowered (at Unpowered) e))
    unpowered_agrees (SpiPowerOn x) u f =
        let a = SpiFits.power_good part (saved_in made.status) first (SpiLevels.levels_of x) (saved_in st) m (SpiLedger.items h) (rw u at f.0)
        (ap saved_in (rw u at f.1)) in
        (u, a, refl)
    unpowered_agrees (I2cPowerOn x a) u f =
        (u.0, I2cFits.power_good part made.pins first (I2cLevels.levels_of x) a m (I2cLedger.items h) (rw u.0 at f.0))
    unpowered_agrees PowerOff u f = f
    unpowered_agrees (Sample x) u f = f
    unpowered_agrees (Expected v) u f = f

    -- accepted or not, an expected answer changes nothing
    spi_expected : (y : Bool) (x : SpiState.Spi) (a : Answer) (v : ℕ) → AgreesOn (SpiOn x) st m h
        → AgreesAfter (Expected v) (keeping m (cond y (accepted a (at (SpiOn x))) (refused R.Unexpected (at (SpiOn x)))))
    spi_expected true x a v f = f
    spi_expected false x a v f = f

    i2c_expected : (y : Bool) (x : I2cState.I2c) (a : Answer) (v : ℕ) → AgreesOn (I2cOn x) st m h
        → AgreesAfter (Expected v) (keeping m (cond y (accepted a (at (I2cOn x))) (refused R.Unexpected (at (I2cOn x)))))
    i2c_expected true x a v f = f
    i2c_expected false x a v f = f

    pub spi_agrees : Fit part → (x : SpiState.Spi) (e : Event) → AgreesOn (SpiOn x) st m h → AgreesAfter e (on_spi part (at (SpiOn x)) x m e)
    spi_agrees fit x (SpiPowerOn v) f = f
    spi_agrees fit x (I2cPowerOn v a) f = f
    spi_agrees fit x PowerOff f =
        (rw f.0 f.1.memory_is, rw (f.0, f.1.status_is) (kept_register part.saved _))
    spi_agrees fit x (Sample v) f = (
      f.0,
      rw f.2 (SpiFits.sample_good part (saved_in made.status) first fit st x (SpiLevels.levels_of v) m (SpiLedger.items h) f.1),
      sample_last part st x (SpiLevels.levels_of v) m,
    )
    spi_agrees fit x (Expected v) f = let a : Answer = SpiShow.answer_at x.last x.shown in spi_expected (eqb v (answer_number a)) x a v f

    i2c_agrees : Wired part made.pins → (x : I2cState.I2c) (e : Event) → AgreesOn (I2cOn x) st m h → AgreesAfter e (on_i2c part (at (I2cOn x)) x m e)
    i2c_agrees wired x (SpiPowerOn v) f = f
    i2c_agrees wired x (I2cPowerOn v a) f = f
    i2c_agrees wired x PowerOff f = (rw f.0 f.1.memory_is, rw (f.0, i2c_unsaved made.part f.0))
    i2c_agrees wired x (Sample v) f =
        (f.0, I2cFits.sample_good part made.pins first wired x (I2cLevels.levels_of v) m (I2cLedger.items h) (I2cLedger.last_wires h) f.1)
    i2c_agrees wired x (Expected v) f = let a : Answer = I2cSample.answer_of x.pulling in i2c_expected (eqb v (answer_number a)) x a v f

    pub event_agrees : Fit part → Wired part made.pins → (b : BusState) (e : Event) → Suits part e → AgreesOn b st m h → AgreesAfter e (advance_on b part (at b) m e)
    event_agrees fit wired Unpowered e u f = unpowered_agrees e u f
    event_agrees fit wired (SpiOn x) e u f = spi_agrees fit x e f
    event_agrees fit wired (I2cOn x) e u f = i2c_agrees wired x e f
