-- Which accepted events move WP where it has to be held still, read off the events before them and their answers (document 02, ask 2): by
-- the two last samples, and on I2C the open span. Histories have the latest first.
use Rattle.std.specs.Prelude.{◌≡◌, Bool, true, false, List, [], ◌∷◌}
use Rattle.trace.specs.declared.event.Event.{Event}
use Rattle.trace.specs.declared.event.Event.TheVariants.{SpiPowerOn, I2cPowerOn, PowerOff, Sample, Expected}
use Rattle.selection.specs.declared.levels.Levels as Spi
use Rattle.selection.specs.Levels as SpiLevels
use Rattle.transfer.specs.declared.levels.Levels as I2c
use Rattle.transfer.specs.Levels as I2cLevels
use Rattle.ledger.specs.History.{Entry}
use Rattle.ledger.specs.SpiLedger.{last_sample}
use Rattle.ledger.specs.I2cLedger.{Item, idle, span, Wires, last_wires, items}

-- ---- SPI

-- from one sample to the next: CS# is 0 in both, and WP# is not the same
pub record Moves (a b : Spi.Levels) : Type 0 where
  pub selected_before : a.cs ≡ false
  pub selected_now : b.cs ≡ false
  pub moved : a.wp ≡ b.wp → ⊥

-- the event after a sample with the levels l; only a sample can be one
abbrev pub SpiWarns : Event → Spi.Levels → Type 0
SpiWarns (SpiPowerOn x) l = ⊥
SpiWarns (I2cPowerOn x a) l = ⊥
SpiWarns PowerOff l = ⊥
SpiWarns (Sample x) l = Moves l (SpiLevels.levels_of x)
SpiWarns (Expected v) l = ⊥

-- the latest event of a history
abbrev pub SpiWarned : List Entry → Type 0
SpiWarned [] = ⊥
SpiWarned (e ∷ h) = SpiWarns e.event (last_sample h)

-- ---- I2C

-- a START came, and since then no STOP and no power off
abbrev pub Opened : List Item → Type 0
Opened [] = ⊥
Opened (idle ∷ is) = ⊥
Opened (span ks ∷ is) = Unit {0}

-- a span is open before the sample l, and WP is not as in w, at the sample before
pub record MovesInSpan (is : List Item) (w : Wires) (l : I2c.Levels) : Type 0 where
  pub opened : Opened is
  pub moved : w.wp ≡ l.wp → ⊥

abbrev pub I2cWarns : Event → List Item → Wires → Type 0
I2cWarns (SpiPowerOn x) is w = ⊥
I2cWarns (I2cPowerOn x a) is w = ⊥
I2cWarns PowerOff is w = ⊥
I2cWarns (Sample x) is w = MovesInSpan is w (I2cLevels.levels_of x)
I2cWarns (Expected v) is w = ⊥

abbrev pub I2cWarned : List Entry → Type 0
I2cWarned [] = ⊥
I2cWarned (e ∷ h) = I2cWarns e.event (items h) (last_wires h)

-- ---- a flag is set exactly then

pub record Exactly (flag : Bool) (Warned : Type 0) : Type 0 where
  pub set : Warned → flag ≡ true
  pub only : flag ≡ true → Warned
