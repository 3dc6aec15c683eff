-- An event that was read suits the part: a power on is of its bus, and a start address lies within its size. Assumes nothing.
use Prim.Native.Nat.{ℕ, ◌<◌}
use mathlib.Core.Path.{◌≡◌}
use mathlib.Core.Bool.{Bool, true, false, cond, not}
use mathlib.Core.List.{List}
use lib.Dec.{eqb}
use lib.ListN.{get_or}
use borrow.Author.Tests.{ltb-true, not-true}
use Rattle.parts.specs.declared.part.Part.{Part}
use Rattle.parts.specs.Table.{is_spi}
use Rattle.trace.specs.declared.event.Event.{Event}
use Rattle.trace.specs.declared.event.Event.TheVariants.{SpiPowerOn, I2cPowerOn, PowerOff, Sample, Expected}
use Rattle.trace.specs.Event.{start_in}
use Rattle.trace.specs.Read.{start_address, read_of, Whole}
use Rattle.trace.proofs.ReadLaws.{passed}

abbrev pub Suits : Part → Event → Type 0
Suits p (SpiPowerOn x) = is_spi p.bus ≡ true
Suits p (I2cPowerOn x a) = (is_spi p.bus ≡ false) × (a < p.size)
Suits p PowerOff = Unit {0}
Suits p (Sample x) = Unit {0}
Suits p (Expected v) = Unit {0}

-- by the tests for the kinds, which choose both whether a kind is known and the event
suits_by : (p : Part) (a b c d e : Bool) (x y : ℕ)
    → cond a (is_spi p.bus) (cond b (not (is_spi p.bus)) (cond c true (cond d true (cond e true false)))) ≡ true
    → start_in p (cond a (SpiPowerOn x) (cond b (I2cPowerOn x y) (cond c PowerOff (cond d (Sample x) (Expected x))))) ≡ true
    → Suits p (cond a (SpiPowerOn x) (cond b (I2cPowerOn x y) (cond c PowerOff (cond d (Sample x) (Expected x)))))
suits_by p true b c d e x y k f = k
suits_by p false true c d e x y k f =
    (not-true (is_spi p.bus) k, ltb-true y p.size f)
suits_by p false false true d e x y k f = tt
suits_by p false false false true e x y k f = tt
suits_by p false false false false e x y k f = tt

pub suits : (p : Part) (t : List ℕ) (e : Event) (n : ℕ) → read_of p t ≡ Whole e n → Suits p e
suits p t e n h =
    let s = passed p t e n h in
    let k : ℕ = get_or t 0 0 in
    rw s.event at
    (suits_by p (eqb k 1) (eqb k 2) (eqb k 3) (eqb k 4) (eqb k 5) (get_or t 1 0) (start_address (get_or t 2 0) (get_or t 3 0) (get_or t 4 0)) s.known s.start)
