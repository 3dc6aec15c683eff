-- One sample of an I2C part, from the parts of the state that the loop keeps to those parts after it, edge by edge. Assumes
-- nothing.
use Prim.Native.Nat.{ℕ}
use mathlib.Core.Path.{◌≡◌, refl, sym, ◌∙◌}
use mathlib.Core.Bool.{Bool}
use mathlib.Core.List.{List}
use Rattle.parts.specs.declared.part.Part.{Part}
use Rattle.parts.specs.declared.status.Status.{Status}
use Rattle.parts.specs.Table.{part_of}
use Rattle.serial.specs.Write.{applied}
use Rattle.trace.specs.declared.event.Event.TheVariants.{Sample}
use Rattle.transfer.specs.declared.buffer.AddressBuffer.{AddressBuffer}
use Rattle.transfer.specs.declared.edge.Edge.{Edge}
use Rattle.transfer.specs.declared.edge.Edge.TheVariants.{Start, Stop, Rise, Fall, Quiet}
use Rattle.transfer.specs.declared.levels.Levels.{Levels}
use Rattle.transfer.specs.declared.phase.Phase.{Phase}
use Rattle.i2c.specs.declared.sample.I2c.{I2c}
use Rattle.transfer.specs.Edge.{edge_of}
use Rattle.transfer.specs.Flag.{flag_of}
use Rattle.transfer.specs.Levels.{levels_of}
use Rattle.i2c.specs.Sample as I2cSample
use Rattle.i2c.specs.Sample.{answer_of, step_on, step_of, Ready}
use Rattle.events.specs.Event.{Outcome, sampled, i2c_sampled, advance_of}
use Rattle.chip.specs.Check.{Sound}
use Rattle.chip.proofs.CheckLaws.{sound_in, i2c_ready}
use Rattle.phase_bits.specs.Byte.{with_bits}
use Rattle.samples.specs.Kept.{left_by}
use Rattle.samples.specs.Samples.{i2c_of}
use Rattle.i2c_samples.specs.declared.bus.I2cBus.{I2cBus}
use Rattle.i2c_samples.specs.Bus.{i2c_model, state_of}

-- the bus is ready for the next sample
pub ready : (b : I2cBus) (m : List ℕ) → Sound (state_of b) m
    → Ready (part_of b.number) b.pins (i2c_of (levels_of b.last) b.pulling b.buffer (with_bits b.phase b.bits b.value)) m
ready b m h = i2c_ready (state_of b) _ m refl (sound_in (state_of b) m h)

-- what the sample x gives, by its edge
module _ (part pins : ℕ) (st : Status) (last : ℕ) (z : Bool) (b : AddressBuffer) (ph : Phase) (m : List ℕ) (x : ℕ) where
  abbrev step : Edge → I2cSample.Outcome
  step e = step_on e (part_of part) pins (i2c_of (levels_of last) z b ph) (levels_of x) m

  abbrev stepped : Edge → Outcome
  stepped e =
      record {
        result = sampled (flag_of ph (levels_of last) (levels_of x)) (answer_of (step e).i2c.pulling) (i2c_model part pins st x (step e).i2c.pulling (step e).i2c.buffer (step e).i2c.phase);
        memory = applied (step e).write m;
      }

  -- the levels are then those of x, and the answer is the pull then
  by_edge : (e : Edge) → i2c_sampled (i2c_model part pins st last z b ph) m (flag_of ph (levels_of last) (levels_of x)) (step e) ≡ stepped e
  by_edge Start = refl
  by_edge Stop = refl
  by_edge (Rise line) = refl
  by_edge Fall = refl
  by_edge Quiet = refl

  steps : (e : Edge) → edge_of z (levels_of last) (levels_of x) ≡ e → advance_of (i2c_model part pins st last z b ph) m (Sample x) ≡ stepped e
  unfolding advance_of step_of
  steps e k = rw k (by_edge e)

-- ---- a turn of the loop

-- the edge r was one of five, and the parts of the state that the loop keeps are those after it
pub record Turned (r : Edge) (p : Part) (pins : ℕ) (x : I2c) (l : Levels) (m : List ℕ) (z' : Bool) (b' : AddressBuffer) (ph' : Phase) (m' : List ℕ) : Type 0 where
  pub edge : Edge
  pub seen : r ≡ edge
  pub memory : m' ≡ applied (step_on edge p pins x l m).write m
  pub pulling : z' ≡ (step_on edge p pins x l m).i2c.pulling
  pub buffer : b' ≡ (step_on edge p pins x l m).i2c.buffer
  pub phase : ph' ≡ (step_on edge p pins x l m).i2c.phase

-- the sample x is taken
module _ (part pins : ℕ) (st : Status) (last : ℕ) (z : Bool) (b : AddressBuffer) (ph : Phase) (m : List ℕ) (p : Part) (ep : p ≡ part_of part) (x : ℕ) (before l : Levels) (eb : before ≡ levels_of last) (el : l ≡ levels_of x)
    (r : Edge) (er : r ≡ edge_of z before l) where
  pub turn : (f : Bool) (z' : Bool) (b' : AddressBuffer) (ph' : Phase) (m' : List ℕ) → f ≡ flag_of ph before l → Turned r p pins (i2c_of (levels_of last) z b ph) l m z' b' ph' m'
      → advance_of (i2c_model part pins st last z b ph) m (Sample x) ≡ left_by f (i2c_model part pins st x z' b' ph') m'
  turn f z' b' ph' m' ef w =
      let k : edge_of z (levels_of last) (levels_of x) ≡ w.edge = rw (eb, el) at (sym er ∙ w.seen) in
      rw (ef, w.memory, w.pulling, w.buffer, w.phase, ep, eb, el) (steps part pins st last z b ph m x w.edge k)
