-- One sample of an SPI part, from the parts of the state that the loop keeps to those parts after it, edge by edge. Assumes
-- nothing.
use Prim.Native.Nat.{ℕ}
use mathlib.Core.Path.{◌≡◌, refl, sym, ◌∙◌}
use mathlib.Core.Bool.{Bool}
use mathlib.Core.List.{List}
use Rattle.parts.specs.declared.answer.Answer.{Answer}
use Rattle.parts.specs.declared.part.Part.{Part}
use Rattle.parts.specs.declared.status.Status.{Status}
use Rattle.parts.specs.Table.{part_of}
use Rattle.serial.specs.Write.{applied}
use Rattle.trace.specs.declared.event.Event.TheVariants.{Sample}
use Rattle.selection.specs.declared.edge.Edge.{Edge}
use Rattle.selection.specs.declared.edge.Edge.TheVariants.{Select, Deselect, Rise, Fall, Quiet}
use Rattle.selection.specs.declared.levels.Levels.{Levels}
use Rattle.selection.specs.declared.phase.Phase.{Phase}
use Rattle.spi.specs.declared.sample.Spi.{Spi}
use Rattle.selection.specs.Edge.{edge_of}
use Rattle.selection.specs.Flag.{flag_of}
use Rattle.selection.specs.Levels.{levels_of}
use Rattle.spi.specs.Show.{answer_at}
use Rattle.spi.specs.Sample as SpiSample
use Rattle.spi.specs.Sample.{step_on, step_of, Ready}
use Rattle.events.specs.Event.{Outcome, sampled, spi_sampled, advance_of}
use Rattle.chip.specs.Check.{Sound}
use Rattle.chip.proofs.CheckLaws.{sound_in, spi_ready}
use Rattle.phase_bits.specs.Field.{with_bits}
use Rattle.samples.specs.Kept.{left_by}
use Rattle.samples.specs.Samples.{spi_of}
use Rattle.spi_samples.specs.declared.bus.SpiBus.{SpiBus}
use Rattle.spi_samples.specs.Bus.{spi_model, state_of}

-- the bus is ready for the next sample
pub ready : (b : SpiBus) (m : List ℕ) → Sound (state_of b) m
    → Ready (part_of b.number) (spi_of (levels_of b.last) b.asleep b.shown (with_bits b.phase b.bits b.value)) m
ready b m h = spi_ready (state_of b) _ m refl (sound_in (state_of b) m h)

-- what the sample x gives, by its edge
module _ (part pins : ℕ) (st : Status) (last : ℕ) (z : Bool) (shown : Answer) (ph : Phase) (m : List ℕ) (x : ℕ) where
  abbrev step : Edge → SpiSample.Outcome
  step e = step_on e (part_of part) st (spi_of (levels_of last) z shown ph) (levels_of x) m

  abbrev stepped : Edge → Outcome
  stepped e =
      record {
        result = sampled (flag_of (levels_of last) (levels_of x)) (answer_at (levels_of x) (step e).spi.shown) (spi_model part pins (step e).status x (step e).spi.asleep (step e).spi.shown (step e).spi.phase);
        memory = applied (step e).write m;
      }

  -- the levels are then those of x, and the answer is what is shown then
  by_edge : (e : Edge) → spi_sampled (spi_model part pins st last z shown ph) m (flag_of (levels_of last) (levels_of x)) (step e) ≡ stepped e
  by_edge Select = refl
  by_edge Deselect = refl
  by_edge (Rise b) = refl
  by_edge Fall = refl
  by_edge Quiet = refl

  steps : (e : Edge) → edge_of (levels_of last) (levels_of x) ≡ e → advance_of (spi_model part pins st last z shown ph) m (Sample x) ≡ stepped e
  unfolding advance_of step_of
  steps e k = rw k (by_edge e)

-- ---- a turn of the loop

-- the edge r was one of five, and the parts of the state that the loop keeps are those after it
pub record Turned (r : Edge) (p : Part) (st : Status) (x : Spi) (l : Levels) (m : List ℕ) (st' : Status) (z' : Bool) (shown' : Answer) (ph' : Phase) (m' : List ℕ) : Type 0 where
  pub edge : Edge
  pub seen : r ≡ edge
  pub memory : m' ≡ applied (step_on edge p st x l m).write m
  pub status : st' ≡ (step_on edge p st x l m).status
  pub asleep : z' ≡ (step_on edge p st x l m).spi.asleep
  pub shown : shown' ≡ (step_on edge p st x l m).spi.shown
  pub phase : ph' ≡ (step_on edge p st x l m).spi.phase

-- the sample x is taken
module _ (part pins : ℕ) (st : Status) (last : ℕ) (z : Bool) (shown : Answer) (ph : Phase) (m : List ℕ) (p : Part) (ep : p ≡ part_of part) (x : ℕ) (before l : Levels) (eb : before ≡ levels_of last) (el : l ≡ levels_of x)
    (r : Edge) (er : r ≡ edge_of before l) where
  pub turn : (f : Bool) (st' : Status) (z' : Bool) (shown' : Answer) (ph' : Phase) (m' : List ℕ) → f ≡ flag_of before l → Turned r p st (spi_of (levels_of last) z shown ph) l m st' z' shown' ph' m'
      → advance_of (spi_model part pins st last z shown ph) m (Sample x) ≡ left_by f (spi_model part pins st' x z' shown' ph') m'
  turn f st' z' shown' ph' m' ef w =
      let k : edge_of (levels_of last) (levels_of x) ≡ w.edge = rw (eb, el) at (sym er ∙ w.seen) in
      rw (ef, w.memory, w.status, w.asleep, w.shown, w.phase, ep, eb, el) (steps part pins st last z shown ph m x w.edge k)
