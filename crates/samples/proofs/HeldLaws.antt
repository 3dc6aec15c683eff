-- An expected answer that holds is like a sample with the same levels, on either bus: so what the next event of the samples gives is
-- what the sample gives that it amounts to. From what happens between two samples with the same levels, which is nothing. Assumes
-- nothing.
use Prim.Native.Nat.{ℕ, ◌+◌}
use mathlib.Core.Path.{◌≡◌, refl, ◌∙◌}
use mathlib.Core.Bool.{Bool, true, false}
use mathlib.Core.List.{List}
use mathlib.Core.Logic.{⊎_elim}
use native.Mathlib.Omega.{arith}
use lib.Dec.{eqb}
use lib.ListN.{length, drop, set, get_or}
use borrow.Author.Tests.{eq-eqb}
use Rattle.parts.specs.declared.status.Status.{Status}
use Rattle.parts.specs.Table.{part_of}
use Rattle.serial.proofs.LevelLaws.{same_level}
use Rattle.trace.specs.declared.event.Event.{Event}
use Rattle.trace.specs.declared.event.Event.TheVariants.{Sample, Expected}
use Rattle.trace.specs.Sample.{stays_first, first_event}
use Rattle.selection.specs.declared.edge.Edge.TheVariants as SpiEdges
use Rattle.selection.specs.declared.levels.Levels as SpiLevel
use Rattle.selection.specs.Edge as SpiEdge
use Rattle.selection.specs.Flag as SpiFlag
use Rattle.selection.specs.Levels as SpiLevels
use Rattle.spi.specs.declared.sample.Spi.{Spi}
use Rattle.spi.specs.Show as SpiShow
use Rattle.spi.specs.Sample as SpiSample
use Rattle.transfer.specs.declared.edge.Edge.TheVariants as I2cEdges
use Rattle.transfer.specs.declared.levels.Levels as I2cLevel
use Rattle.transfer.specs.Edge as I2cEdge
use Rattle.transfer.specs.Flag as I2cFlag
use Rattle.transfer.specs.Levels as I2cLevels
use Rattle.i2c.specs.declared.sample.I2c.{I2c}
use Rattle.i2c.specs.Sample as I2cSample
use Rattle.chip.specs.declared.model.BusState.{BusState}
use Rattle.chip.specs.declared.model.BusState.TheVariants.{Unpowered, SpiOn, I2cOn}
use Rattle.chip.specs.declared.model.Model.{Model}
use Rattle.chip.specs.Model.{model_of}
use Rattle.events.specs.Event.{Outcome, keeping, expected, spi_sampled, i2c_sampled, advance_on, advance_of}
use Rattle.events.specs.Flag.{flag_at}
use Rattle.samples.specs.Kept.{present, LastOn}
use Rattle.samples.specs.Samples.{stays_on, first_done, first_sample, next_is}
use Rattle.samples.proofs.NextLaws.{next_which}
use Rattle.samples.proofs.SamplesLaws.{End, first, Going, goes_on}

-- ---- nothing happens between two samples with the same levels

spi_same : (l : SpiLevel.Levels) → SpiEdge.edge_of l l ≡ SpiEdges.Quiet
spi_same l = by l.cs l.hold l.sck l.si
  where
    by : (c h k i : Bool)
        → SpiEdge.edge_of (record { cs = c; sck = k; si = i; wp = l.wp; hold = h }) (record { cs = c; sck = k; si = i; wp = l.wp; hold = h }) ≡ SpiEdges.Quiet
    by true h k i = refl
    by false true true i = refl
    by false true false i = refl
    by false false k i = refl

i2c_same : (z : Bool) (l : I2cLevel.Levels) → I2cEdge.edge_of z l l ≡ I2cEdges.Quiet
i2c_same z l = by l.scl (I2cEdge.line_of l.sda z)
  where
    by : (c k : Bool) → I2cEdge.edge_on c c k k ≡ I2cEdges.Quiet
    by true true = refl
    by true false = refl
    by false k = refl

-- ---- an expected answer that holds

module _ (part pins : ℕ) (st : Status) (m : List ℕ) where
  spi_held : (b : Spi) (l : SpiLevel.Levels) → b.last ≡ l
      → keeping m (expected (model_of part pins st (SpiOn b)) (SpiShow.answer_at b.last b.shown) (present (SpiOn b)))
      ≡ spi_sampled (model_of part pins st (SpiOn b)) m (SpiFlag.flag_of b.last l) (SpiSample.step_of (part_of part) st b l m)
  unfolding SpiSample.step_of
  spi_held b l e = rw (← e, eq-eqb (present (SpiOn b)) (present (SpiOn b)) refl, spi_same b.last, same_level b.last.wp)

  i2c_held : (b : I2c) (l : I2cLevel.Levels) → b.last ≡ l
      → keeping m (expected (model_of part pins st (I2cOn b)) (I2cSample.answer_of b.pulling) (present (I2cOn b)))
      ≡ i2c_sampled (model_of part pins st (I2cOn b)) m (I2cFlag.flag_of b.phase b.last l) (I2cSample.step_of (part_of part) pins b l m)
  unfolding I2cSample.step_of
  i2c_held b l e = rw (← e, eq-eqb (present (I2cOn b)) (present (I2cOn b)) refl, i2c_same b.pulling b.last, same_level b.last.wp)

  held_on : (b : BusState) (x : ℕ) → LastOn b x
      → advance_on b (part_of part) (model_of part pins st b) m (Expected (present b)) ≡ advance_on b (part_of part) (model_of part pins st b) m (Sample x)
  held_on Unpowered x l = absurd l
  held_on (SpiOn b) x l = spi_held b (SpiLevels.levels_of x) l
  held_on (I2cOn b) x l = i2c_held b (I2cLevels.levels_of x) l

module _ (s : Model) (m : List ℕ) (last : ℕ) (on : LastOn s.bus last) where
  held : advance_of s m (Expected (present s.bus)) ≡ advance_of s m (Sample last)
  unfolding advance_of
  held = held_on s.part s.pins s.status m s.bus last on

  -- what the event at the front of u gives
  pub first_sampled : (u : List ℕ) → stays_on s.bus u ≡ true → first_done s m u ≡ advance_of s m (Sample (first_sample last u))
  first_sampled u h = by (eqb (get_or u 0 0) 4) refl
    where
      by : (y : Bool) → eqb (get_or u 0 0) 4 ≡ y → first_done s m u ≡ advance_of s m (Sample (first_sample last u))
      by true q = rw q
      by false q =
          ⊎_elim
          (λ (w : first_event u ≡ Sample (get_or u 1 0)). let d : ◌≡◌ {A = Event} (Expected (get_or u 1 0)) (Sample (get_or u 1 0)) = rw q at w in let o : ◌≡◌ {A = ℕ} 0 1 = cc in absurd (omega arith))
          (λ (w : first_event u ≡ Expected (present s.bus)). rw (w, q) held)
          (next_which s.bus u h)

-- ---- a turn of a loop

-- the event at offset o is taken as the sample x, and gives r
pub takes : {t : List ℕ} {q : ℕ} {goal : End} {s : Model} {f c o : ℕ} {m buf : List ℕ} → Going t q goal s f c o m buf
    → (limit a : ℕ) → ((u : List ℕ) → stays_on s.bus u ≡ stays_first limit a u) → next_is limit a q c (drop o t) ≡ true
    → (last : ℕ) → LastOn s.bus last → (x : ℕ) → x ≡ first_sample last (drop o t) → (r : Outcome) → advance_of s m (Sample x) ≡ r
    → Going t q goal r.result.model (flag_at (length t) f o r.result.flag) (c + 1) (o + 2) r.memory (set buf c r.result.answer)
takes {t} {q} {s = s} {c = c} {o} {m} g limit a bus h last on x ex r e =
    goes_on g limit a bus h r
    (first_sampled s m last on (drop o t) (bus (drop o t) ∙ first limit a q c (drop o t) h) ∙ rw ex at e)
