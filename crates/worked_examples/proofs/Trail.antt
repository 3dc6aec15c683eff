-- A run with the memory left out: bytes are read by a function of the address, and what is written is listed. On every memory that the
-- function describes it is the run, so that a case computes as quickly on a large part as on a small one. Assumes nothing.
use Prim.Native.Nat.{ℕ, zero, suc, ◌+◌, ◌≤◌}
use mathlib.Core.Path.{◌≡◌, refl, sym, ap, ◌∙◌}
use mathlib.Core.Bool.{Bool, true, false, cond, not, ◌&&◌}
use mathlib.Core.List.{List, [], ◌∷◌, ◌++◌}
use lib.Dec.{eqb, ltb}
use lib.ListN.{length, drop, get_or, set, length-set, get_or-eq_default}
use lib.Seq.{get_or-set_same, get_or-set_other}
use borrow.Author.Tests.{eqb-true, eqb-false, eq-eqb, ne_eqb, ltb-true, ltb-false}
use Rattle.parts.specs.declared.answer.Answer.{Answer}
use Rattle.parts.specs.declared.part.Part.{Part}
use Rattle.parts.specs.declared.status.Status.{Status}
use Rattle.parts.specs.Numbers.{level_of, refusal_number}
use Rattle.parts.specs.Table.{part_of}
use Rattle.std.specs.Prelude.{None, Option, Some}
use Rattle.serial.specs.declared.write.Write.{Write}
use Rattle.serial.specs.Bits.{bit_at}
use Rattle.serial.specs.Write.{applied, write_at}
use Rattle.trace.specs.declared.event.Event.{Event}
use Rattle.trace.specs.declared.event.Event.TheVariants.{SpiPowerOn, I2cPowerOn, PowerOff, Sample, Expected}
use Rattle.trace.specs.Read.{event_length, read_of, Read, Whole, Refused}
use Rattle.selection.specs.declared.edge.Edge as SpiEdge
use Rattle.selection.specs.declared.edge.Edge.TheVariants as SpiEdges
use Rattle.selection.specs.declared.levels.Levels as SpiLevel
use Rattle.selection.specs.declared.phase.Phase as SpiPhase
use Rattle.selection.specs.declared.phase.Phase.TheVariants as SpiPhases
use Rattle.selection.specs.declared.phase.Source.{Source}
use Rattle.selection.specs.declared.phase.Source.TheVariants.{Memory, Register, Identity}
use Rattle.selection.specs.Edge as SpiEdgeOf
use Rattle.selection.specs.Flag as SpiFlag
use Rattle.selection.specs.Levels as SpiLevels
use Rattle.spi.specs.declared.sample.Spi as SpiState
use Rattle.spi.specs.Sample as SpiSample
use Rattle.spi.specs.Show as SpiShow
use Rattle.transfer.specs.declared.edge.Edge as I2cEdge
use Rattle.transfer.specs.declared.edge.Edge.TheVariants as I2cEdges
use Rattle.transfer.specs.declared.levels.Levels as I2cLevel
use Rattle.transfer.specs.declared.phase.Phase as I2cPhase
use Rattle.transfer.specs.declared.phase.Phase.TheVariants as I2cPhases
use Rattle.transfer.specs.Edge as I2cEdgeOf
use Rattle.transfer.specs.Flag as I2cFlag
use Rattle.transfer.specs.Levels as I2cLevels
use Rattle.i2c.specs.declared.sample.I2c as I2cState
use Rattle.i2c.specs.Pull as I2cPull
use Rattle.i2c.specs.Sample as I2cSample
use Rattle.chip.specs.declared.model.BusState.{BusState}
use Rattle.chip.specs.declared.model.BusState.TheVariants.{Unpowered, SpiOn, I2cOn}
use Rattle.chip.specs.declared.model.Model.{Model}
use Rattle.chip.specs.Check.{check_of, Verdict, Passed, Failed}
use Rattle.events.specs.Reply.{Reply}
use Rattle.events.specs.Event.{Outcome, refused, on_unpowered, spi_sampled, i2c_sampled, on_spi, on_i2c, advance_on, advance_of}
use Rattle.events.specs.Flag.{flag_from}
use Rattle.runs.specs.Event as Events
use Rattle.runs.specs.Event.{event_of}
use Rattle.runs.specs.Run as Runs
use Rattle.runs.specs.Run.{Run, stop_at, after, loop_of, run_of}
use Rattle.runs.proofs.RunLaws.{taken, fault, Stops, at_quota, at_end, at_refusal, loop_induction}
use Rattle.worked_examples.specs.Cases.{Cell, cell, with_cells}

-- ---- bytes by address

-- the bytes of a memory of this length after a write
abbrev pub updated : ℕ → Option Write → (ℕ → ℕ) → ℕ → ℕ
updated size None f i = f i
updated size (Some w) f i = cond (eqb i w.address && ltb w.address size) w.value (f i)

-- the bytes of a memory
abbrev pub Reads : List ℕ → (ℕ → ℕ) → Type 0
Reads m f = (a : ℕ) → get_or m a 0 ≡ f a

past_end : (m : List ℕ) (f : ℕ → ℕ) (a v : ℕ) → Reads m f → length m ≤ a → get_or (set m a v) a 0 ≡ f a
past_end m f a v h l =
    let k : length (set m a v) ≤ a = rw length-set l in
    get_or-eq_default (set m a v) 0 k ∙ sym (get_or-eq_default m 0 l) ∙ h a

set_reads : (m : List ℕ) (f : ℕ → ℕ) (a v i : ℕ) → Reads m f → get_or (set m a v) i 0 ≡ cond (eqb i a && ltb a (length m)) v (f i)
set_reads m f a v i h = by (eqb i a) (ltb a (length m)) refl refl
  where
    by : (x y : Bool) → eqb i a ≡ x → ltb a (length m) ≡ y → get_or (set m a v) i 0 ≡ cond (x && y) v (f i)
    by true true e l = rw (eqb-true i a e) (get_or-set_same m a v 0 (ltb-true a (length m) l))
    by true false e l = rw (eqb-true i a e) (past_end m f a v h (ltb-false a (length m) l))
    by false y e l = get_or-set_other m a i v 0 (eqb-false i a e) ∙ h i

write_reads : (size : ℕ) (m : List ℕ) (f : ℕ → ℕ) → length m ≡ size → Reads m f → (w : Option Write) → Reads (applied w m) (updated size w f)
write_reads size m f e h None i = h i
write_reads size m f e h (Some w) i = rw (← e) (set_reads m f w.address w.value i h)

write_length : (size : ℕ) (m : List ℕ) → length m ≡ size → (w : Option Write) → length (applied w m) ≡ size
write_length size m e None = e
write_length size m e (Some w) = length-set m w.address w.value ∙ e

-- a memory with bytes set
abbrev pub described : ℕ → List Cell → (ℕ → ℕ) → ℕ → ℕ
described size [] f = f
described size (k ∷ ks) f = described size ks (updated size (write_at k.address k.value) f)

pub cells_read : (size : ℕ) (m : List ℕ) (f : ℕ → ℕ) (ks : List Cell) → length m ≡ size → Reads m f
    → Reads (with_cells m ks) (described size ks f)
cells_read size m f [] e h = h
cells_read size m f (k ∷ ks) e h =
    cells_read size (set m k.address k.value) _ ks (length-set m k.address k.value ∙ e)
    (write_reads size m f e h (write_at k.address k.value))

pub cells_length : (m : List ℕ) (ks : List Cell) → length (with_cells m ks) ≡ length m
cells_length m [] = refl
cells_length m (k ∷ ks) = cells_length (set m k.address k.value) ks ∙ length-set m k.address k.value

-- ---- one sample

abbrev shown_by : Part → Status → (ℕ → ℕ) → Source → ℕ → Answer
shown_by p st f (Memory a) k = level_of (bit_at (f a) k)
shown_by p st f Register k = SpiShow.shown_bit p st [] Register k
shown_by p st f (Identity i) k = SpiShow.shown_bit p st [] (Identity i) k

abbrev fall_by : Part → Status → (ℕ → ℕ) → SpiPhase.Phase → Answer → Answer
fall_by p st f SpiPhases.Rest old = old
fall_by p st f SpiPhases.Ignoring old = old
fall_by p st f (SpiPhases.Taking g n v) old = old
fall_by p st f (SpiPhases.Showing s k) old = shown_by p st f s k
fall_by p st f (SpiPhases.Waiting a) old = old
fall_by p st f (SpiPhases.Pending v a) old = old

abbrev spi_by : SpiEdge.Edge → Part → Status → SpiState.Spi → SpiLevel.Levels → (ℕ → ℕ) → SpiSample.Outcome
spi_by SpiEdges.Select p st s l f = SpiSample.step_on SpiEdges.Select p st s l []
spi_by SpiEdges.Deselect p st s l f = SpiSample.step_on SpiEdges.Deselect p st s l []
spi_by (SpiEdges.Rise b) p st s l f = SpiSample.step_on (SpiEdges.Rise b) p st s l []
spi_by SpiEdges.Fall p st s l f = SpiSample.step_to st l s.asleep (fall_by p st f s.phase s.shown) s.phase None
spi_by SpiEdges.Quiet p st s l f = SpiSample.step_on SpiEdges.Quiet p st s l []

abbrev pull_by : Part → ℕ → (ℕ → ℕ) → I2cPhase.Phase → Bool
pull_by p pins f I2cPhases.Rest = false
pull_by p pins f I2cPhases.Ignoring = false
pull_by p pins f (I2cPhases.Taking g n v) = I2cPull.pulls_after p pins [] (I2cPhases.Taking g n v)
pull_by p pins f (I2cPhases.Sending a n) = cond (ltb n 8) (not (bit_at (f a) n)) false

abbrev i2c_by : I2cEdge.Edge → Part → ℕ → I2cState.I2c → I2cLevel.Levels → (ℕ → ℕ) → I2cSample.Outcome
i2c_by I2cEdges.Start p pins s l f = I2cSample.step_on I2cEdges.Start p pins s l []
i2c_by I2cEdges.Stop p pins s l f = I2cSample.step_on I2cEdges.Stop p pins s l []
i2c_by (I2cEdges.Rise b) p pins s l f = I2cSample.step_on (I2cEdges.Rise b) p pins s l []
i2c_by I2cEdges.Fall p pins s l f = I2cSample.step_to l (pull_by p pins f s.phase) s.buffer s.phase None
i2c_by I2cEdges.Quiet p pins s l f = I2cSample.step_on I2cEdges.Quiet p pins s l []

module _ (m : List ℕ) (f : ℕ → ℕ) (h : Reads m f) where
  shown_by_lem : (p : Part) (st : Status) (s : Source) (k : ℕ) → SpiShow.shown_bit p st m s k ≡ shown_by p st f s k
  shown_by_lem p st (Memory a) k = ap (λ (v : ℕ). level_of (bit_at v k)) (h a)
  shown_by_lem p st Register k = refl
  shown_by_lem p st (Identity i) k = refl

  fall_by_lem : (p : Part) (st : Status) (ph : SpiPhase.Phase) (old : Answer) → SpiShow.after_fall p st m ph old ≡ fall_by p st f ph old
  fall_by_lem p st SpiPhases.Rest old = refl
  fall_by_lem p st SpiPhases.Ignoring old = refl
  fall_by_lem p st (SpiPhases.Taking g n v) old = refl
  fall_by_lem p st (SpiPhases.Showing s k) old = shown_by_lem p st s k
  fall_by_lem p st (SpiPhases.Waiting a) old = refl
  fall_by_lem p st (SpiPhases.Pending v a) old = refl

  spi_by_lem : (e : SpiEdge.Edge) (p : Part) (st : Status) (s : SpiState.Spi) (l : SpiLevel.Levels) → SpiSample.step_on e p st s l m ≡ spi_by e p st s l f
  spi_by_lem SpiEdges.Select p st s l = refl
  spi_by_lem SpiEdges.Deselect p st s l = refl
  spi_by_lem (SpiEdges.Rise b) p st s l = refl
  spi_by_lem SpiEdges.Fall p st s l =
      ap (λ (a : Answer). SpiSample.step_to st l s.asleep a s.phase None) (fall_by_lem p st s.phase s.shown)
  spi_by_lem SpiEdges.Quiet p st s l = refl

  pull_by_lem : (p : Part) (pins : ℕ) (ph : I2cPhase.Phase) → I2cPull.pulls_after p pins m ph ≡ pull_by p pins f ph
  pull_by_lem p pins I2cPhases.Rest = refl
  pull_by_lem p pins I2cPhases.Ignoring = refl
  pull_by_lem p pins (I2cPhases.Taking g n v) = refl
  pull_by_lem p pins (I2cPhases.Sending a n) = ap (λ (v : ℕ). cond (ltb n 8) (not (bit_at v n)) false) (h a)

  i2c_by_lem : (e : I2cEdge.Edge) (p : Part) (pins : ℕ) (s : I2cState.I2c) (l : I2cLevel.Levels) → I2cSample.step_on e p pins s l m ≡ i2c_by e p pins s l f
  i2c_by_lem I2cEdges.Start p pins s l = refl
  i2c_by_lem I2cEdges.Stop p pins s l = refl
  i2c_by_lem (I2cEdges.Rise b) p pins s l = refl
  i2c_by_lem I2cEdges.Fall p pins s l = ap (λ (z : Bool). I2cSample.step_to l z s.buffer s.phase None) (pull_by_lem p pins s.phase)
  i2c_by_lem I2cEdges.Quiet p pins s l = refl

-- ---- one event

-- what an event gives and what it writes
pub record Done : Type 0 where
  pub result : Reply
  pub write : Option Write

abbrev pub outcome : List ℕ → Done → Outcome
outcome m d = record { result = d.result; memory = applied d.write m }

-- of an event that writes nothing
abbrev pub unwritten : Reply → Done
unwritten r = record { result = r; write = None }

abbrev spi_done : Model → Bool → SpiSample.Outcome → Done
spi_done s flag o = record { result = (spi_sampled s [] flag o).result; write = o.write }

abbrev i2c_done : Model → Bool → I2cSample.Outcome → Done
i2c_done s flag o = record { result = (i2c_sampled s [] flag o).result; write = o.write }

abbrev on_spi_by : Part → Model → SpiState.Spi → (ℕ → ℕ) → Event → Done
on_spi_by p s x f (SpiPowerOn v) = unwritten (on_spi p s x [] (SpiPowerOn v)).result
on_spi_by p s x f (I2cPowerOn v a) = unwritten (on_spi p s x [] (I2cPowerOn v a)).result
on_spi_by p s x f PowerOff = unwritten (on_spi p s x [] PowerOff).result
on_spi_by p s x f (Sample v) =
    spi_done s (SpiFlag.flag_of x.last (SpiLevels.levels_of v)) (spi_by (SpiEdgeOf.edge_of x.last (SpiLevels.levels_of v)) p s.status x (SpiLevels.levels_of v) f)
on_spi_by p s x f (Expected v) = unwritten (on_spi p s x [] (Expected v)).result

abbrev on_i2c_by : Part → Model → I2cState.I2c → (ℕ → ℕ) → Event → Done
on_i2c_by p s x f (SpiPowerOn v) = unwritten (on_i2c p s x [] (SpiPowerOn v)).result
on_i2c_by p s x f (I2cPowerOn v a) = unwritten (on_i2c p s x [] (I2cPowerOn v a)).result
on_i2c_by p s x f PowerOff = unwritten (on_i2c p s x [] PowerOff).result
on_i2c_by p s x f (Sample v) =
    i2c_done s (I2cFlag.flag_of x.phase x.last (I2cLevels.levels_of v)) (i2c_by (I2cEdgeOf.edge_of x.pulling x.last (I2cLevels.levels_of v)) p s.pins x (I2cLevels.levels_of v) f)
on_i2c_by p s x f (Expected v) = unwritten (on_i2c p s x [] (Expected v)).result

abbrev advance_by : BusState → Part → Model → (ℕ → ℕ) → Event → Done
advance_by Unpowered p s f e = unwritten (on_unpowered s e)
advance_by (SpiOn x) p s f e = on_spi_by p s x f e
advance_by (I2cOn x) p s f e = on_i2c_by p s x f e

abbrev read_by : Read → Model → (ℕ → ℕ) → Done
read_by (Whole e n) s f = advance_by s.bus (part_of s.part) s f e
read_by (Refused r place) s f = unwritten (refused r s)

abbrev verdict_by : Verdict → Model → (ℕ → ℕ) → List ℕ → Done
verdict_by Passed s f t = read_by (read_of (part_of s.part) t) s f
verdict_by (Failed r) s f t = unwritten (refused r s)

-- with a memory of this length
abbrev pub event_by : ℕ → Model → (ℕ → ℕ) → List ℕ → Done
event_by size s f t = verdict_by (check_of s size) s f t

module _ (m : List ℕ) (f : ℕ → ℕ) (h : Reads m f) where
  on_spi_by_lem : (p : Part) (s : Model) (x : SpiState.Spi) (e : Event) → on_spi p s x m e ≡ outcome m (on_spi_by p s x f e)
  unfolding SpiSample.step_of
  on_spi_by_lem p s x (SpiPowerOn v) = refl
  on_spi_by_lem p s x (I2cPowerOn v a) = refl
  on_spi_by_lem p s x PowerOff = refl
  on_spi_by_lem p s x (Sample v) =
      ap (spi_sampled s m (SpiFlag.flag_of x.last (SpiLevels.levels_of v))) (spi_by_lem m f h (SpiEdgeOf.edge_of x.last (SpiLevels.levels_of v)) p s.status x (SpiLevels.levels_of v))
  on_spi_by_lem p s x (Expected v) = refl

  on_i2c_by_lem : (p : Part) (s : Model) (x : I2cState.I2c) (e : Event) → on_i2c p s x m e ≡ outcome m (on_i2c_by p s x f e)
  unfolding I2cSample.step_of
  on_i2c_by_lem p s x (SpiPowerOn v) = refl
  on_i2c_by_lem p s x (I2cPowerOn v a) = refl
  on_i2c_by_lem p s x PowerOff = refl
  on_i2c_by_lem p s x (Sample v) =
      ap (i2c_sampled s m (I2cFlag.flag_of x.phase x.last (I2cLevels.levels_of v))) (i2c_by_lem m f h (I2cEdgeOf.edge_of x.pulling x.last (I2cLevels.levels_of v)) p s.pins x (I2cLevels.levels_of v))
  on_i2c_by_lem p s x (Expected v) = refl

  advance_by_lem : (b : BusState) (p : Part) (s : Model) (e : Event) → advance_on b p s m e ≡ outcome m (advance_by b p s f e)
  advance_by_lem Unpowered p s e = refl
  advance_by_lem (SpiOn x) p s e = on_spi_by_lem p s x e
  advance_by_lem (I2cOn x) p s e = on_i2c_by_lem p s x e

  read_by_lem : (r : Read) (s : Model) → Events.on_read r s m ≡ outcome m (read_by r s f)
  unfolding advance_of
  read_by_lem (Whole e n) s = advance_by_lem s.bus (part_of s.part) s e
  read_by_lem (Refused r place) s = refl

  verdict_by_lem : (v : Verdict) (s : Model) (t : List ℕ) → Events.event_on_verdict v s m t ≡ outcome m (verdict_by v s f t)
  verdict_by_lem Passed s t = read_by_lem (read_of (part_of s.part) t) s
  verdict_by_lem (Failed r) s t = refl

  pub event_by_lem : (size : ℕ) (s : Model) (t : List ℕ) → length m ≡ size → event_of s m t ≡ outcome m (event_by size s f t)
  unfolding event_of
  event_by_lem size s t e = rw e (verdict_by_lem (check_of s size) s t)

-- ---- a run

-- number, state, count, both offsets, the bytes written and the answers
pub record Trail : Type 0 where
  pub number : ℕ
  pub model : Model
  pub count : ℕ
  pub offset : ℕ
  pub flag : ℕ
  pub writes : List Cell
  pub answers : List ℕ

-- the run on a memory
abbrev pub run_from : List ℕ → Trail → Run
run_from m r =
    record {
      number = r.number;
      model = r.model;
      count = r.count;
      offset = r.offset;
      flag = r.flag;
      memory = with_cells m r.writes;
      answers = r.answers;
    }

abbrev pub stop_by : ℕ → ℕ → List ℕ → Model → Trail
stop_by n place t s = record { number = n; model = s; count = 0; offset = place; flag = length t; writes = []; answers = [] }

abbrev cells_of : Option Write → List Cell
cells_of None = []
cells_of (Some w) = cell w.address w.value ∷ []

abbrev after_by : ℕ → Bool → ℕ → Option Write → Trail → Trail
after_by a f n w r =
    record {
      number = r.number;
      model = r.model;
      count = 1 + r.count;
      offset = n + r.offset;
      flag = flag_from f n r.flag;
      writes = cells_of w ++ r.writes;
      answers = a ∷ r.answers;
    }

unfoldable pub loop_by : ℕ → ℕ → List ℕ → Model → (ℕ → ℕ) → Trail
loop_by zero size t s f = stop_by 0 0 t s
loop_by (suc quota) size t s f =
    let d = event_by size s f t in
    cond (eqb (length t) 0) (stop_by 0 0 t s)
    (cond (eqb d.result.number 0)
    (after_by d.result.answer d.result.flag (event_length (get_or t 0 0)) d.write
    (loop_by quota size (drop (event_length (get_or t 0 0)) t) d.result.model (updated size d.write f)))
    (stop_by d.result.number (fault s t) t s))

abbrev run_verdict_by : Verdict → ℕ → ℕ → List ℕ → Model → (ℕ → ℕ) → Trail
run_verdict_by Passed quota size t s f = loop_by quota size t s f
run_verdict_by (Failed r) quota size t s f = stop_by (refusal_number r) 0 t s

abbrev pub run_by : ℕ → ℕ → List ℕ → Model → (ℕ → ℕ) → Trail
run_by quota size t s f = run_verdict_by (check_of s size) quota size t s f

after_by_lem : (a : ℕ) (f : Bool) (n : ℕ) (m : List ℕ) (w : Option Write) (r : Trail) → after a f n (run_from (applied w m) r) ≡ run_from m (after_by a f n w r)
after_by_lem a f n m None r = refl
after_by_lem a f n m (Some w) r = refl

-- the run r, on a memory with the bytes f
abbrev By : ℕ → List ℕ → Model → List ℕ → Run → Type 0
By quota t s m r = (size : ℕ) (f : ℕ → ℕ) → length m ≡ size → Reads m f → r ≡ run_from m (loop_by quota size t s f)

stops_by : (quota : ℕ) (t : List ℕ) (s : Model) (m : List ℕ) (n place : ℕ) → Stops t s m quota n place → By quota t s m (stop_at n place t s m)
unfolding loop_by
stops_by quota t s m n place at_quota size f e h = refl
stops_by quota t s m n place (at_end z) size f e h = rw (eq-eqb _ _ z)
stops_by quota t s m n place (at_refusal some not-0) size f e h =
    let v = event_by_lem m f h size s t e in
    rw (v, ne_eqb _ _ some, ne_eqb _ _ (rw v at not-0))

goes_on_by : (quota : ℕ) (t : List ℕ) (s : Model) (m : List ℕ) → (length t ≡ 0 → ⊥) → (event_of s m t).result.number ≡ 0 → (r : Run)
    → By quota (drop (taken t) t) (event_of s m t).result.model (event_of s m t).memory r
    → By (suc quota) t s m (after (event_of s m t).result.answer (event_of s m t).result.flag (taken t) r)
unfolding loop_by
goes_on_by quota t s m some none r k size f e h =
    let v = event_by_lem m f h size s t e in
    let d : Done = event_by size s f t in
    let next = (rw v at k) size (updated size d.write f) (write_length size m e d.write) (write_reads size m f e h d.write) in
    rw (v, ne_eqb _ _ some, eq-eqb _ _ (rw v at none))
    (ap (after d.result.answer d.result.flag (taken t)) next ∙ after_by_lem d.result.answer d.result.flag (taken t) m d.write _)

loop_by_lem : (quota size : ℕ) (t : List ℕ) (s : Model) (m : List ℕ) (f : ℕ → ℕ) → length m ≡ size → Reads m f
    → loop_of quota t s m ≡ run_from m (loop_by quota size t s f)
loop_by_lem quota size t s m f e h = loop_induction By stops_by goes_on_by quota t s m size f e h

pub run_by_lem : (quota size : ℕ) (t : List ℕ) (s : Model) (m : List ℕ) (f : ℕ → ℕ) → length m ≡ size → Reads m f
    → run_of quota t s m ≡ run_from m (run_by quota size t s f)
unfolding run_of
run_by_lem quota size t s m f e h = rw e (by (check_of s size))
  where
    by : (v : Verdict) → Runs.run_on_verdict v quota t s m ≡ run_from m (run_verdict_by v quota size t s f)
    by Passed = loop_by_lem quota size t s m f e h
    by (Failed r) = refl
