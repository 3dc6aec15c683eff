-- Samples in range on an SPI part under power: each is accepted and leaves such a part, so a list of them is a fold of samples on the
-- pins, event by event and as one run. From what the reader finds and what every event keeps, by induction on the samples. Assumes nothing.
use Prim.Native.Nat.{ℕ, zero, suc, ◌+◌, ◌<◌, ◌≤◌}
use mathlib.Core.Path.{◌≡◌, refl, ap, ◌∙◌}
use mathlib.Core.Bool.{Bool, true, false}
use mathlib.Core.List.{List, [], ◌∷◌}
use native.Mathlib.Omega.{arith}
use lib.ListN.{length, replicate}
use borrow.Author.Tests.{lt-ltb, le-ltb}
use Rattle.parts.specs.declared.part.Bus.{Bus}
use Rattle.parts.specs.declared.part.Bus.TheVariants.{Spi, I2c}
use Rattle.parts.specs.declared.part.Part.{Part}
use Rattle.parts.specs.declared.status.Status.{Status}
use Rattle.parts.specs.Table.{is_spi, part_of}
use Rattle.parts.proofs.Rows.{and_both}
use Rattle.trace.specs.declared.event.Event.TheVariants.{Sample}
use Rattle.trace.specs.Event.{sample_limit}
use Rattle.trace.specs.Read.{read_of, Whole}
use Rattle.trace.proofs.SampleLaws.{sample_read}
use Rattle.chip.specs.declared.model.BusState.{BusState}
use Rattle.chip.specs.declared.model.BusState.TheVariants.{Unpowered, SpiOn, I2cOn}
use Rattle.chip.specs.declared.model.Model.{Model}
use Rattle.chip.specs.Check.{bus_in, Sound}
use Rattle.chip.proofs.CheckLaws.{sound_in}
use Rattle.events.specs.Event.{Outcome, advance_on, advance_of}
use Rattle.byte_path.specs.PinPath.{Pins, sampled}
use Rattle.runs.specs.Event.{event_of}
use Rattle.runs.specs.Run.{Run, after, loop_of}
use Rattle.runs.proofs.EventLaws.{event_whole, event_keeps}
use Rattle.runs.proofs.RunLaws.{loop_over, loop_accepted}
use Rattle.promise.specs.Lists.{observations, model_after, memory_after}
use Rattle.promise.specs.RunEvents.{numbers_of, answers_of, flags_of}
use Rattle.promise.specs.Selects.{sample_events, trace_of}

-- ---- an SPI part under power

abbrev pub spi_powered : BusState → Bool
spi_powered Unpowered = false
spi_powered (SpiOn x) = true
spi_powered (I2cOn x) = false

pub record Ready (a : Pins) : Type 0 where
  pub sound : Sound a.model a.memory
  pub powered : spi_powered a.model.bus ≡ true

never : {A : Type 0} → ◌≡◌ {A = Bool} false true → A
never h = let z : ◌≡◌ {A = ℕ} 0 1 = cc in absurd (omega arith)

-- its bus is SPI, so a sample lies below 32
spi_bus : (b : BusState) (p : Part) (st : Status) → spi_powered b ≡ true → bus_in p st b ≡ true → is_spi p.bus ≡ true
spi_bus Unpowered p st h t = never h
spi_bus (SpiOn x) p st h t = (and_both (is_spi p.bus) _ t).0
spi_bus (I2cOn x) p st h t = never h

limit_32 : (b : Bus) → is_spi b ≡ true → sample_limit b ≡ 32
limit_32 Spi h = refl
limit_32 I2c h = never h

-- a sample is accepted, and power stays on
module _ (p : Part) (s : Model) (m : List ℕ) (x : ℕ) where
  number_0 : (b : BusState) → spi_powered b ≡ true → (advance_on b p s m (Sample x)).result.number ≡ 0
  number_0 Unpowered h = never h
  number_0 (SpiOn y) h = refl
  number_0 (I2cOn y) h = never h

  stays_powered : (b : BusState) → spi_powered b ≡ true → spi_powered (advance_on b p s m (Sample x)).result.model.bus ≡ true
  stays_powered Unpowered h = never h
  stays_powered (SpiOn y) h = refl
  stays_powered (I2cOn y) h = never h

module _ (a : Pins) (ready : Ready a) (x : ℕ) (below : x < 32) where
  -- the bytes of a sample, whatever comes after them
  sample_whole : (more : List ℕ) → read_of (part_of a.model.part) (4 ∷ x ∷ more) ≡ Whole (Sample x) 2
  sample_whole more =
      let p : Part = part_of a.model.part in
      let i = spi_bus a.model.bus p a.model.status ready.powered (sound_in a.model a.memory ready.sound).bus in
      sample_read p (4 ∷ x ∷ more) (rw (le-ltb (length (4 ∷ x ∷ more)) 2 (omega arith), limit_32 p.bus i) (lt-ltb x 32 below))

  pub sample_event : (more : List ℕ) → event_of a.model a.memory (4 ∷ x ∷ more) ≡ advance_of a.model a.memory (Sample x)
  sample_event more = event_whole a.model a.memory (4 ∷ x ∷ more) ready.sound (Sample x) 2 (sample_whole more)

  pub sample_accepted : (advance_of a.model a.memory (Sample x)).result.number ≡ 0
  unfolding advance_of
  sample_accepted = number_0 (part_of a.model.part) a.model a.memory x a.model.bus ready.powered

  pub sample_ready : Ready (sampled a x)
  unfolding advance_of
  sample_ready =
      record {
        sound = event_keeps a.model a.memory (4 ∷ x ∷ []) ready.sound (Sample x) 2 (sample_whole []);
        powered = stays_powered (part_of a.model.part) a.model a.memory x a.model.bus ready.powered;
      }

-- ---- a list of samples

abbrev pub Below : List ℕ → Type 0
Below [] = Unit {0}
Below (x ∷ xs) = (x < 32) × Below xs

-- on the pins, what each answers, and whether it is flagged
abbrev pub sampled_all : Pins → List ℕ → Pins
sampled_all a [] = a
sampled_all a (x ∷ xs) = sampled_all (sampled a x) xs

abbrev pub answers_all : Pins → List ℕ → List ℕ
answers_all a [] = []
answers_all a (x ∷ xs) = (sampled a x).answer ∷ answers_all (sampled a x) xs

abbrev pub flags_all : Pins → List ℕ → List Bool
flags_all a [] = []
flags_all a (x ∷ xs) = (advance_of a.model a.memory (Sample x)).result.flag ∷ flags_all (sampled a x) xs

-- what is said of them as events: all are accepted, and leave what they leave on the pins
pub record Spelt (a : Pins) (xs : List ℕ) : Type 0 where
  pub accepted : numbers_of (observations a.model a.memory (sample_events xs)) ≡ replicate (length (sample_events xs)) 0
  pub answers : answers_of (observations a.model a.memory (sample_events xs)) ≡ answers_all a xs
  pub flags : flags_of (observations a.model a.memory (sample_events xs)) ≡ flags_all a xs
  pub model : model_after a.model a.memory (sample_events xs) ≡ (sampled_all a xs).model
  pub memory : memory_after a.model a.memory (sample_events xs) ≡ (sampled_all a xs).memory

pub spelt : (xs : List ℕ) (a : Pins) → Ready a → Below xs → Spelt a xs
spelt [] a ready below = record { accepted = refl; answers = refl; flags = refl; model = refl; memory = refl }
spelt (x ∷ xs) a ready (l, below) =
    let e = sample_event a ready x l [] in
    let n = sample_accepted a ready x l in
    let k = spelt xs (sampled a x) (sample_ready a ready x l) below in
    record {
      accepted = rw (e, n, k.accepted);
      answers = rw (e, k.answers);
      flags = rw (e, k.flags);
      model = ap (λ (o : Outcome). model_after o.result.model o.memory (sample_events xs)) e ∙ k.model;
      memory = ap (λ (o : Outcome). memory_after o.result.model o.memory (sample_events xs)) e ∙ k.memory;
    }

-- the same as one run, if none is flagged
abbrev ran_to : Pins → List ℕ → ℕ → ℕ → Run
ran_to a answers c o = record { number = 0; model = a.model; count = c; offset = o; flag = o; memory = a.memory; answers = answers }

abbrev pub AllClear : List Bool → Type 0
AllClear [] = Unit {0}
AllClear (f ∷ fs) = (f ≡ false) × AllClear fs

abbrev pub ran_all : Pins → List ℕ → Run
ran_all a xs = ran_to (sampled_all a xs) (answers_all a xs) (length (sample_events xs)) (length (trace_of (sample_events xs)))

pub loop_all : (xs : List ℕ) (q : ℕ) (a : Pins) → Ready a → Below xs → AllClear (flags_all a xs) → length (sample_events xs) ≤ q
    → loop_of q (trace_of (sample_events xs)) a.model a.memory ≡ ran_all a xs
loop_all [] q a ready below clear h = loop_over [] a.model a.memory q refl
loop_all (x ∷ xs) zero a ready below clear h = absurd (omega arith)
loop_all (x ∷ xs) (suc q) a ready (l, below) (no_flag, clear) h =
    let t : List ℕ = 4 ∷ x ∷ trace_of (sample_events xs) in
    let e = sample_event a ready x l (trace_of (sample_events xs)) in
    let n = sample_accepted a ready x l in
    let k = loop_all xs q (sampled a x) (sample_ready a ready x l) below clear (omega arith) in
    loop_accepted t a.model a.memory q (λ z. omega arith) (rw e n)
    ∙ rw (e, k, no_flag) (one_more_lem (sampled_all a (x ∷ xs)) (sampled a x).answer (answers_all (sampled a x) xs) (length (sample_events xs)) (length (trace_of (sample_events xs))))
  where
    one_more_lem : (b : Pins) (v : ℕ) (vs : List ℕ) (c o : ℕ) → after v false 2 (ran_to b vs c o) ≡ ran_to b (v ∷ vs) (suc c) (suc (suc o))
    one_more_lem b v vs c o =
        let c₁ : 1 + c ≡ suc c = omega arith in
        let o₂ : 2 + o ≡ suc (suc o) = omega arith in
        rw (c₁, o₂)
