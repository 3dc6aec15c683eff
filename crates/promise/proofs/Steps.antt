-- State and memory agree with the ledger after every list of events on a model just made, refused events included: by the
-- agreement that one event keeps. Under power they have passed the tests; so a cut is accepted and leaves a model without power,
-- and without power it is refused. Assumes nothing.
use Prim.Native.Nat.{ℕ}
use mathlib.Core.Path.{◌≡◌, refl, sym, ap, ap₂, subst}
use mathlib.Core.Bool.{Bool, true, false, not}
use mathlib.Core.List.{List, []}
use lib.ListN.{length}
use borrow.Author.Tests.{not-true}
use Rattle.parts.specs.declared.part.Part.{Part}
use Rattle.parts.specs.declared.status.Status.{Status}
use Rattle.parts.specs.Status.{cleared}
use Rattle.parts.specs.Table.{is_spi, part_of}
use Rattle.parts.proofs.Rows.{and_both, part_fits}
use Rattle.trace.specs.declared.event.Event.{Event}
use Rattle.trace.specs.Read.{read_of}
use Rattle.trace.proofs.SuitLaws.{Suits}
use Rattle.chip.specs.declared.model.BusState.{BusState}
use Rattle.chip.specs.declared.model.BusState.TheVariants.{Unpowered, SpiOn, I2cOn}
use Rattle.chip.specs.declared.model.Model.{Model}
use Rattle.chip.specs.Check.{bits_clear, check_of, Sound, Verdict, Passed, Failed}
use Rattle.events.specs.Event.{Outcome, advance_of}
use Rattle.chip.specs.Model.{model_of}
use Rattle.chip.proofs.CheckLaws.{model_in_lem, sound_in}
use Rattle.events.proofs.Keeps.{keeps}
use Rattle.runs.specs.Event.{event_on_verdict, event_of}
use Rattle.ledger.specs.History.{Entry}
use Rattle.ledger.specs.Stores.{stored}
use Rattle.ledger.specs.SpiLedger.{register}
use Rattle.promise.specs.Lists.{model_after, memory_after}
use Rattle.promise.specs.Ledger.{saved_in, ledger_stores, ledger_bits}
use Rattle.promise.specs.Promise.{cut, history_of}
use Rattle.promise.proofs.Ranges.{InRange, range_wired}
use Rattle.promise.proofs.Runs.{entered, runs}
use Rattle.events.proofs.Stays.{stays}
use Rattle.promise.proofs.Agrees.{i2c_unsaved, AgreesOn, memory_agrees, event_agrees}

-- under power the tests have passed
abbrev pub Tested : BusState → Model → List ℕ → Type 0
Tested Unpowered s m = Unit {0}
Tested (SpiOn x) s m = Sound s m
Tested (I2cOn x) s m = Sound s m

tested : (b : BusState) (s : Model) (m : List ℕ) → Sound s m → Tested b s m
tested Unpowered s m h = tt
tested (SpiOn x) s m h = h
tested (I2cOn x) s m h = h

-- ---- a model just made

-- a register with no bits and no WEL
all_off : (a b c w : Bool) → a ≡ false → b ≡ false → c ≡ false → w ≡ false → ◌≡◌ {A = Status} (record { srwd = a; bp1 = b; bp0 = c; wel = w }) cleared
all_off a b c w p q r t = rw (p, q, r, t)

bare : (st : Status) → bits_clear st ≡ true → not st.wel ≡ true → st ≡ cleared
bare st h w =
    let a = and_both (not st.srwd) _ h in
    let b = and_both (not st.bp1) _ a.1 in
    all_off st.srwd st.bp1 st.bp0 st.wel (not-true _ a.0) (not-true _ b.0) (not-true _ b.1) (not-true _ w)

module _ (made : Model) (first : List ℕ) where
  abbrev part : Part
  part = part_of made.part

  -- part and pins stay; state and memory agree with the ledger
  pub record Fits (s : Model) (m : List ℕ) (h : List Entry) : Type 0 where
    pub part_is : s.part ≡ made.part
    pub pins_are : s.pins ≡ made.pins
    pub passed : Tested s.bus s m
    pub agrees : AgreesOn made first s.bus s.status m h

  module _ (inside : InRange made) where
    -- one event that was read, on a state of this part and these pins
    abbrev pub StepAt : Model → List ℕ → List Entry → Event → Type 0
    StepAt s m h e = Fits (advance_of s m e).result.model (advance_of s m e).memory (entered e (advance_of s m e) h)

    step_at : (b : BusState) (st : Status) (m : List ℕ) (h : List Entry) (e : Event) → AgreesOn made first b st m h
        → Sound (model_of made.part made.pins st b) m → Suits part e → StepAt (model_of made.part made.pins st b) m h e
    unfolding advance_of
    step_at b st m h e f c u =
        let s : Model = model_of made.part made.pins st b in
        let o : Outcome = advance_of s m e in
        record {
          part_is = (stays s m e).part_stays;
          pins_are = (stays s m e).pins_stay;
          passed = tested o.result.model.bus o.result.model o.memory (keeps s m e c u);
          agrees = event_agrees made first st m h (part_fits made.part (model_in_lem made inside.0).known) (range_wired made inside) b e u f;
        }

    pub step : (s : Model) (m : List ℕ) (h : List Entry) (e : Event) → Fits s m h → Sound s m → Suits part e → StepAt s m h e
    step s m h e f c u =
        let q : s ≡ model_of made.part made.pins s.status s.bus =
        ap₂ (λ (x y : ℕ). model_of x y s.status s.bus) f.part_is f.pins_are in
        subst (λ (x : Model). StepAt x m h e) (sym q)
        (step_at s.bus s.status m h e f.agrees (subst (λ (x : Model). Sound x m) q c) u)

    -- before the first event
    start_status : (y : Bool) → made.bus ≡ Unpowered → is_spi part.bus ≡ y → made.status ≡ register (ledger_bits made []) false
    start_status true e q =
        let w = not-true made.status.wel (rw e at inside.1) in
        rw q (ap (λ (x : Bool). register (saved_in made.status) x) w)
    start_status false e q =
        let b = rw (e, i2c_unsaved made.part q) at (model_in_lem made inside.0).bits in
        rw q (bare made.status b (rw e at inside.1))

    start_memory : (y : Bool) → is_spi part.bus ≡ y → first ≡ stored first (ledger_stores made [])
    start_memory true q = rw q
    start_memory false q = rw q

    module _ (e : made.bus ≡ Unpowered) where
      pub start : Fits made first []
      start =
          record {
            part_is = refl;
            pins_are = refl;
            passed = rw e tt;
            agrees = rw e (start_memory (is_spi part.bus) refl, start_status (is_spi part.bus) e refl);
          }

      -- after every list
      pub list_fits : (es : List (List ℕ)) → Fits (model_after made first es) (memory_after made first es) (history_of made first es)
      list_fits es = runs part Fits (λ s m h f. ap part_of f.part_is) step es made first [] start

      -- with or without a cut the memory holds the permitted writes
      pub list_memory : (es : List (List ℕ)) → memory_after made first es ≡ stored first (ledger_stores made (history_of made first es))
      list_memory es =
          memory_agrees made first (model_after made first es).bus (model_after made first es).status (memory_after made first es)
          (history_of made first es) (list_fits es).agrees

      -- and the register holds the ledger's bits
      status_bits : (b : BusState) (s : Model) (m : List ℕ) (h : List Entry) → s.bus ≡ b → s.part ≡ made.part → Tested b s m
          → AgreesOn made first b s.status m h → saved_in s.status ≡ ledger_bits made h
      status_bits Unpowered s m h k p t f = ap saved_in f.1
      status_bits (SpiOn x) s m h k p t f = rw f.0 (ap saved_in f.1.status_is)
      status_bits (I2cOn x) s m h k p t f =
          let a = sound_in s m t in
          let n = rw (k, p, i2c_unsaved made.part f.0, f.0) at a.model.bits in
          let w = (and_both (not s.status.wel) _ (and_both (not (is_spi (part_of s.part).bus)) _ (rw k at a.bus)).1).0 in
          rw f.0 (ap saved_in (bare s.status n w))

      pub list_bits : (es : List (List ℕ)) → saved_in (model_after made first es).status ≡ ledger_bits made (history_of made first es)
      list_bits es =
          status_bits (model_after made first es).bus (model_after made first es) (memory_after made first es) (history_of made first es) refl
          (list_fits es).part_is (list_fits es).passed (list_fits es).agrees

-- ---- a cut

module _ (s : Model) (m : List ℕ) where
  cut_by : (b : BusState) → s.bus ≡ b → Tested b s m → (event_of s m cut).result.model.bus ≡ Unpowered
  unfolding event_of read_of advance_of
  cut_by Unpowered e c = by (check_of s (length m))
    where
      by : (v : Verdict) → (event_on_verdict v s m cut).result.model.bus ≡ Unpowered
      by Passed = rw e
      by (Failed r) = e
  cut_by (SpiOn x) e c = rw (c, e)
  cut_by (I2cOn x) e c = rw (c, e)

  -- after a cut there is no power
  pub cut_off : Tested s.bus s m → (event_of s m cut).result.model.bus ≡ Unpowered
  cut_off c = cut_by s.bus refl c
