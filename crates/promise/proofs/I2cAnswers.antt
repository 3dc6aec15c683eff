-- The answers of an I2C part: after every list of events on every model just made, each accepted event answered what the history
-- says of the open span. From the agreement with the ledger and from what a sample keeps. Assumes nothing.
use Prim.Native.Nat.{ℕ, ◌<◌}
use mathlib.Core.Path.{◌≡◌, refl, sym, ap, ap₂, ◌∙◌, subst}
use mathlib.Core.Bool.{Bool, true, false, cond}
use mathlib.Core.List.{List, []}
use native.Mathlib.Omega.{arith}
use lib.Dec.{eqb}
use Rattle.parts.specs.declared.part.Part.{Part}
use Rattle.parts.specs.declared.refusal.Refusal.TheVariants as R
use Rattle.parts.specs.declared.status.Status.{Status}
use Rattle.parts.specs.Numbers.{answer_number}
use Rattle.parts.specs.Table.{is_spi, part_of}
use Rattle.trace.specs.declared.event.Event.{Event}
use Rattle.trace.specs.declared.event.Event.TheVariants.{SpiPowerOn, I2cPowerOn, PowerOff, Sample, Expected}
use Rattle.trace.proofs.SuitLaws.{Suits}
use Rattle.i2c.specs.declared.sample.I2c.{I2c}
use Rattle.transfer.specs.Levels.{levels_of}
use Rattle.i2c.specs.Sample.{answer_of, step_of}
use Rattle.chip.specs.declared.model.BusState.{BusState}
use Rattle.chip.specs.declared.model.BusState.TheVariants.{Unpowered, SpiOn, I2cOn}
use Rattle.chip.specs.declared.model.Model.{Model}
use Rattle.events.specs.Event.{Outcome, keeping, accepted, refused, on_unpowered, on_i2c, advance_on, advance_of}
use Rattle.chip.specs.Check.{Sound}
use Rattle.chip.specs.Model.{model_of}
use Rattle.chip.proofs.CheckLaws.{sound_in, i2c_ready}
use Rattle.ledger.specs.History.{Entry}
use Rattle.ledger.specs.I2cLedger.{Clock, wires_at, edge_between, last_wires, items}
use Rattle.ledger.specs.I2cAnswers.{buffer_before, buffer_of, no_fall, after_rises, last_fall, pulls, pull_answer, present_answer}
use Rattle.ledger.specs.Word.{Wired}
use Rattle.ledger.proofs.I2cAnswers.{Shows, buffer_is, carried_inside, pull_number, sample_shows, sample_answer, step_answer, power_shows}
use Rattle.promise.specs.Lists.{model_after, memory_after}
use Rattle.promise.specs.Promise.{history_of}
use Rattle.promise.specs.I2cAnswers.{AllAnswered}
use Rattle.promise.proofs.Ranges.{InRange, range_wired}
use Rattle.promise.proofs.Runs.{entered, runs}
use Rattle.promise.proofs.Agrees.{AgreesOn}
use Rattle.promise.proofs.Steps.{Fits, step, start}

module _ (made : Model) (first : List ℕ) (i2c : is_spi (part_of made.part).bus ≡ false) where
  abbrev part : Part
  part = part_of made.part

  not_spi : is_spi part.bus ≡ true → ⊥
  not_spi h = let z : true ≡ false = sym h ∙ i2c in let y : ◌≡◌ {A = ℕ} 0 1 = cc in omega arith

  -- without power nothing is driven; under power phase, buffer and pull are what the history says
  abbrev pub ShowsOn : BusState → List Entry → Type 0
  ShowsOn Unpowered h = (last_fall h ≡ no_fall) × (present_answer h ≡ 2)
  ShowsOn (SpiOn x) h = ⊥
  ShowsOn (I2cOn x) h =
      Shows part made.pins first x (items h) (buffer_before part made.pins h) (last_fall h)
      × (present_answer h ≡ answer_number (answer_of x.pulling))
      × ((buffer_before part made.pins h).address < part.size)

  abbrev Said : List Entry → Type 0
  Said h = AllAnswered part made.pins first h

  -- one event of a model of this part and these pins
  module _ (wired : Wired part made.pins) (st : Status) (m : List ℕ) (h : List Entry) (said : Said h) where
    abbrev at : BusState → Model
    at b = model_of made.part made.pins st b

    abbrev After : Event → Outcome → Type 0
    After e o = ShowsOn o.result.model.bus (entered e o h) × Said (entered e o h)

    unpowered_shows : (e : Event) → Suits part e → ShowsOn Unpowered h → After e (keeping m (on_unpowered (at Unpowered) e))
    unpowered_shows (SpiPowerOn x) u f = absurd (not_spi u)
    unpowered_shows (I2cPowerOn x a) u f = ((power_shows part made.pins first wired (levels_of x) a (items h), refl, u.1), (refl, said))
    unpowered_shows PowerOff u f = (f, said)
    unpowered_shows (Sample x) u f = (f, said)
    unpowered_shows (Expected v) u f = (f, said)

    -- an expected answer is entered with the present answer
    expected_shows : (y : Bool) (x : I2c) (v : ℕ) → ShowsOn (I2cOn x) h
        → After (Expected v) (keeping m (cond y (accepted (answer_of x.pulling) (at (I2cOn x))) (refused R.Unexpected (at (I2cOn x)))))
    expected_shows true x v (g, q, k) = ((g, refl, k), (rw (← g.pulling_is) (pull_number x.pulling), said))
    expected_shows false x v f = (f, said)

    i2c_shows : (x : I2c) (e : Event) → Sound (at (I2cOn x)) m → AgreesOn made first (I2cOn x) st m h → ShowsOn (I2cOn x) h
        → After e (on_i2c part (at (I2cOn x)) x m e)
    i2c_shows x (SpiPowerOn v) c a f = (f, said)
    i2c_shows x (I2cPowerOn v n) c a f = (f, said)
    i2c_shows x PowerOff c a f = ((refl, refl), (refl, said))
    i2c_shows x (Sample v) c a (g, q, k) =
        let l = levels_of v in
        let is = items h in
        let w = last_wires h in
        let b = buffer_before part made.pins h in
        let o = step_of part made.pins x l m in
        let ready = i2c_ready (at (I2cOn x)) x m refl (sound_in (at (I2cOn x)) m c) in (
          (
            sample_shows part made.pins first wired x l m is w b (last_fall h) a.1 g,
            step_answer part made.pins first wired x l m,
            carried_inside part made.pins first wired (edge_between w (wires_at l (answer_number o.answer))) x.phase x.buffer b is g.led
                ready.placed.buffered k,
          ),
          (rw q (sample_answer part made.pins first wired x l m is w b (last_fall h) a.1 g), said),
        )
    i2c_shows x (Expected v) c a f = expected_shows (eqb v (answer_number (answer_of x.pulling))) x v f

    event_shows : (b : BusState) (e : Event) → Suits part e → Sound (at b) m → AgreesOn made first b st m h → ShowsOn b h
        → After e (advance_on b part (at b) m e)
    event_shows Unpowered e u c a f = unpowered_shows e u f
    event_shows (SpiOn x) e u c a f = absurd f
    event_shows (I2cOn x) e u c a f = i2c_shows x e c a f

  -- the present answer is what the history says
  present_by : (b : BusState) (h : List Entry) → ShowsOn b h → present_answer h ≡ pull_answer (pulls part made.pins first h)
  present_by Unpowered h (n, q) = rw (n, q)
  present_by (SpiOn x) h f = absurd f
  present_by (I2cOn x) h (g, q, k) = rw (q, ← g.pulling_is) (pull_number x.pulling)

  -- ---- after every list

  pub record Fitting (s : Model) (m : List ℕ) (h : List Entry) : Type 0 where
    pub fits : Fits made first s m h
    pub shows : ShowsOn s.bus h
    pub said : AllAnswered part made.pins first h

  module _ (inside : InRange made) where
    abbrev StepAt : Model → List ℕ → List Entry → Event → Type 0
    StepAt s m h e =
        ShowsOn (advance_of s m e).result.model.bus (entered e (advance_of s m e) h) × Said (entered e (advance_of s m e) h)

    step_at : (b : BusState) (st : Status) (m : List ℕ) (h : List Entry) (e : Event) → Said h → Suits part e
        → Sound (model_of made.part made.pins st b) m → AgreesOn made first b st m h → ShowsOn b h
        → StepAt (model_of made.part made.pins st b) m h e
    unfolding advance_of
    step_at b st m h e d u c a f = event_shows (range_wired made inside) st m h d b e u c a f

    one : (s : Model) (m : List ℕ) (h : List Entry) (e : Event) → Fitting s m h → Sound s m → Suits part e
        → Fitting (advance_of s m e).result.model (advance_of s m e).memory (entered e (advance_of s m e) h)
    one s m h e f c u =
        let q : s ≡ model_of made.part made.pins s.status s.bus =
        ap₂ (λ (x y : ℕ). model_of x y s.status s.bus) f.fits.part_is f.fits.pins_are in
        let r : StepAt s m h e =
        subst (λ (x : Model). StepAt x m h e) (sym q)
        (step_at s.bus s.status m h e f.said u (subst (λ (x : Model). Sound x m) q c) f.fits.agrees f.shows) in
        record { fits = step made first inside s m h e f.fits c u; shows = r.0; said = r.1 }

    module _ (off : made.bus ≡ Unpowered) where
      pub list_fitting : (es : List (List ℕ)) → Fitting (model_after made first es) (memory_after made first es) (history_of made first es)
      list_fitting es =
          runs part Fitting (λ s m h f. ap part_of f.fits.part_is) one es made first []
          (record { fits = start made first inside off; shows = rw off (refl, refl); said = tt })

      pub list_present : (es : List (List ℕ))
          → present_answer (history_of made first es) ≡ pull_answer (pulls part made.pins first (history_of made first es))
      list_present es = present_by (model_after made first es).bus (history_of made first es) (list_fitting es).shows

      -- the address buffer of the state is the ledger's
      pub list_buffer : (es : List (List ℕ)) (x : I2c) → (model_after made first es).bus ≡ I2cOn x
          → x.buffer ≡ buffer_of part made.pins (history_of made first es)
      list_buffer es x q =
          let f = rw q at (list_fitting es).shows in
          buffer_is part made.pins first (range_wired made inside) x.phase x.buffer (buffer_before part made.pins (history_of made first es))
          (items (history_of made first es)) f.0.led

      -- with a fall in the open span there is power, and the buffer at its START holds an address of the part
      pub list_inside : (es : List (List ℕ)) (ks : List Clock) → last_fall (history_of made first es) ≡ after_rises ks
          → (buffer_before part made.pins (history_of made first es)).address < part.size
      list_inside es ks q = by (model_after made first es).bus (list_fitting es).shows
        where
          by : (b : BusState) → ShowsOn b (history_of made first es) → (buffer_before part made.pins (history_of made first es)).address < part.size
          by Unpowered (n, r) = let y : ◌≡◌ {A = ℕ} 0 1 = cc in absurd (omega arith)
          by (SpiOn x) f = absurd f
          by (I2cOn x) (g, r, k) = k
