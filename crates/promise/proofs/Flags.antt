-- THE FLAGS: for every making, every first memory and every list of events, an accepted event is flagged exactly where the wires say that WP
-- moved and had to be still, and a run points at the first such event. From the agreement with the ledger after every list, and by what
-- holds of every run. Assumes nothing.
use Prim.Native.Nat.{ℕ, suc, ◌+◌}
use mathlib.Core.Path.{◌≡◌, refl, sym, ap, ◌∙◌, subst}
use mathlib.Core.Bool.{Bool, true, false, cond, false≢true}
use mathlib.Core.List.{List, [], ◌∷◌, ◌++◌, append_assoc}
use native.Mathlib.Omega.{arith}
use lib.ListN.{length, take, drop}
use borrow.Author.Tests.{eq-eqb, ne_eqb}
use Rattle.parts.specs.declared.part.Part.{Part}
use Rattle.parts.specs.declared.refusal.Refusal.TheVariants as R
use Rattle.parts.specs.Table.{is_spi, part_of}
use Rattle.parts.proofs.NumberLaws.{number_positive}
use Rattle.trace.specs.declared.event.Event.{Event}
use Rattle.trace.specs.declared.event.Event.TheVariants.{SpiPowerOn, I2cPowerOn, PowerOff, Sample, Expected}
use Rattle.trace.specs.Read.{read_of, Whole}
use Rattle.selection.specs.Levels as SpiLevels
use Rattle.spi.specs.declared.sample.Spi as SpiState
use Rattle.spi.specs.Show as SpiShow
use Rattle.transfer.specs.Levels as I2cLevels
use Rattle.i2c.specs.declared.sample.I2c as I2cState
use Rattle.i2c.specs.Sample as I2cSample
use Rattle.chip.specs.declared.model.BusState.{BusState}
use Rattle.chip.specs.declared.model.BusState.TheVariants.{Unpowered, SpiOn, I2cOn}
use Rattle.chip.specs.declared.model.Model.{Model}
use Rattle.chip.specs.Check.{check_of, Sound, Verdict, Passed, Failed}
use Rattle.events.specs.Event.{Outcome, advance_on, advance_of}
use Rattle.events.proofs.OtherEventLaws.{expected_clear}
use Rattle.runs.specs.Event.{event_of}
use Rattle.runs.specs.Run.{Run, after, run_on_verdict, loop_of, run_of}
use Rattle.runs.proofs.EventLaws.{event_whole, event_stays, accepted_sound, accepted_within}
use Rattle.runs.proofs.RunLaws.{taken, loop_induction}
use Rattle.ledger.specs.History.{Entry}
use Rattle.ledger.specs.SpiLedger as Spi
use Rattle.ledger.specs.I2cLedger as I2cLedger
use Rattle.ledger.specs.Flags.{Exactly, SpiWarns, I2cWarns, SpiWarned, I2cWarned}
use Rattle.ledger.proofs.I2cFits as I2cFits
use Rattle.ledger.proofs.Flags.{spi_exactly, i2c_exactly}
use Rattle.promise.specs.Lists.{model_after, memory_after}
use Rattle.promise.specs.Promise.{made_by, history_of}
use Rattle.promise.specs.RunEvents.{split}
use Rattle.promise.specs.FirstAt.{FirstAt}
use Rattle.promise.specs.Flags.{Warned, EventFlagged, WarnedAt, FlagsPromise}
use Rattle.promise.proofs.Ranges.{made_in, made_off}
use Rattle.promise.proofs.Stays.{accepted_whole}
use Rattle.promise.proofs.Joins.{model_join, memory_join, fed_join}
use Rattle.promise.proofs.Agrees.{AgreesOn}
use Rattle.promise.proofs.Steps.{Fits, list_fits}
use Rattle.promise.proofs.FirstAt.{first_stopped, first_more}
use Rattle.promise.proofs.RunEvents.{event_same}

-- ---- one event that was read, on a state that agrees with the history

-- not flagged, and the wires do not say so
clear : {flag : Bool} → flag ≡ false → Exactly flag ⊥
clear e = record { set = λ w. absurd w; only = λ f. absurd (false≢true (sym e ∙ f)) }

module _ (made : Model) (first : List ℕ) (s : Model) (m : List ℕ) (h : List Entry) where
  abbrev p : Part
  p = part_of s.part

  -- without power the wires are not asked: only a power on is accepted
  unpowered_said : (y : Bool) (e : Event) → (advance_on Unpowered p s m e).result.number ≡ 0
      → Exactly (advance_on Unpowered p s m e).result.flag (cond y (SpiWarns e (Spi.last_sample h)) (I2cWarns e (I2cLedger.items h) (I2cLedger.last_wires h)))
  unpowered_said true (SpiPowerOn x) z = clear refl
  unpowered_said false (SpiPowerOn x) z = clear refl
  unpowered_said true (I2cPowerOn x a) z = clear refl
  unpowered_said false (I2cPowerOn x a) z = clear refl
  unpowered_said y PowerOff z = absurd (number_positive R.Unpowered z)
  unpowered_said y (Sample x) z = absurd (number_positive R.Unpowered z)
  unpowered_said y (Expected v) z = absurd (number_positive R.Unpowered z)

  spi_said : (x : SpiState.Spi) (e : Event) → Spi.last_sample h ≡ x.last → Exactly (advance_on (SpiOn x) p s m e).result.flag (SpiWarns e (Spi.last_sample h))
  spi_said x (SpiPowerOn v) q = clear refl
  spi_said x (I2cPowerOn v a) q = clear refl
  spi_said x PowerOff q = clear refl
  spi_said x (Sample v) q = rw q (spi_exactly x.last (SpiLevels.levels_of v))
  spi_said x (Expected v) q = clear (expected_clear s (SpiShow.answer_at x.last x.shown) v)

  i2c_said : (x : I2cState.I2c) (e : Event) → I2cFits.Good (part_of made.part) made.pins first x m (I2cLedger.items h) (I2cLedger.last_wires h)
      → Exactly (advance_on (I2cOn x) p s m e).result.flag (I2cWarns e (I2cLedger.items h) (I2cLedger.last_wires h))
  i2c_said x (SpiPowerOn v) g = clear refl
  i2c_said x (I2cPowerOn v a) g = clear refl
  i2c_said x PowerOff g = clear refl
  i2c_said x (Sample v) g =
      i2c_exactly (part_of made.part) made.pins first x m (I2cLedger.items h) (I2cLedger.last_wires h) (I2cLevels.levels_of v) g
  i2c_said x (Expected v) g = clear (expected_clear s (I2cSample.answer_of x.pulling) v)

  said : (b : BusState) (e : Event) → AgreesOn made first b s.status m h → (advance_on b p s m e).result.number ≡ 0
      → Exactly (advance_on b p s m e).result.flag
      (cond (is_spi (part_of made.part).bus) (SpiWarns e (Spi.last_sample h)) (I2cWarns e (I2cLedger.items h) (I2cLedger.last_wires h)))
  said Unpowered e f z = unpowered_said (is_spi (part_of made.part).bus) e z
  said (SpiOn x) e f z = rw f.0 (spi_said x e f.2)
  said (I2cOn x) e f z = rw f.0 (i2c_said x e f.1)

-- ---- after every list from a making

module _ (part pins bits : ℕ) (first : List ℕ) where
  abbrev model : Model
  model = made_by part pins bits

  abbrev row : Part
  row = part_of model.part

  fits : (es : List (List ℕ)) → Fits model first (model_after model first es) (memory_after model first es) (history_of model first es)
  fits = list_fits model first (made_in part pins bits) (made_off part pins bits)

  module _ (es : List (List ℕ)) (t : List ℕ) where
    abbrev s : Model
    s = model_after model first es

    abbrev m : List ℕ
    m = memory_after model first es

    abbrev h : List Entry
    h = history_of model first es

    -- an accepted event is the latest entry
    latest : (event_of s m t).result.number ≡ 0 → (e : Event) (n : ℕ) → read_of row t ≡ Whole e n
        → history_of model first (es ++ (t ∷ [])) ≡ record { event = e; answer = (event_of s m t).result.answer } ∷ h
    latest z e n r = fed_join row es (t ∷ []) model first [] ∙ rw (eq-eqb _ _ z, r)

    by_bus : (y : Bool) (e : Event) (a : ℕ)
        → cond y (SpiWarned (record { event = e; answer = a } ∷ h)) (I2cWarned (record { event = e; answer = a } ∷ h))
        ≡ cond y (SpiWarns e (Spi.last_sample h)) (I2cWarns e (I2cLedger.items h) (I2cLedger.last_wires h))
    by_bus true e a = refl
    by_bus false e a = refl

    read_said : (e : Event) (n : ℕ) → read_of (part_of s.part) t ≡ Whole e n → Sound s m → (event_of s m t).result.number ≡ 0
        → Exactly (event_of s m t).result.flag (Warned model (history_of model first (es ++ (t ∷ []))))
    unfolding advance_of
    read_said e n r c z =
        let v = event_whole s m t c e n r in
        let k = said model first s m h s.bus e (fits es).agrees (sym (ap (λ (o : Outcome). o.result.number) v) ∙ z) in
        rw (latest z e n (rw (fits es).part_is at r), by_bus (is_spi row.bus) e (event_of s m t).result.answer)
        (subst
        (λ (o : Outcome). Exactly o.result.flag (cond (is_spi row.bus) (SpiWarns e (Spi.last_sample h)) (I2cWarns e (I2cLedger.items h) (I2cLedger.last_wires h))))
        (sym v) k)

    pub flag_said : (event_of s m t).result.number ≡ 0 → Exactly (event_of s m t).result.flag (Warned model (history_of model first (es ++ (t ∷ []))))
    flag_said z = let w = accepted_whole s m t (eq-eqb _ _ z) in read_said w.0 w.1 w.2 (accepted_sound s m t z) z

    event_flagged : EventFlagged part pins bits first es t
    event_flagged = record { accepted = λ z. flag_said z; refused = λ n. (event_stays s m t).refused_flag n }

  -- ---- a run

  -- the run r of q events of t, from the state and the memory after any list es
  abbrev Flags : ℕ → List ℕ → Model → List ℕ → Run → Type 0
  Flags q t s m r = (es : List (List ℕ)) → model_after model first es ≡ s → memory_after model first es ≡ m → FirstAt (WarnedAt part pins bits first es q t) t r

  -- one accepted event before a run
  module _ (q : ℕ) (t : List ℕ) (some : length t ≡ 0 → ⊥) (es : List (List ℕ)) where
    -- its bytes
    abbrev u : List ℕ
    u = take (taken t) t

    here : es ++ take (0 + 1) (split (suc q) t) ≡ es ++ (u ∷ [])
    here = rw (ne_eqb _ _ some)

    further : (j : ℕ) → es ++ take (suc j + 1) (split (suc q) t) ≡ (es ++ (u ∷ [])) ++ take (j + 1) (split q (drop (taken t) t))
    further j = let k : suc j + 1 ≡ suc (j + 1) = omega arith in rw (ne_eqb _ _ some, k, append_assoc)

    module _ (s : Model) (m : List ℕ) (zero_number : (event_of s m t).result.number ≡ 0) (r : Run)
        (ih : Flags q (drop (taken t) t) (event_of s m t).result.model (event_of s m t).memory r)
        (es-model : model_after model first es ≡ s) (es-memory : memory_after model first es ≡ m) where
      -- what the wires say of it
      said_here : Exactly (event_of s m t).result.flag (Warned model (history_of model first (es ++ (u ∷ []))))
      said_here =
          let e = event_same s m t in
          let k = rw (es-model, es-memory, e) at (flag_said es u) in
          k zero_number

      rest : FirstAt (WarnedAt part pins bits first (es ++ (u ∷ [])) q (drop (taken t) t)) (drop (taken t) t) r
      rest =
          let e = event_same s m t in
          ih (es ++ (u ∷ []))
          (model_join es (u ∷ []) model first ∙ rw (es-model, es-memory) (ap (λ (o : Outcome). o.result.model) e))
          (memory_join es (u ∷ []) model first ∙ rw (es-model, es-memory) (ap (λ (o : Outcome). o.memory) e))

      more_flags : FirstAt (WarnedAt part pins bits first es (suc q) t) t
          (after (event_of s m t).result.answer (event_of s m t).result.flag (taken t) r)
      more_flags =
          first_more (WarnedAt part pins bits first es (suc q) t) (WarnedAt part pins bits first (es ++ (u ∷ [])) q (drop (taken t) t)) t r
          (event_of s m t).result.answer (accepted_within s m t zero_number) (λ i w. rw (further i) at w) (λ i w. rw (further i) w)
          (event_of s m t).result.flag (rw here said_here) rest

  loop_flags : (q : ℕ) (t : List ℕ) (s : Model) (m : List ℕ) → Flags q t s m (loop_of q t s m)
  loop_flags =
      loop_induction Flags (λ q t s m n place e es a b. first_stopped _ n place t s m)
      (λ q t s m some none r ih es a b. more_flags q t some es s m none r ih a b)

  -- with 1 to 3 nothing is accepted
  run_by_lem : (v : Verdict) (es : List (List ℕ)) (quota : ℕ) (t : List ℕ)
      → FirstAt (WarnedAt part pins bits first es quota t) t (run_on_verdict v quota t (model_after model first es) (memory_after model first es))
  run_by_lem Passed es quota t = loop_flags quota t (model_after model first es) (memory_after model first es) es refl refl
  run_by_lem (Failed r) es quota t = first_stopped _ _ 0 t (model_after model first es) (memory_after model first es)

pub flags_promise : (part pins bits : ℕ) (first : List ℕ) (es : List (List ℕ)) (quota : ℕ) (t : List ℕ) → FlagsPromise part pins bits first es quota t
unfolding run_of
flags_promise part pins bits first es quota t =
    let made : Model = made_by part pins bits in
    record {
      event = event_flagged part pins bits first es t;
      run = run_by_lem part pins bits first (check_of (model_after made first es) (length (memory_after made first es))) es quota t;
    }
