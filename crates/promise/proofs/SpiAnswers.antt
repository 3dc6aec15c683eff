-- Every accepted event of an SPI part answers what the open selection gives, after every list of events on a model just made,
-- refused events included: by the agreement with the ledger and by what a sample leaves shown. Assumes nothing.
use Prim.Native.Nat.{ℕ}
use mathlib.Core.Path.{◌≡◌, refl, sym, ap, ap₂, ◌∙◌, subst}
use mathlib.Core.Bool.{Bool, true, false, cond, false≢true}
use mathlib.Core.List.{List, [], ◌∷◌, ◌++◌}
use lib.Dec.{eqb}
use Rattle.parts.specs.declared.part.Part.{Part}
use Rattle.parts.specs.declared.refusal.Refusal.TheVariants as R
use Rattle.parts.specs.declared.status.Status.{Status}
use Rattle.parts.specs.Numbers.{answer_number}
use Rattle.parts.specs.Table.{is_spi, part_of, Fit}
use Rattle.parts.proofs.Rows.{part_fits}
use Rattle.serial.specs.Write.{applied}
use Rattle.trace.specs.declared.event.Event.{Event}
use Rattle.trace.specs.declared.event.Event.TheVariants.{SpiPowerOn, I2cPowerOn, PowerOff, Sample, Expected}
use Rattle.trace.specs.Read.{read_of, Whole}
use Rattle.trace.proofs.SuitLaws.{Suits}
use Rattle.selection.specs.declared.edge.Edge.{Edge}
use Rattle.selection.specs.declared.edge.Edge.TheVariants.{Select, Deselect, Rise, Fall, Quiet}
use Rattle.selection.specs.declared.levels.Levels.{Levels}
use Rattle.spi.specs.declared.sample.Spi.{Spi}
use Rattle.spi.specs.Sample as SpiSample
use Rattle.selection.specs.Edge.{edge_of}
use Rattle.selection.specs.Levels.{levels_of}
use Rattle.spi.specs.Sample.{step_on, step_of}
use Rattle.spi.specs.Show.{answer_at}
use Rattle.chip.specs.declared.model.BusState.{BusState}
use Rattle.chip.specs.declared.model.BusState.TheVariants.{Unpowered, SpiOn, I2cOn}
use Rattle.chip.specs.declared.model.Model.{Model}
use Rattle.events.specs.Event.{Outcome, keeping, accepted, refused, on_unpowered, on_spi, advance_on, advance_of}
use Rattle.chip.specs.Check.{Sound}
use Rattle.chip.specs.Model.{model_of}
use Rattle.chip.proofs.CheckLaws.{model_in_lem}
use Rattle.ledger.specs.History.{Entry}
use Rattle.ledger.specs.SpiLedger.{no_sample, items, last_sample}
use Rattle.ledger.specs.SpiAnswers.{last_fall, fall_shows, unless_held, spi_answer}
use Rattle.ledger.proofs.SpiAnswers.{Shows, answer_held, held_two, sample_shows}
use Rattle.promise.specs.Lists.{model_after, memory_after}
use Rattle.promise.specs.Ledger.{saved_in}
use Rattle.promise.specs.Promise.{made_by, history_of}
use Rattle.promise.specs.SpiAnswers.{observed_after, SpiAnswers}
use Rattle.promise.proofs.Ranges.{InRange, made_in, made_off}
use Rattle.promise.proofs.Stays.{accepted_whole}
use Rattle.promise.proofs.Joins.{fed_join}
use Rattle.promise.proofs.Runs.{entered, runs}
use Rattle.promise.proofs.Agrees.{AgreesOn, spi_agrees}
use Rattle.promise.proofs.Steps.{Fits, step, start}

-- the answer of a sample is the present answer after it
sample_answer : (p : Part) (st : Status) (s : Spi) (l : Levels) (m : List ℕ)
    → (step_of p st s l m).answer ≡ answer_at (step_of p st s l m).spi.last (step_of p st s l m).spi.shown
unfolding step_of
sample_answer p st s l m = by (edge_of s.last l)
  where
    by : (e : Edge) → (step_on e p st s l m).answer ≡ answer_at (step_on e p st s l m).spi.last (step_on e p st s l m).spi.shown
    by Select = refl
    by Deselect = refl
    by (Rise x) = refl
    by Fall = refl
    by Quiet = refl

module _ (made : Model) (first : List ℕ) where
  abbrev part : Part
  part = part_of made.part

  abbrev answer : List Entry → ℕ
  answer = spi_answer part (saved_in made.status) first

  -- the answer of each entry is that of the history up to and including it
  abbrev pub Answered : List Entry → Type 0
  Answered [] = Unit {0}
  Answered (e ∷ h) = (e.answer ≡ answer (e ∷ h)) × Answered h

  -- under power, what is shown is what the last counted fall shows; without power there is no sample
  abbrev pub ShowsOn : BusState → Status → List ℕ → List Entry → Type 0
  ShowsOn Unpowered st m h = last_sample h ≡ no_sample
  ShowsOn (SpiOn x) st m h = Shows part st x m (last_fall part h)
  ShowsOn (I2cOn x) st m h = Unit {0}

  -- the present answer
  present : (x : Spi) (st : Status) (m : List ℕ) (h : List Entry) → AgreesOn made first (SpiOn x) st m h → ShowsOn (SpiOn x) st m h
      → answer_number (answer_at x.last x.shown) ≡ answer h
  present x st m h f g =
      answer_held x.last x.shown
      ∙ ap₂ unless_held (sym f.2)
      (g.shown_is ∙ ap₂ (λ (y : Status) (z : List ℕ). fall_shows part y z (last_fall part h)) f.1.status_is f.1.memory_is)

  module _ (spi : is_spi part.bus ≡ true) (st : Status) (m : List ℕ) (h : List Entry) (q : Answered h) where
    abbrev at : BusState → Model
    at b = model_of made.part made.pins st b

    -- what holds after an event
    abbrev Next : Event → Outcome → Type 0
    Next e o = ShowsOn o.result.model.bus o.result.model.status o.memory (entered e o h) × Answered (entered e o h)

    unpowered_next : (e : Event) → Suits part e → ShowsOn Unpowered st m h → Next e (keeping m (on_unpowered (at Unpowered) e))
    unpowered_next (SpiPowerOn x) u g = (record { shown_is = refl; before = λ k st' m'. refl }, (sym (held_two (levels_of x)), q))
    unpowered_next (I2cPowerOn x a) u g = absurd (false≢true (sym u.0 ∙ spi))
    unpowered_next PowerOff u g = (g, q)
    unpowered_next (Sample x) u g = (g, q)
    unpowered_next (Expected v) u g = (g, q)

    module _ (fit : Fit part) (x : Spi) (f : AgreesOn made first (SpiOn x) st m h) (g : ShowsOn (SpiOn x) st m h) where
      -- an expected answer, accepted or not, changes nothing
      expected_next : (y : Bool) (v : ℕ)
          → Next (Expected v)
          (keeping m (cond y (accepted (answer_at x.last x.shown) (at (SpiOn x))) (refused R.Unexpected (at (SpiOn x)))))
      expected_next true v = (g, (present x st m h f g, q))
      expected_next false v = (g, q)

      sample_next : (v : ℕ) → Next (Sample v) (on_spi part (at (SpiOn x)) x m (Sample v))
      sample_next v =
          let l : Levels = levels_of v in
          let o : SpiSample.Outcome = step_of part st x l m in
          let e : Entry = record { event = Sample v; answer = answer_number o.answer } in
          let m' : List ℕ = applied o.write m in
          let g' : ShowsOn (SpiOn o.spi) o.status m' (e ∷ h) =
          rw f.2 (sample_shows part (saved_in made.status) first fit st x l m (items h) (last_fall part h) f.1 g) in
          let f' = spi_agrees made first st m h fit x (Sample v) f in
          (g', (ap answer_number (sample_answer part st x l m) ∙ present o.spi o.status m' (e ∷ h) f' g', q))

      spi_next : (e : Event) → Next e (on_spi part (at (SpiOn x)) x m e)
      spi_next (SpiPowerOn v) = (g, q)
      spi_next (I2cPowerOn v a) = (g, q)
      spi_next PowerOff = (refl, (refl, q))
      spi_next (Sample v) = sample_next v
      spi_next (Expected v) = expected_next (eqb v (answer_number (answer_at x.last x.shown))) v

    event_next : Fit part → (b : BusState) (e : Event) → Suits part e → AgreesOn made first b st m h → ShowsOn b st m h
        → Next e (advance_on b part (at b) m e)
    event_next fit Unpowered e u f g = unpowered_next e u g
    event_next fit (SpiOn x) e u f g = spi_next fit x f g e
    event_next fit (I2cOn x) e u f g = absurd (false≢true (sym f.0 ∙ spi))

  -- ---- lists

  -- state, memory and history agree with the ledger, and so does each answer so far
  pub record AnswersSoFar (s : Model) (m : List ℕ) (h : List Entry) : Type 0 where
    pub fits : Fits made first s m h
    pub shows : ShowsOn s.bus s.status m h
    pub answered : Answered h

  module _ (inside : InRange made) (spi : is_spi part.bus ≡ true) where
    abbrev NextAt : Model → List ℕ → List Entry → Event → Type 0
    NextAt s m h e =
        ShowsOn (advance_of s m e).result.model.bus (advance_of s m e).result.model.status (advance_of s m e).memory
        (entered e (advance_of s m e) h)
        × Answered (entered e (advance_of s m e) h)

    next_at : (b : BusState) (st : Status) (m : List ℕ) (h : List Entry) (e : Event) → Suits part e → AgreesOn made first b st m h
        → ShowsOn b st m h → Answered h → NextAt (model_of made.part made.pins st b) m h e
    unfolding advance_of
    next_at b st m h e u f g q = event_next spi st m h q (part_fits made.part (model_in_lem made inside.0).known) b e u f g

    answers_step : (s : Model) (m : List ℕ) (h : List Entry) (e : Event) → AnswersSoFar s m h → Sound s m → Suits part e
        → AnswersSoFar (advance_of s m e).result.model (advance_of s m e).memory (entered e (advance_of s m e) h)
    answers_step s m h e a c u =
        let q : s ≡ model_of made.part made.pins s.status s.bus =
        ap₂ (λ (x y : ℕ). model_of x y s.status s.bus) a.fits.part_is a.fits.pins_are in
        let n : NextAt s m h e =
        subst (λ (x : Model). NextAt x m h e) (sym q)
        (next_at s.bus s.status m h e u a.fits.agrees a.shows a.answered) in
        record { fits = step made first inside s m h e a.fits c u; shows = n.0; answered = n.1 }

    -- after every list
    pub list_answers : made.bus ≡ Unpowered → (es : List (List ℕ))
        → AnswersSoFar (model_after made first es) (memory_after made first es) (history_of made first es)
    list_answers e es =
        let a : AnswersSoFar made first [] = record { fits = start made first inside e; shows = rw e; answered = tt } in
        runs part AnswersSoFar (λ s m h f. ap part_of f.fits.part_is) answers_step es made first [] a

-- ---- any making

module _ (number pins bits : ℕ) (first : List ℕ) where
  abbrev model : Model
  model = made_by number pins bits

  abbrev row : Part
  row = part_of model.part

  module _ (spi : is_spi row.bus ≡ true) where
    -- each accepted event of a list, as an entry of its history
    pub every_answer : (es : List (List ℕ)) → Answered model first (history_of model first es)
    every_answer es = (list_answers model first (made_in number pins bits) spi (made_off number pins bits) es).answered

    module _ (es : List (List ℕ)) (t : List ℕ) (z : (observed_after model first es t).number ≡ 0) where
      abbrev after : List Entry
      after = history_of model first (es ++ (t ∷ []))

      -- an accepted event is the latest entry
      pub latest : (e : Event) (n : ℕ) → read_of row t ≡ Whole e n
          → after ≡ record { event = e; answer = (observed_after model first es t).answer } ∷ history_of model first es
      latest e n r =
          let y : eqb (observed_after model first es t).number 0 ≡ true = rw z in
          fed_join row es (t ∷ []) model first [] ∙ rw (y, r)

      answer_is : (observed_after model first es t).answer ≡ spi_answer row (saved_in model.status) first after
      answer_is =
          let s : Model = model_after model first es in
          let w = accepted_whole s (memory_after model first es) t (rw z) in
          let f = (list_answers model first (made_in number pins bits) spi (made_off number pins bits) es).fits in
          let l = latest w.0 w.1 (rw f.part_is at w.2) in
          let a = rw l at (every_answer (es ++ (t ∷ []))) in
          rw l a.0

-- the answers that an SPI part gives
pub spi_answers : (number pins bits : ℕ) (first : List ℕ) → SpiAnswers number pins bits first
spi_answers number pins bits first spi es t z = answer_is number pins bits first spi es t z
