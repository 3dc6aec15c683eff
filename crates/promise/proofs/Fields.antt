-- The numbers that the bytes of an event get, which field was wrong, and where a run points, by the bytes of the trace: for an event and
-- for a run, of a reached state with any memory, and so after any events from a making. From what the reader finds, kind by kind, and by what holds of
-- every run. Assumes nothing.
use Prim.Native.Nat.{ℕ, zero, suc, ◌+◌, ◌<◌, ◌≤◌}
use mathlib.Core.Path.{◌≡◌, refl, sym, ap, ◌∙◌}
use mathlib.Core.Bool.{Bool, true, false, cond, not, false≢true}
use mathlib.Core.List.{List, [], ◌∷◌}
use mathlib.Core.Logic.{◌⊎◌, inl, inr, ⊎_elim}
use native.Mathlib.Nat.{zero-add, add_assoc}
use native.Mathlib.Omega.{arith}
use lib.Dec.{eqb, ltb}
use lib.ListN.{length, drop, get_or, length-drop}
use lib.Seq.{drop-drop}
use borrow.Author.Tests.{eqb-true, eqb-false, ltb-true, ltb-false, ne_eqb, not-true}
use Rattle.parts.specs.declared.answer.Answer.{Answer}
use Rattle.parts.specs.declared.part.Bus.{Bus}
use Rattle.parts.specs.declared.part.Bus.TheVariants.{Spi, I2c}
use Rattle.parts.specs.declared.part.Part.{Part}
use Rattle.parts.specs.declared.refusal.Refusal.TheVariants as R
use Rattle.parts.specs.Numbers.{answer_number}
use Rattle.parts.specs.Table.{is_spi, part_of}
use Rattle.trace.specs.declared.event.Event.{Event}
use Rattle.trace.specs.declared.event.Event.TheVariants.{SpiPowerOn, I2cPowerOn, PowerOff, Sample, Expected}
use Rattle.trace.specs.Event.{sample_limit}
use Rattle.trace.specs.Read.{known_kind, parsed_event, fields_read, read_of, place_of, Read, Whole, Refused}
use Rattle.spi.specs.Show as SpiShow
use Rattle.i2c.specs.Sample as I2cSample
use Rattle.chip.specs.declared.model.BusState.{BusState}
use Rattle.chip.specs.declared.model.BusState.TheVariants.{Unpowered, SpiOn, I2cOn}
use Rattle.chip.specs.declared.model.Model.{Model}
use Rattle.chip.specs.Check.{Sound, Passed, Failed}
use Rattle.events.specs.Event.{Outcome, accepted, refused, expected, advance_on, advance_of}
use Rattle.events.proofs.Done.{Done, refused_with_lem, accepted_as, done}
use Rattle.runs.specs.Event.{on_read, event_on_verdict, event_of}
use Rattle.runs.specs.Run.{Run, stop_at, after, run_on_verdict, run_of}
use Rattle.runs.proofs.EventLaws.{event_sound, event_stays}
use Rattle.runs.proofs.RunLaws.{taken, Stops, at_quota, at_end, at_refusal, loop_induction}
use Rattle.promise.specs.Lists.{model_after, memory_after}
use Rattle.promise.specs.Promise.{made_by}
use Rattle.promise.specs.Reached.{Reached, by_making, by_event_lem}
use Rattle.promise.proofs.Reached.{reached_check}
use Rattle.promise.specs.Fields.{KnownKind, length_given, Readable, HasSample, start_given, BadSample, BadStart, BadExpected, GoodFields, Faultless, Judged, number_0, number_3, number_4, number_5, number_6, number_10, number_11, number_7, number_8, number_9, EventJudged, kind_at, field_at, Points, FieldsPromise}

-- ---- what the reader finds

-- the events of a kind k, as far as the later numbers ask: power on is 01 or 02, an expected answer 05
abbrev OfKind : ℕ → Event → Type 0
OfKind k (SpiPowerOn x) = k ≤ 2
OfKind k (I2cPowerOn x a) = k ≤ 2
OfKind k PowerOff = 3 ≤ k
OfKind k (Sample x) = 3 ≤ k
OfKind k (Expected v) = k ≡ 5

-- with what the bytes are in each case
data Found (p : Part) (t : List ℕ) : Read → Type 0 where
  whole : {e : Event} {n : ℕ} → OfKind (get_or t 0 0) e → Faultless p t → Found p t (Whole e n)
  bad_sample : Readable p t → BadSample p t → Found p t (Refused R.SampleRange 1)
  bad_start : Readable p t → BadStart p t → Found p t (Refused R.StartRange 2)
  bad_expected : Readable p t → BadExpected t → Found p t (Refused R.ExpectedRange 1)
  short : (length t ≡ 0) ⊎ (KnownKind p (get_or t 0 0) × (length t < length_given (get_or t 0 0))) → Found p t (Refused R.Truncated 0)
  unknown : 0 < length t → (KnownKind p (get_or t 0 0) → ⊥) → Found p t (Refused R.UnknownKind 0)

limit_is : (b : Bus) → cond (is_spi b) 32 8 ≡ sample_limit b
limit_is Spi = refl
limit_is I2c = refl

-- the kinds that the reader knows are those of the bus
module _ (p : Part) (k : ℕ) where
  known_if : known_kind p.bus k ≡ true → KnownKind p k
  known_if h = by (eqb k 1) (eqb k 2) (eqb k 3) (eqb k 4) (eqb k 5) refl refl refl refl refl h
    where
      by : (a b c d e : Bool) → eqb k 1 ≡ a → eqb k 2 ≡ b → eqb k 3 ≡ c → eqb k 4 ≡ d → eqb k 5 ≡ e
          → cond a (is_spi p.bus) (cond b (not (is_spi p.bus)) (cond c true (cond d true (cond e true false)))) ≡ true → KnownKind p k
      by true b c d e x y z u v h = inl (eqb-true k 1 x, h)
      by false true c d e x y z u v h = inr (inl (eqb-true k 2 y, not-true (is_spi p.bus) h))
      by false false true d e x y z u v h = let w = eqb-true k 3 z in inr (inr (omega arith, omega arith))
      by false false false true e x y z u v h = let w = eqb-true k 4 u in inr (inr (omega arith, omega arith))
      by false false false false true x y z u v h = let w = eqb-true k 5 v in inr (inr (omega arith, omega arith))
      by false false false false false x y z u v h = absurd (false≢true h)

  -- no kind of the bus is missing
  none_left : (k ≡ 1 → ⊥) → (k ≡ 2 → ⊥) → (k ≡ 3 → ⊥) → (k ≡ 4 → ⊥) → (k ≡ 5 → ⊥) → KnownKind p k → ⊥
  none_left a b c d e h =
      ⊎_elim (λ z. a z.0) (λ z. ⊎_elim (λ w. b w.0) (λ w. let l = w.0 in let m = w.1 in omega arith) z) h

  known_only : KnownKind p k → known_kind p.bus k ≡ true
  known_only h = by (eqb k 1) (eqb k 2) (eqb k 3) (eqb k 4) (eqb k 5) refl refl refl refl refl
    where
      spi : k ≡ 1 → is_spi p.bus ≡ true
      spi e = ⊎_elim (λ z. z.1) (λ z. ⊎_elim (λ w. let n = w.0 in absurd (omega arith)) (λ w. let n = w.0 in absurd (omega arith)) z) h

      i2c : k ≡ 2 → is_spi p.bus ≡ false
      i2c e = ⊎_elim (λ z. let n = z.0 in absurd (omega arith)) (λ z. ⊎_elim (λ w. w.1) (λ w. let n = w.0 in absurd (omega arith)) z) h

      by : (a b c d e : Bool) → eqb k 1 ≡ a → eqb k 2 ≡ b → eqb k 3 ≡ c → eqb k 4 ≡ d → eqb k 5 ≡ e
          → cond a (is_spi p.bus) (cond b (not (is_spi p.bus)) (cond c true (cond d true (cond e true false)))) ≡ true
      by true b c d e x y z u v = spi (eqb-true k 1 x)
      by false true c d e x y z u v = rw (i2c (eqb-true k 2 y))
      by false false true d e x y z u v = refl
      by false false false true e x y z u v = refl
      by false false false false true x y z u v = refl
      by false false false false false x y z u v =
          absurd (none_left (eqb-false k 1 x) (eqb-false k 2 y) (eqb-false k 3 z) (eqb-false k 4 u) (eqb-false k 5 v) h)

-- the fields of an event that is all there
module _ (p : Part) (t : List ℕ) (all : Readable p t) where
  faultless : {e : Event} {n : ℕ} → OfKind (get_or t 0 0) e → GoodFields p t → Found p t (Whole e n)
  faultless o g = whole o (record { readable = all; good = g })

  -- a kind with a sample and no other field
  sample_found : HasSample (get_or t 0 0) → (get_or t 0 0 ≡ 2 → ⊥) → (get_or t 0 0 ≡ 5 → ⊥) → (e : Event) (n : ℕ) → OfKind (get_or t 0 0) e
      → Found p t (cond (ltb (get_or t 1 0) (sample_limit p.bus)) (Whole e n) (Refused R.SampleRange 1))
  sample_found h no_start no_answer e n o = by (ltb (get_or t 1 0) (sample_limit p.bus)) refl
    where
      by : (y : Bool) → ltb (get_or t 1 0) (sample_limit p.bus) ≡ y → Found p t (cond y (Whole e n) (Refused R.SampleRange 1))
      by true y =
          faultless o
          (record { sample = λ z. rw (limit_is p.bus) (ltb-true _ _ y); start = λ z. absurd (no_start z); expected = λ z. absurd (no_answer z) })
      by false y = bad_sample all (record { kind = h; large = rw (limit_is p.bus) (ltb-false _ _ y) })

  -- 02
  start_found : get_or t 0 0 ≡ 2 → (e : Event) (n : ℕ) → OfKind (get_or t 0 0) e
      → Found p t (cond (ltb (get_or t 1 0) (sample_limit p.bus)) (cond (ltb (start_given t) p.size) (Whole e n) (Refused R.StartRange 2)) (Refused R.SampleRange 1))
  start_found k e n o = by (ltb (get_or t 1 0) (sample_limit p.bus)) (ltb (start_given t) p.size) refl refl
    where
      by : (y z : Bool) → ltb (get_or t 1 0) (sample_limit p.bus) ≡ y → ltb (start_given t) p.size ≡ z
          → Found p t (cond y (cond z (Whole e n) (Refused R.StartRange 2)) (Refused R.SampleRange 1))
      by true true y z =
          faultless o
          (record { sample = λ w. rw (limit_is p.bus) (ltb-true _ _ y); start = λ w. ltb-true _ _ z; expected = λ w. absurd (omega arith) })
      by true false y z = bad_start all (record { kind = k; sample = rw (limit_is p.bus) (ltb-true _ _ y); large = ltb-false _ _ z })
      by false z y w = bad_sample all (record { kind = inr (inl k); large = rw (limit_is p.bus) (ltb-false _ _ y) })

  -- a kind without a sample
  no_sample_lem : (k : ℕ) → (k ≡ 1 → ⊥) → (k ≡ 2 → ⊥) → (k ≡ 4 → ⊥) → HasSample k → ⊥
  no_sample_lem k a b c h = ⊎_elim a (λ z. ⊎_elim b c z) h

  -- 05
  expected_found : get_or t 0 0 ≡ 5 → (e : Event) (n : ℕ) → OfKind (get_or t 0 0) e → Found p t (cond (ltb (get_or t 1 0) 3) (Whole e n) (Refused R.ExpectedRange 1))
  expected_found k e n o = by (ltb (get_or t 1 0) 3) refl
    where
      by : (y : Bool) → ltb (get_or t 1 0) 3 ≡ y → Found p t (cond y (Whole e n) (Refused R.ExpectedRange 1))
      by true y =
          faultless o
          (record {
            sample = λ z. absurd (no_sample_lem (get_or t 0 0) (λ w. omega arith) (λ w. omega arith) (λ w. omega arith) z);
            start = λ z. absurd (omega arith);
            expected = λ z. ltb-true _ _ y;
          })
      by false y = bad_expected all (record { kind = k; large = ltb-false _ _ y })

  -- 03
  no_field : get_or t 0 0 ≡ 3 → GoodFields p t
  no_field k =
      record {
        sample = λ z. absurd (no_sample_lem (get_or t 0 0) (λ w. omega arith) (λ w. omega arith) (λ w. omega arith) z);
        start = λ z. absurd (omega arith);
        expected = λ z. absurd (omega arith);
      }

  fields_found : Found p t (fields_read p (parsed_event (get_or t 0 0) t) (length_given (get_or t 0 0)))
  fields_found =
      by (eqb (get_or t 0 0) 1) (eqb (get_or t 0 0) 2) (eqb (get_or t 0 0) 3) (eqb (get_or t 0 0) 4) (eqb (get_or t 0 0) 5) refl refl refl refl refl
    where
      by : (a b c d e : Bool) → eqb (get_or t 0 0) 1 ≡ a → eqb (get_or t 0 0) 2 ≡ b → eqb (get_or t 0 0) 3 ≡ c → eqb (get_or t 0 0) 4 ≡ d → eqb (get_or t 0 0) 5 ≡ e
          → Found p t (fields_read p (parsed_event (get_or t 0 0) t) (length_given (get_or t 0 0)))
      by true b c d e x y z u v =
          let k = eqb-true (get_or t 0 0) 1 x in
          rw k (sample_found (inl k) (λ w. omega arith) (λ w. omega arith) _ _ (omega arith))
      by false true c d e x y z u v = let k = eqb-true (get_or t 0 0) 2 y in rw k (start_found k _ _ (omega arith))
      by false false true d e x y z u v = let k = eqb-true (get_or t 0 0) 3 z in rw k (faultless (omega arith) (no_field k))
      by false false false true e x y z u v =
          let k = eqb-true (get_or t 0 0) 4 u in
          rw k (sample_found (inr (inr k)) (λ w. omega arith) (λ w. omega arith) _ _ (omega arith))
      by false false false false true x y z u v = let k = eqb-true (get_or t 0 0) 5 v in rw k (expected_found k _ _ k)
      by false false false false false x y z u v =
          absurd
          (none_left p (get_or t 0 0) (eqb-false _ 1 x) (eqb-false _ 2 y) (eqb-false _ 3 z) (eqb-false _ 4 u) (eqb-false _ 5 v) all.known)

module _ (p : Part) (t : List ℕ) where
  found : Found p t (read_of p t)
  unfolding read_of
  found =
      by (eqb (length t) 0) (known_kind p.bus (get_or t 0 0)) (ltb (length t) (length_given (get_or t 0 0))) refl refl refl
    where
      by : (a b c : Bool) → eqb (length t) 0 ≡ a → known_kind p.bus (get_or t 0 0) ≡ b → ltb (length t) (length_given (get_or t 0 0)) ≡ c
          → Found p t (cond a (Refused R.Truncated 0) (cond b (cond c (Refused R.Truncated 0) (fields_read p (parsed_event (get_or t 0 0) t) (length_given (get_or t 0 0)))) (Refused R.UnknownKind 0)))
      by true b c x h l = short (inl (eqb-true (length t) 0 x))
      by false false c x h l = let n = eqb-false (length t) 0 x in unknown (omega arith) (λ z. false≢true (sym h ∙ known_only p (get_or t 0 0) z))
      by false true true x h l = short (inr (known_if p (get_or t 0 0) h, ltb-true (length t) (length_given (get_or t 0 0)) l))
      by false true false x h l =
          fields_found p t (record { known = known_if p (get_or t 0 0) h; there = ltb-false (length t) (length_given (get_or t 0 0)) l })

  -- ---- the number that follows, with a memory of any length l

  module _ (l : ℕ) where
    accepted_judged : Faultless p t → EventJudged p l t 0
    accepted_judged g = record { judged = number_0; accepted = λ z. g }

    -- a refusal is no accepted event
    refused_judged : (n : ℕ) → 0 < n → Judged p l t n → EventJudged p l t n
    refused_judged n b j = record { judged = j; accepted = λ z. absurd (omega arith) }

    module _ (s : Model) (m : List ℕ) (g : Faultless p t) where
      unpowered : 3 ≤ get_or t 0 0 → EventJudged p l t 7
      unpowered k = refused_judged 7 (omega arith) (number_7 g k)

      powered : get_or t 0 0 ≤ 2 → EventJudged p l t 8
      powered k = refused_judged 8 (omega arith) (number_8 g k)

      by_answer : (a : Answer) (v : ℕ) → get_or t 0 0 ≡ 5 → EventJudged p l t (expected s a v).number
      by_answer a v k = by (eqb v (answer_number a))
        where
          by : (y : Bool) → EventJudged p l t (cond y (accepted a s) (refused R.Unexpected s)).number
          by true = accepted_judged g
          by false = refused_judged 9 (omega arith) (number_9 g k)

      -- by power and event
      event_judged_on : (b : BusState) (q : Part) (e : Event) → OfKind (get_or t 0 0) e → EventJudged p l t (advance_on b q s m e).result.number
      event_judged_on Unpowered q (SpiPowerOn x) k = accepted_judged g
      event_judged_on Unpowered q (I2cPowerOn x a) k = accepted_judged g
      event_judged_on Unpowered q PowerOff k = unpowered k
      event_judged_on Unpowered q (Sample x) k = unpowered k
      event_judged_on Unpowered q (Expected v) k = unpowered (omega arith)
      event_judged_on (SpiOn x) q (SpiPowerOn v) k = powered k
      event_judged_on (SpiOn x) q (I2cPowerOn v a) k = powered k
      event_judged_on (SpiOn x) q PowerOff k = accepted_judged g
      event_judged_on (SpiOn x) q (Sample v) k = accepted_judged g
      event_judged_on (SpiOn x) q (Expected v) k = by_answer (SpiShow.answer_at x.last x.shown) v k
      event_judged_on (I2cOn x) q (SpiPowerOn v) k = powered k
      event_judged_on (I2cOn x) q (I2cPowerOn v a) k = powered k
      event_judged_on (I2cOn x) q PowerOff k = accepted_judged g
      event_judged_on (I2cOn x) q (Sample v) k = accepted_judged g
      event_judged_on (I2cOn x) q (Expected v) k = by_answer (I2cSample.answer_of x.pulling) v k

    read_judged : (s : Model) (m : List ℕ) (r : Read) → Found p t r → EventJudged p l t (on_read r s m).result.number
    unfolding advance_of
    read_judged s m (Whole e n) (whole k g) = event_judged_on s m g s.bus (part_of s.part) e k
    read_judged s m (Refused R.SampleRange place) (bad_sample r b) = refused_judged 6 (omega arith) (number_6 r b)
    read_judged s m (Refused R.StartRange place) (bad_start r b) = refused_judged 10 (omega arith) (number_10 r b)
    read_judged s m (Refused R.ExpectedRange place) (bad_expected r b) = refused_judged 11 (omega arith) (number_11 r b)
    read_judged s m (Refused R.Truncated place) (short b) = refused_judged 5 (omega arith) (number_5 b)
    read_judged s m (Refused R.UnknownKind place) (unknown k b) = refused_judged 4 (omega arith) (number_4 k b)
    read_judged s m (Refused R.ModelRange place) h = elim h [ ]
    read_judged s m (Refused R.StateRange place) h = elim h [ ]
    read_judged s m (Refused R.MemoryLength place) h = elim h [ ]
    read_judged s m (Refused R.Unpowered place) h = elim h [ ]
    read_judged s m (Refused R.Powered place) h = elim h [ ]
    read_judged s m (Refused R.Unexpected place) h = elim h [ ]
    read_judged s m (Refused R.NotDeselected place) h = elim h [ ]
    read_judged s m (Refused R.BufferLength place) h = elim h [ ]

  module _ (s : Model) (m : List ℕ) where
    -- where the reader points is where the number's field begins
    done_placed : {o : Outcome} → Done s m o → 0 ≡ field_at o.result.number
    done_placed (refused_with_lem n l h) =
        rw (ne_eqb n 6 (λ z. omega arith), ne_eqb n 10 (λ z. omega arith), ne_eqb n 11 (λ z. omega arith))
    done_placed (accepted_as a f x left u v) = refl

    read_placed : (r : Read) → Found p t r → place_of r ≡ field_at (on_read r s m).result.number
    read_placed (Whole e n) (whole k g) = done_placed (done s m e)
    read_placed (Refused R.SampleRange place) (bad_sample r b) = refl
    read_placed (Refused R.StartRange place) (bad_start r b) = refl
    read_placed (Refused R.ExpectedRange place) (bad_expected r b) = refl
    read_placed (Refused R.Truncated place) (short b) = refl
    read_placed (Refused R.UnknownKind place) (unknown k b) = refl
    read_placed (Refused R.ModelRange place) h = elim h [ ]
    read_placed (Refused R.StateRange place) h = elim h [ ]
    read_placed (Refused R.MemoryLength place) h = elim h [ ]
    read_placed (Refused R.Unpowered place) h = elim h [ ]
    read_placed (Refused R.Powered place) h = elim h [ ]
    read_placed (Refused R.Unexpected place) h = elim h [ ]
    read_placed (Refused R.NotDeselected place) h = elim h [ ]
    read_placed (Refused R.BufferLength place) h = elim h [ ]

-- ---- an event

-- of a state and a memory that passed
sound_judged : (l : ℕ) (s : Model) (m t : List ℕ) → Sound s m → EventJudged (part_of s.part) l t (event_of s m t).result.number
unfolding event_of
sound_judged l s m t sound = rw sound (read_judged (part_of s.part) t l s m (read_of (part_of s.part) t) (found (part_of s.part) t))

-- of a reached state, with any memory
pub event_judged : {s : Model} → Reached s → (m t : List ℕ) → EventJudged (part_of s.part) (length m) t (event_of s m t).result.number
unfolding event_of
event_judged {s} r m t = rw (reached_check r (length m)) (by (eqb (length m) (part_of s.part).size) refl)
  where
    by : (y : Bool) → eqb (length m) (part_of s.part).size ≡ y
        → EventJudged (part_of s.part) (length m) t (event_on_verdict (cond y Passed (Failed R.MemoryLength)) s m t).result.number
    by true e = read_judged (part_of s.part) t (length m) s m (read_of (part_of s.part) t) (found (part_of s.part) t)
    by false e = refused_judged (part_of s.part) t (length m) 3 (omega arith) (number_3 (eqb-false _ _ e))

-- ---- a run

module _ (l : ℕ) where
  -- nothing accepted
  points_here : (p : Part) (t : List ℕ) (n place : ℕ) (s : Model) (m : List ℕ) → Judged p l t n → (4 ≤ n → 0 < length t) → place ≡ field_at n
      → Points p l t (stop_at n place t s m)
  points_here p t n place s m j some e =
      record { accepted = λ i h. absurd (omega arith); judged = j; there = some; offset = rw e (sym (zero-add (field_at n))) }

  -- one accepted event before a run
  points_after : (p : Part) (t : List ℕ) (a : ℕ) (f : Bool) (r : Run) → Faultless p t → Points p l (drop (taken t) t) r → Points p l t (after a f (taken t) r)
  points_after p t a f r g k =
      let more : 1 + r.count ≡ suc r.count = omega arith in
      record {
        accepted = each;
        judged = rw (more, ← drop-drop) k.judged;
        there = λ h. rw more (let b = k.there h in omega (arith, length-drop (taken t) t));
        offset = rw (more, k.offset, add_assoc);
      }
    where
      each : (i : ℕ) → i < 1 + r.count → Faultless p (drop (kind_at i t) t)
      each zero h = g
      each (suc i) h = rw (← drop-drop) (k.accepted i (omega arith))

  abbrev Pointing : ℕ → List ℕ → Model → List ℕ → Run → Type 0
  Pointing q t s m r = Sound s m → Points (part_of s.part) l t r

  stops_point : (q : ℕ) (t : List ℕ) (s : Model) (m : List ℕ) (n place : ℕ) → Stops t s m q n place → Pointing q t s m (stop_at n place t s m)
  unfolding event_of
  stops_point q t s m n place at_quota sound = points_here (part_of s.part) t 0 0 s m number_0 (λ h. absurd (omega arith)) refl
  stops_point q t s m n place (at_end z) sound = points_here (part_of s.part) t 0 0 s m number_0 (λ h. absurd (omega arith)) refl
  stops_point q t s m n place (at_refusal some not-0) sound =
      points_here (part_of s.part) t _ _ s m (sound_judged l s m t sound).judged (λ h. omega (arith, some))
      (rw sound (read_placed (part_of s.part) t s m (read_of (part_of s.part) t) (found (part_of s.part) t)))

  goes_on_pointing : (q : ℕ) (t : List ℕ) (s : Model) (m : List ℕ) → (length t ≡ 0 → ⊥) → (event_of s m t).result.number ≡ 0 → (r : Run)
      → Pointing q (drop (taken t) t) (event_of s m t).result.model (event_of s m t).memory r
      → Pointing (suc q) t s m (after (event_of s m t).result.answer (event_of s m t).result.flag (taken t) r)
  goes_on_pointing q t s m some none r k sound =
      let rest = rw (event_stays s m t).part_stays at (k (event_sound s m t sound)) in
      points_after (part_of s.part) t (event_of s m t).result.answer (event_of s m t).result.flag r ((sound_judged l s m t sound).accepted none) rest

-- of a reached state, with any memory
pub run_points : {s : Model} → Reached s → (q : ℕ) (t m : List ℕ) → Points (part_of s.part) (length m) t (run_of q t s m)
unfolding run_of
run_points {s} r q t m = rw (reached_check r (length m)) (by (eqb (length m) (part_of s.part).size) refl)
  where
    by : (y : Bool) → eqb (length m) (part_of s.part).size ≡ y
        → Points (part_of s.part) (length m) t (run_on_verdict (cond y Passed (Failed R.MemoryLength)) q t s m)
    by true e =
        loop_induction (Pointing (length m)) (stops_point (length m)) (goes_on_pointing (length m)) q t s m
        (reached_check r (length m) ∙ ap (λ (y : Bool). cond y Passed (Failed R.MemoryLength)) e)
    by false e = points_here (length m) (part_of s.part) t 3 0 s m (number_3 (eqb-false _ _ e)) (λ h. absurd (omega arith)) refl

-- ---- from a making

reached_after : (es : List (List ℕ)) {s : Model} (m : List ℕ) → Reached s → Reached (model_after s m es)
reached_after [] m r = r
reached_after (t ∷ es) {s} m r = reached_after es (event_of s m t).memory (by_event_lem m t r)

part_after : (es : List (List ℕ)) (s : Model) (m : List ℕ) → (model_after s m es).part ≡ s.part
part_after [] s m = refl
part_after (t ∷ es) s m = part_after es (event_of s m t).result.model (event_of s m t).memory ∙ (event_stays s m t).part_stays

pub fields_promise : (part pins bits : ℕ) (first : List ℕ) (es : List (List ℕ)) (quota : ℕ) (t : List ℕ) → FieldsPromise part pins bits first es quota t
fields_promise part pins bits first es quota t =
    let made : Model = made_by part pins bits in
    let m : List ℕ = memory_after made first es in
    let r = reached_after es first (by_making part pins bits) in
    record {
      event = rw (part_after es made first) at (event_judged r m t);
      run = rw (part_after es made first) at (run_points r quota t m);
    }
