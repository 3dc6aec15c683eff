-- For a state that passes 1 and 2 no event, no run and no selection as bytes gives 1 or 2. So a call on an image never gives 1, and 2
-- exactly if state or result are not what it takes. From the order of the tests. Assumes nothing.
use Prim.Native.Nat.{ℕ}
use mathlib.Core.Path.{◌≡◌, refl}
use mathlib.Core.Bool.{Bool, true, false, cond}
use mathlib.Core.List.{List}
use native.Mathlib.Omega.{arith}
use lib.Dec.{eqb, ltb}
use lib.ListN.{length, get_or}
use borrow.Author.Tests.{eqb-false, ne_eqb}
use Rattle.parts.specs.declared.part.Part.{Part}
use Rattle.parts.specs.declared.refusal.Refusal.TheVariants as R
use Rattle.parts.specs.Numbers.{refusal_number}
use Rattle.parts.specs.Table.{part_of}
use Rattle.trace.specs.Read.{Read, Whole, Refused}
use Rattle.trace.specs.declared.event.Event.{Event}
use Rattle.trace.specs.Event.{sample_in, start_in, expected_in}
use Rattle.trace.specs.Read as Trace
use Rattle.chip.specs.declared.model.Model.{Model}
use Rattle.chip.specs.Check.{check_of, Verdict, Passed, Failed}
use Rattle.events.specs.Event.{Outcome}
use Rattle.events.proofs.Done.{Done, refused_with_lem, accepted_as, done}
use Rattle.byte_path.specs.Select.{Select, select_of}
use Rattle.runs.specs.Event.{on_read, event_on_verdict, event_of}
use Rattle.runs.specs.Run.{run_on_verdict, loop_of, run_of}
use Rattle.runs.proofs.RunLaws.{Stops, at_quota, at_end, at_refusal, loop_induction}
use Rattle.image.specs.Taken.{in_range, state_of}
use Rattle.calls.specs.Calls.{opens, Numbered, event_call, run_call, select_call}
use Rattle.calls.proofs.InRange.{event_range}
use Rattle.calls.proofs.Opening.{check_by, opened_passes}
use Rattle.calls.proofs.SelectCases.{select_by}

-- neither 1 nor 2
abbrev pub Late : ℕ → Type 0
Late n = (eqb n 1 ≡ false) × (eqb n 2 ≡ false)

-- ---- the reader gives 4, 5, 6, 10 or 11

abbrev LateRead : Read → Type 0
LateRead (Whole e n) = Unit {0}
LateRead (Refused r place) = Late (refusal_number r)

read_late : (p : Part) (t : List ℕ) → LateRead (Trace.read_of p t)
unfolding Trace.read_of
read_late p t =
    by (eqb (length t) 0) (Trace.known_kind p.bus (get_or t 0 0)) (ltb (length t) (Trace.event_length (get_or t 0 0)))
    (Trace.parsed_event (get_or t 0 0) t) (Trace.event_length (get_or t 0 0))
  where
    fields : (a b c : Bool) (e : Event) (n : ℕ)
        → LateRead (cond a (cond b (cond c (Whole e n) (Refused R.ExpectedRange 1)) (Refused R.StartRange 2)) (Refused R.SampleRange 1))
    fields true true true e n = tt
    fields true true false e n = (refl, refl)
    fields true false c e n = (refl, refl)
    fields false b c e n = (refl, refl)

    by : (a b c : Bool) (e : Event) (n : ℕ)
        → LateRead (cond a (Refused R.Truncated 0) (cond b (cond c (Refused R.Truncated 0) (Trace.fields_read p e n)) (Refused R.UnknownKind 0)))
    by true b c e n = (refl, refl)
    by false true true e n = (refl, refl)
    by false true false e n = fields (sample_in p e) (start_in p e) (expected_in e) e n
    by false false c e n = (refl, refl)

-- ---- an event that was read gives 0, 7, 8 or 9

done_late : {s : Model} {m : List ℕ} {o : Outcome} → Done s m o → Late o.result.number
done_late (refused_with_lem n l h) = (ne_eqb n 1 (λ e. omega arith), ne_eqb n 2 (λ e. omega arith))
done_late (accepted_as a f after left q r) = (refl, refl)

on_read_lem : (r : Read) (s : Model) (m : List ℕ) → LateRead r → Late (on_read r s m).result.number
on_read_lem (Whole e n) s m h = done_late (done s m e)
on_read_lem (Refused r place) s m h = h

-- ---- the tests before give 3

abbrev LateVerdict : Verdict → Type 0
LateVerdict Passed = Unit {0}
LateVerdict (Failed r) = Late (refusal_number r)

check_late : (s : Model) → in_range s ≡ true → (n : ℕ) → LateVerdict (check_of s n)
check_late s h n = rw (check_by s n _ h refl) (by (eqb n (part_of s.part).size))
  where
    by : (y : Bool) → LateVerdict (cond y Passed (Failed R.MemoryLength))
    by true = tt
    by false = (refl, refl)

-- ---- any bytes on a state that passes

pub event_late : (s : Model) → in_range s ≡ true → (m t : List ℕ) → Late (event_of s m t).result.number
unfolding event_of
event_late s h m t = by (check_of s (length m)) (check_late s h (length m))
  where
    by : (v : Verdict) → LateVerdict v → Late (event_on_verdict v s m t).result.number
    by Passed k = on_read_lem (Trace.read_of (part_of s.part) t) s m (read_late (part_of s.part) t)
    by (Failed r) k = k

loop_late : (quota : ℕ) (t : List ℕ) (s : Model) (m : List ℕ) → in_range s ≡ true → Late (loop_of quota t s m).number
loop_late =
    loop_induction (λ q t s m r. in_range s ≡ true → Late r.number) stops (λ q t s m some none r k h. k (event_range s m t h))
  where
    stops : (q : ℕ) (t : List ℕ) (s : Model) (m : List ℕ) (n place : ℕ) → Stops t s m q n place → in_range s ≡ true → Late n
    stops q t s m n place at_quota h = (refl, refl)
    stops q t s m n place (at_end z) h = (refl, refl)
    stops q t s m n place (at_refusal some not-0) h = event_late s h m t

pub run_late : (s : Model) → in_range s ≡ true → (quota : ℕ) (t m : List ℕ) → Late (run_of quota t s m).number
unfolding run_of
run_late s h quota t m = by (check_of s (length m)) (check_late s h (length m))
  where
    by : (v : Verdict) → LateVerdict v → Late (run_on_verdict v quota t s m).number
    by Passed k = loop_late quota t s m h
    by (Failed r) k = k

pub select_late : (s : Model) → in_range s ≡ true → (wp : Bool) (input output m : List ℕ) → Late (select_of wp s input output m).number
select_late s h wp input output m =
    select_by wp s input output m (λ (x : Select). Late x.number) (λ r e. rw e at (check_late s h (length m))) (refl, refl) (refl, refl) (refl, refl)
    (λ c. (refl, refl))

-- ---- calls on images

module _ (b result : List ℕ) where
  numbered : (n : ℕ) → (opens b result ≡ true → Late n) → (opens b result ≡ false → n ≡ 2) → Numbered b result n
  numbered n late closed = let k = by (opens b result) refl in (k.0, k.1, closed)
    where
      by : (y : Bool) → opens b result ≡ y → (n ≡ 1 → ⊥) × (n ≡ 2 → opens b result ≡ false)
      by true e = (eqb-false n 1 (late e).0, λ z. absurd (eqb-false n 2 (late e).1 z))
      by false e = let k = closed e in (λ z. omega arith, λ z. e)

  pub event_numbered : (t m : List ℕ) → Numbered b result (event_call b t m result).number
  unfolding event_call
  event_numbered t m = numbered _ (λ h. rw h (event_late (state_of b) (opened_passes b result h) m t)) (λ h. rw h)

  pub run_numbered : (t : List ℕ) (quota : ℕ) (m answers : List ℕ) → Numbered b result (run_call b t quota m answers result).number
  unfolding run_call
  run_numbered t quota m answers = numbered _ (λ h. rw h (run_late (state_of b) (opened_passes b result h) quota t m)) (λ h. rw h)

  pub select_numbered : (wp : Bool) (input output m : List ℕ) → Numbered b result (select_call b wp input output m result).number
  unfolding select_call
  select_numbered wp input output m =
      numbered _ (λ h. rw h (select_late (state_of b) (opened_passes b result h) wp input output m)) (λ h. rw h)
