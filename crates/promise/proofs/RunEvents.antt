-- A run is the events that its trace splits into, up to where it stops; so demand 3 holds of runs. By what holds of every run, and
-- by induction on the runs. Assumes nothing.
use Prim.Native.Nat.{ℕ, suc, ◌+◌, ◌≤◌, ◌<◌}
use mathlib.Core.Path.{◌≡◌, refl, sym, ap, ◌∙◌}
use mathlib.Core.Bool.{Bool, true, false}
use mathlib.Core.List.{List, [], ◌∷◌, ◌++◌}
use native.Mathlib.Omega.{arith}
use lib.Dec.{ltb}
use lib.ListN.{length, take, drop, get_or, replicate, length-take, length-append, take-append-drop, get_or-append}
use lib.Seq.{take_all}
use borrow.Author.Tests.{eq-eqb, ltb-true, ltb-false, le-ltb, ne_eqb}
use Rattle.parts.specs.declared.part.Part.{Part}
use Rattle.parts.specs.Numbers.{refusal_number}
use Rattle.parts.specs.Table.{part_of}
use Rattle.parts.proofs.NumberLaws.{number_positive}
use Rattle.trace.specs.Read.{event_length, read_of}
use Rattle.trace.proofs.ReadLaws.{length_positive, event_front}
use Rattle.chip.specs.declared.model.Model.{Model}
use Rattle.chip.specs.Check.{check_of, Verdict, Passed, Failed}
use Rattle.runs.specs.Event.{event_of}
use Rattle.runs.specs.Event as One
use Rattle.runs.specs.Run.{Run, stop_at, after, run_on_verdict, loop_of, run_of}
use Rattle.runs.proofs.EventLaws.{accepted_within}
use Rattle.runs.proofs.RunLaws.{taken, Stops, at_quota, at_end, at_refusal, loop_induction}
use Rattle.promise.specs.Lists.{model_after, memory_after}
use Rattle.promise.specs.Promise.{made_by}
use Rattle.promise.specs.RunEvents.{split, ByEvents, Call, ran_by, model_run, memory_run, events_run, RunsPromise}
use Rattle.promise.proofs.Demand3.{demand3}
use Rattle.promise.proofs.FirstAt.{first_stopped, first_more}
use Rattle.promise.proofs.Joins.{model_join, memory_join}

-- ---- an event looks at no more bytes than its kind fixes

-- exactly those, and any after them
read_exact : (p : Part) (u v : List ℕ) → length u ≡ event_length (get_or u 0 0) → read_of p (u ++ v) ≡ read_of p u
unfolding read_of
read_exact p u v h =
    let l : 0 < length u = omega (arith, length_positive (get_or u 0 0)) in
    let k : get_or (u ++ v) 0 0 ≡ get_or u 0 0 = get_or-append u v 0 0 l in
    let a : length (u ++ v) ≡ length u + length v = length-append u v in
    let e = event_front u v (get_or u 0 0) (omega arith) in
    rw (ne_eqb (length (u ++ v)) 0 (λ z. omega arith), ne_eqb (length u) 0 (λ z. omega arith), k, le-ltb (length (u ++ v)) (event_length (get_or u 0 0)) (omega arith), le-ltb (length u) (event_length (get_or u 0 0)) (omega arith), e)

read_front : (p : Part) (t : List ℕ) → read_of p (take (taken t) t) ≡ read_of p t
read_front p t = by (ltb (length t) (taken t)) refl
  where
    by : (y : Bool) → ltb (length t) (taken t) ≡ y → read_of p (take (taken t) t) ≡ read_of p t
    by true y = let l = ltb-true (length t) (taken t) y in rw (take_all (taken t) t (omega arith))
    by false y =
        let l : taken t ≤ length t = ltb-false (length t) (taken t) y in
        let n : length (take (taken t) t) ≡ taken t = simp length-take (omega arith) in
        let some : 0 < length (take (taken t) t) = omega (arith, length_positive (get_or t 0 0)) in
        let k : get_or t 0 0 ≡ get_or (take (taken t) t) 0 0 = rw (take-append-drop (taken t) t) at (get_or-append (take (taken t) t) (drop (taken t) t) 0 0 some) in
        sym (rw (take-append-drop (taken t) t) at (read_exact p (take (taken t) t) (drop (taken t) t) (n ∙ ap event_length k)))

pub event_same : (s : Model) (m t : List ℕ) → event_of s m (take (taken t) t) ≡ event_of s m t
unfolding event_of
event_same s m t = by (check_of s (length m))
  where
    by : (v : Verdict) → One.event_on_verdict v s m (take (taken t) t) ≡ One.event_on_verdict v s m t
    by Passed = rw (read_front (part_of s.part) t)
    by (Failed r) = refl

-- ---- a run

-- one event more
take_more : (c : ℕ) (u : List ℕ) (es : List (List ℕ)) → take (1 + c) (u ∷ es) ≡ u ∷ take c es
take_more c u es = rw (one_add c)
  where
    one_add : (k : ℕ) → 1 + k ≡ suc k
    one_add k = omega arith

module _ (es : List (List ℕ)) (t : List ℕ) (s : Model) (m : List ℕ) where
  -- no event is left
  ran_none : length es ≡ 0 → ByEvents es t s m (stop_at 0 0 t s m)
  ran_none h =
      record {
        model = refl;
        memory = refl;
        accepted = refl;
        answers = refl;
        flag = first_stopped _ 0 0 t s m;
        refused = λ z. absurd (z refl);
        whole = λ z. sym h;
      }

  -- the next one is refused
  ran_refused : (n place : ℕ) → (n ≡ 0 → ⊥) → (event_of s m (get_or es 0 [])).result.number ≡ n → ByEvents es t s m (stop_at n place t s m)
  ran_refused n place h e =
      record { model = refl; memory = refl; accepted = refl; answers = refl; flag = first_stopped _ n place t s m; refused = λ z. e; whole = λ z. absurd (h z) }

-- an event u before them is accepted, the first of t
module _ (es : List (List ℕ)) (t : List ℕ) (s : Model) (m : List ℕ) where
  ran_more : (u : List ℕ) (r : Run) → taken t ≤ length t → (event_of s m u).result.number ≡ 0
      → ByEvents es (drop (taken t) t) (event_of s m u).result.model (event_of s m u).memory r
      → ByEvents (u ∷ es) t s m (after (event_of s m u).result.answer (event_of s m u).result.flag (taken t) r)
  ran_more u r within z k =
      record {
        model = rw (take_more r.count u es) k.model;
        memory = rw (take_more r.count u es) k.memory;
        accepted = rw (take_more r.count u es, z, k.accepted) (zeros r.count);
        answers = rw (take_more r.count u es, k.answers);
        flag = first_more _ _ t r _ within (λ i w. w) (λ i w. w) _ (record { set = λ w. w; only = λ w. w }) k.flag;
        refused = λ w. rw (next r.count) (k.refused w);
        whole = λ w. let e = k.whole w in omega arith;
      }
    where
      zeros : (c : ℕ) → ◌≡◌ {A = List ℕ} (0 ∷ replicate c 0) (replicate (1 + c) 0)
      zeros c = let k : 1 + c ≡ suc c = omega arith in rw k

      next : (c : ℕ) → get_or (u ∷ es) (1 + c) [] ≡ get_or es c []
      next c = let k : 1 + c ≡ suc c = omega arith in rw k

abbrev Ran : ℕ → List ℕ → Model → List ℕ → Run → Type 0
Ran q t s m r = ByEvents (split q t) t s m r

stops_ran : (q : ℕ) (t : List ℕ) (s : Model) (m : List ℕ) (n place : ℕ) → Stops t s m q n place → Ran q t s m (stop_at n place t s m)
stops_ran q t s m n place at_quota = ran_none [] t s m refl
stops_ran q t s m n place (at_end z) = rw (eq-eqb _ _ z) (ran_none [] t s m refl)
stops_ran q t s m n place (at_refusal {q = j} some not-0) =
    rw (ne_eqb _ _ some) (ran_refused (take (taken t) t ∷ split j (drop (taken t) t)) t s m _ _ not-0 (rw (event_same s m t)))

goes_on_ran : (q : ℕ) (t : List ℕ) (s : Model) (m : List ℕ) → (length t ≡ 0 → ⊥) → (event_of s m t).result.number ≡ 0 → (r : Run)
    → Ran q (drop (taken t) t) (event_of s m t).result.model (event_of s m t).memory r
    → Ran (suc q) t s m (after (event_of s m t).result.answer (event_of s m t).result.flag (taken t) r)
goes_on_ran q t s m some none r k =
    let e = event_same s m t in
    rw (ne_eqb _ _ some)
    (rw e at (ran_more (split q (drop (taken t) t)) t s m (take (taken t) t) r (accepted_within s m t none) (rw e none) (rw e k)))

loop_ran : (q : ℕ) (t : List ℕ) (s : Model) (m : List ℕ) → ByEvents (split q t) t s m (loop_of q t s m)
loop_ran = loop_induction Ran stops_ran goes_on_ran

-- for any state, memory, trace and quota
pub run_events : (q : ℕ) (t : List ℕ) (s : Model) (m : List ℕ) → ByEvents (split q t) t s m (run_of q t s m)
unfolding run_of event_of
run_events q t s m = by (check_of s (length m)) refl
  where
    by : (v : Verdict) → check_of s (length m) ≡ v → ByEvents (split q t) t s m (run_on_verdict v q t s m)
    by Passed e = loop_ran q t s m
    by (Failed r) e = ran_refused (split q t) t s m (refusal_number r) 0 (number_positive r) (failed (get_or (split q t) 0 []))
      where
        failed : (u : List ℕ) → (event_of s m u).result.number ≡ refusal_number r
        failed u = rw e

-- ---- runs from a making

run_join : (cs : List Call) (s : Model) (m : List ℕ)
    → (model_after s m (events_run s m cs) ≡ model_run s m cs) × (memory_after s m (events_run s m cs) ≡ memory_run s m cs)
run_join [] s m = (refl, refl)
run_join (c ∷ cs) s m =
    let r = run_events c.quota c.trace s m in
    let k = run_join cs (ran_by c s m).model (ran_by c s m).memory in
    (rw (model_join, r.model, r.memory) k.0, rw (memory_join, r.model, r.memory) k.1)

pub runs_promise : (part pins bits : ℕ) (first : List ℕ) (cs : List Call) → RunsPromise part pins bits first cs
runs_promise part pins bits first cs =
    let k = run_join cs (made_by part pins bits) first in
    record { model = k.0; memory = k.1; promise = demand3 part pins bits first (events_run (made_by part pins bits) first cs) }
