-- The run rule: a run of j events that is not refused, and one of k on what it left of the trace, from its state and memory, are
-- together one run of j + k. From the laws of a run. Assumes nothing.
use Prim.Native.Nat.{ℕ, suc, ◌+◌, ◌<◌, ◌≤◌}
use mathlib.Core.Path.{◌≡◌, refl, sym, ◌∙◌}
use mathlib.Core.Bool.{Bool}
use mathlib.Core.List.{List}
use native.Mathlib.Nat.{zero-add, add_assoc, suc-add}
use native.Mathlib.Omega.{arith}
use lib.ListN.{length, drop}
use lib.Seq.{drop-drop}
use Rattle.parts.proofs.NumberLaws.{number_positive}
use Rattle.chip.specs.declared.model.Model.{Model}
use Rattle.chip.specs.Check.{check_of, Sound, Verdict, Passed, Failed}
use Rattle.events.proofs.FlagLaws.{first_later, first_behind}
use Rattle.samples.proofs.SamplesLaws.{none_left}
use Rattle.runs.specs.Event.{event_of}
use Rattle.runs.specs.Run.{Run, stop, stop_at, after, run_on_verdict, loop_of, run_of}
use Rattle.runs.specs.Rules.{joined_runs}
use Rattle.runs.proofs.EventLaws.{event_sound, accepted_within}
use Rattle.runs.proofs.RunLaws.{taken, loop_over, loop_accepted, Stops, at_quota, at_end, at_refusal, loop_induction}

-- the run of k events on what a first run leaves
abbrev pub rest : ℕ → List ℕ → Run → Run
rest k t r = loop_of k (drop r.offset t) r.model r.memory

-- ---- state and memory that passed still pass after a run

pub loop_sound : (q : ℕ) (t : List ℕ) (s : Model) (m : List ℕ) → Sound s m → Sound (loop_of q t s m).model (loop_of q t s m).memory
loop_sound =
    loop_induction (λ q t s m r. Sound s m → Sound r.model r.memory)
    (λ q t s m n place e h. h)
    (λ q t s m some none r k h. k (event_sound s m t h))

-- ---- the rule

joined_start : (t : List ℕ) (s : Model) (m : List ℕ) (r : Run) → joined_runs (length t) (stop 0 t s m) r ≡ r
joined_start t s m r = rw (zero-add r.count, zero-add r.offset, zero-add r.flag, first_later (length t) r.flag)

joined_after : (t : List ℕ) (a : ℕ) (f : Bool) (n : ℕ) (r u : Run) → 0 < length t → n ≤ length t
    → joined_runs (length t) (after a f n r) u ≡ after a f n (joined_runs (length (drop n t)) r u)
joined_after t a f n r u some l =
    rw (add_assoc 1 r.count u.count, add_assoc n r.offset u.offset, add_assoc n r.offset u.flag, first_behind (length t) (length (drop n t)) n (sym (none_left t n l)) r.flag (r.offset + u.flag) f some)

module _ (k : ℕ) where
  -- the run r of j events is the first part of one of j + k
  abbrev First : ℕ → List ℕ → Model → List ℕ → Run → Type 0
  First j t s m r = r.number ≡ 0 → loop_of (j + k) t s m ≡ joined_runs (length t) r (rest k t r)

  rule_stops : (j : ℕ) (t : List ℕ) (s : Model) (m : List ℕ) (n place : ℕ) → Stops t s m j n place → First j t s m (stop_at n place t s m)
  rule_stops j t s m n place at_quota h = rw zero-add (sym (joined_start t s m (loop_of k t s m)))
  rule_stops j t s m n place (at_end {q} z) h = rw (loop_over t s m (suc q + k) z) (sym (joined_start t s m _ ∙ loop_over t s m k z))
  rule_stops j t s m n place (at_refusal some not-0) h = absurd (not-0 h)

  rule_goes_on : (j : ℕ) (t : List ℕ) (s : Model) (m : List ℕ) → (length t ≡ 0 → ⊥) → (event_of s m t).result.number ≡ 0 → (r : Run)
      → First j (drop (taken t) t) (event_of s m t).result.model (event_of s m t).memory r
      → First (suc j) t s m (after (event_of s m t).result.answer (event_of s m t).result.flag (taken t) r)
  rule_goes_on j t s m some none r ih h =
      rw (suc-add, loop_accepted t s m (j + k) some none, ih h, drop-drop)
      (sym
      (joined_after t (event_of s m t).result.answer (event_of s m t).result.flag (taken t) r
      (loop_of k (drop (taken t + r.offset) t) r.model r.memory) (omega arith) (accepted_within s m t none)))

pub loop_rule : (j k : ℕ) (t : List ℕ) (s : Model) (m : List ℕ) → (loop_of j t s m).number ≡ 0
    → loop_of (j + k) t s m ≡ joined_runs (length t) (loop_of j t s m) (rest k t (loop_of j t s m))
loop_rule j k t s m = loop_induction (First k) (rule_stops k) (rule_goes_on k) j t s m

pub run_rule : (j k : ℕ) (t : List ℕ) (s : Model) (m : List ℕ) → (run_of j t s m).number ≡ 0
    → run_of (j + k) t s m ≡ joined_runs (length t) (run_of j t s m) (run_of k (drop (run_of j t s m).offset t) (run_of j t s m).model (run_of j t s m).memory)
unfolding run_of
run_rule j k t s m h = by (check_of s (length m)) refl h
  where
    by : (v : Verdict) → check_of s (length m) ≡ v → (run_on_verdict v j t s m).number ≡ 0
        → run_on_verdict v (j + k) t s m
        ≡ joined_runs (length t) (run_on_verdict v j t s m)
        (run_of k (drop (run_on_verdict v j t s m).offset t) (run_on_verdict v j t s m).model (run_on_verdict v j t s m).memory)
    by Passed e z = rw (loop_sound j t s m e) (loop_rule j k t s m z)
    by (Failed r) e z = absurd (number_positive r z)
