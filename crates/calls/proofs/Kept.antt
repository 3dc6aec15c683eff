-- A refused event or selection as bytes changes nothing but its result, which says so: not the image, not the memory, not the output; nor
-- does a run that accepts no event, not even the answers. Assumes nothing.
use Prim.Native.Nat.{ℕ}
use mathlib.Core.Path.{◌≡◌, refl, ap, ◌∙◌}
use mathlib.Core.Bool.{Bool, true, false, cond}
use mathlib.Core.List.{List, []}
use native.Mathlib.Omega.{arith}
use lib.ListN.{length}
use Rattle.parts.specs.declared.refusal.Refusal.{Refusal}
use Rattle.parts.specs.declared.refusal.Refusal.TheVariants.{UnknownKind, NotDeselected, BufferLength}
use Rattle.chip.specs.declared.model.Model.{Model}
use Rattle.chip.specs.Check.{check_of, Verdict, Passed, Failed}
use Rattle.byte_path.specs.Select.{Select, select_of}
use Rattle.runs.specs.Event.{event_of}
use Rattle.runs.specs.Run.{Run, run_on_verdict, loop_of, run_of}
use Rattle.runs.proofs.EventLaws.{event_stays}
use Rattle.runs.proofs.RunLaws.{loop_induction}
use Rattle.image.specs.Taken.{image_of, state_of, Bytes}
use Rattle.calls.specs.Calls.{opens, state_number, EventCall, event_left, event_call, RunCall, run_left, run_call, SelectCall, select_left, select_call}
use Rattle.calls.specs.Result.{event_result, run_result, select_result}
use Rattle.calls.proofs.SelectCases.{refusal, select_by}
use Rattle.calls.proofs.Opening.{opened_same}

-- ---- a selection as bytes that is refused leaves state, memory and buffer

module _ (wp : Bool) (s : Model) (input output m : List ℕ) where
  abbrev Kept : Select → Type 0
  Kept x = (x.number ≡ 0 → ⊥) → (x.model ≡ s) × (x.memory ≡ m) × (x.output ≡ output) × (x.first ≡ 0) × (x.count ≡ 0)

  refused : (r : Refusal) → Kept (refusal wp s input output m r)
  refused r = λ z. (refl, refl, refl, refl, refl)

  pub select_stays : Kept (select_of wp s input output m)
  select_stays =
      select_by wp s input output m Kept (λ r e. refused r) (refused UnknownKind) (refused NotDeselected) (refused BufferLength) (λ c z. absurd (z refl))

-- ---- a run that accepts no event leaves state and memory, and has no answers

abbrev NoneAccepted : Model → List ℕ → Run → Type 0
NoneAccepted s m r = r.count ≡ 0 → (r.model ≡ s) × (r.memory ≡ m) × (r.answers ≡ [])

loop_none : (q : ℕ) (t : List ℕ) (s : Model) (m : List ℕ) → NoneAccepted s m (loop_of q t s m)
loop_none =
    loop_induction (λ q t s m r. NoneAccepted s m r) (λ q n place t s m e z. (refl, refl, refl)) (λ q t s m some none r k z. absurd (omega arith))

run_none : (q : ℕ) (t : List ℕ) (s : Model) (m : List ℕ) → NoneAccepted s m (run_of q t s m)
unfolding run_of
run_none q t s m = by (check_of s (length m))
  where
    by : (v : Verdict) → NoneAccepted s m (run_on_verdict v q t s m)
    by Passed = loop_none q t s m
    by (Failed r) = λ z. (refl, refl, refl)

-- ---- calls on buffers of bytes

module _ (b result : List ℕ) (bytes : Bytes b) where
  pub event_changes_nothing : (t m : List ℕ) → ((event_call b t m result).number ≡ 0 → ⊥)
      → ((event_call b t m result).state ≡ b) × ((event_call b t m result).memory ≡ m) × ((event_call b t m result).result ≡ event_result 2 false result)
  unfolding event_call
  event_changes_nothing t m = by (opens b result) refl
    where
      called : Bool → EventCall
      called y =
          cond y (event_left (event_of (state_of b) m t) result) (record { number = state_number; state = b; memory = m; result = event_result 2 false result })

      by : (y : Bool) → opens b result ≡ y → ((called y).number ≡ 0 → ⊥)
          → ((called y).state ≡ b) × ((called y).memory ≡ m) × ((called y).result ≡ event_result 2 false result)
      by true e h =
          let k = event_stays (state_of b) m t in
          (ap image_of (k.refused_model h) ∙ opened_same b result e bytes, k.refused_memory h, rw (k.refused_answer h, k.refused_flag h))
      by false e h = (refl, refl, refl)

  pub select_changes_nothing : (wp : Bool) (input output m : List ℕ) → ((select_call b wp input output m result).number ≡ 0 → ⊥)
      → ((select_call b wp input output m result).state ≡ b)
      × ((select_call b wp input output m result).memory ≡ m)
      × ((select_call b wp input output m result).output ≡ output)
      × ((select_call b wp input output m result).result ≡ select_result 0 0 result)
  unfolding select_call
  select_changes_nothing wp input output m = by (opens b result) refl
    where
      called : Bool → SelectCall
      called y =
          cond y (select_left (select_of wp (state_of b) input output m) result)
          (record { number = state_number; state = b; memory = m; output = output; result = select_result 0 0 result })

      by : (y : Bool) → opens b result ≡ y → ((called y).number ≡ 0 → ⊥)
          → ((called y).state ≡ b) × ((called y).memory ≡ m) × ((called y).output ≡ output) × ((called y).result ≡ select_result 0 0 result)
      by true e h =
          let k = select_stays wp (state_of b) input output m h in
          (ap image_of k.0 ∙ opened_same b result e bytes, k.1, k.2, rw (k.3, k.4))
      by false e h = (refl, refl, refl, refl)

  -- with 2 and 3, refused at its first event, with quota 0 or without bytes
  pub run_changes_nothing : (t : List ℕ) (quota : ℕ) (m answers : List ℕ) → (run_of quota t (state_of b) m).count ≡ 0
      → ((run_call b t quota m answers result).state ≡ b)
      × ((run_call b t quota m answers result).memory ≡ m)
      × ((run_call b t quota m answers result).answers ≡ answers)
  unfolding run_call
  run_changes_nothing t quota m answers z = by (opens b result) refl
    where
      called : Bool → RunCall
      called y =
          cond y (run_left (run_of quota t (state_of b) m) answers result)
          (record { number = state_number; state = b; memory = m; answers = answers; result = run_result 0 0 (length t) result })

      by : (y : Bool) → opens b result ≡ y → ((called y).state ≡ b) × ((called y).memory ≡ m) × ((called y).answers ≡ answers)
      by true e =
          let k = run_none quota t (state_of b) m z in
          (ap image_of k.0 ∙ opened_same b result e bytes, k.1, rw k.2)
      by false e = (refl, refl, refl)
