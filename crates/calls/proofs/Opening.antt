-- How a call begins: with 0 the image is taken and state and memory pass 1 to 3; with 2 or 3 the call is refused, and leaves what it was
-- given. Assumes nothing.
use Prim.Native.Nat.{ℕ}
use mathlib.Core.Path.{◌≡◌, refl}
use mathlib.Core.Bool.{Bool, true, false, cond}
use mathlib.Core.List.{List}
use native.Mathlib.Omega.{arith}
use lib.Dec.{eqb}
use lib.ListN.{length}
use Rattle.parts.specs.Table.{part_of}
use Rattle.parts.proofs.Rows.{and_both}
use Rattle.parts.specs.declared.refusal.Refusal.TheVariants.{MemoryLength}
use Rattle.chip.specs.declared.model.Model.{Model}
use Rattle.chip.specs.Check.{model_in, check_of, Sound, Passed, Failed}
use Rattle.byte_path.specs.Select.{select_of}
use Rattle.runs.specs.Event.{event_of}
use Rattle.runs.specs.Run.{run_of}
use Rattle.image.specs.Taken.{image_of, state_of, in_range, taken, Bytes}
use Rattle.image.proofs.TakenLaws.{encode_decode, taken_passes}
use Rattle.calls.specs.Calls.{opens, event_call, run_call, select_call, open_number, event_kept, run_kept, select_kept}

-- a state that passes 1 and 2 fails 3 by the memory's length only
pub check_by : (s : Model) (n : ℕ) (z : Bool) → in_range s ≡ true → eqb n (part_of s.part).size ≡ z → check_of s n ≡ cond z Passed (Failed MemoryLength)
unfolding check_of
check_by s n z h e =
    let k = and_both (model_in s) _ h in
    rw (k.0, k.1, e)

-- ---- state and result are what a call takes

module _ (b result : List ℕ) where
  pub short_closed : eqb (length result) 32 ≡ false → opens b result ≡ false
  short_closed h = rw h

  module _ (h : opens b result ≡ true) where
    pub opened_taken : taken b ≡ true
    opened_taken = (and_both (eqb (length result) 32) _ h).1

    pub opened_passes : in_range (state_of b) ≡ true
    opened_passes = taken_passes b opened_taken

    -- the image of the state that it reads as is the buffer
    pub opened_same : Bytes b → image_of (state_of b) ≡ b
    opened_same bytes = encode_decode b bytes opened_taken

-- ---- the number that a call begins with

module _ (b result m : List ℕ) where
  abbrev number : ℕ
  number = open_number b (length result) (length m)

  abbrev size : ℕ
  size = (part_of (state_of b).part).size

  -- ---- with 0

  pub record Opened : Type 0 where
    pub takes : opens b result ≡ true
    pub passes : Sound (state_of b) m

  pub opened : number ≡ 0 → Opened
  unfolding open_number
  opened = by (opens b result) (eqb (length m) size) refl refl
    where
      by : (y z : Bool) → opens b result ≡ y → eqb (length m) size ≡ z → cond {A = ℕ} y (cond z 0 3) 2 ≡ 0 → Opened
      by true true e k h = record { takes = e; passes = check_by (state_of b) (length m) true (opened_passes b result e) k }
      by true false e k h = absurd (omega arith)
      by false true e k h = absurd (omega arith)
      by false false e k h = absurd (omega arith)

  -- ---- with 2 or 3

  -- the buffers are right, and the memory's length is not
  module _ (bytes : Bytes b) (e : opens b result ≡ true) (k : eqb (length m) size ≡ false) where
    same : image_of (state_of b) ≡ b
    same = opened_same b result e bytes

    failed : check_of (state_of b) (length m) ≡ Failed MemoryLength
    failed = check_by (state_of b) (length m) false (opened_passes b result e) k

    event_three : (t : List ℕ) → event_call b t m result ≡ event_kept b m result
    unfolding event_call event_of open_number
    event_three t = rw (e, failed, k, same)

    run_three : (t : List ℕ) (quota : ℕ) (answers : List ℕ) → run_call b t quota m answers result ≡ run_kept b m result t answers
    unfolding run_call run_of open_number
    run_three t quota answers = rw (e, failed, k, same)

    select_three : (wp : Bool) (input output : List ℕ) → select_call b wp input output m result ≡ select_kept b m result output
    unfolding select_call select_of open_number
    select_three wp input output = rw (e, failed, k, same)

  pub event_two : opens b result ≡ false → (t : List ℕ) → event_call b t m result ≡ event_kept b m result
  unfolding event_call open_number
  event_two e t = rw e

  pub run_two : opens b result ≡ false → (t : List ℕ) (quota : ℕ) (answers : List ℕ) → run_call b t quota m answers result ≡ run_kept b m result t answers
  unfolding run_call open_number
  run_two e t quota answers = rw e

  pub select_two : opens b result ≡ false → (wp : Bool) (input output : List ℕ) → select_call b wp input output m result ≡ select_kept b m result output
  unfolding select_call open_number
  select_two e wp input output = rw e

  -- what holds with 2 and with 3 holds of every call that does not begin with 0
  refused_by_lem : {P : Type 0} → (opens b result ≡ false → P) → (opens b result ≡ true → eqb (length m) size ≡ false → P) → (number ≡ 0 → ⊥) → P
  unfolding open_number
  refused_by_lem {P} two three = by (opens b result) (eqb (length m) size) refl refl
    where
      by : (y z : Bool) → opens b result ≡ y → eqb (length m) size ≡ z → (cond {A = ℕ} y (cond z 0 3) 2 ≡ 0 → ⊥) → P
      by true true e k h = absurd (h refl)
      by true false e k h = three e k
      by false z e k h = two e

  pub event_kept_lem : Bytes b → (number ≡ 0 → ⊥) → (t : List ℕ) → event_call b t m result ≡ event_kept b m result
  event_kept_lem bytes h t = refused_by_lem (λ e. event_two e t) (λ e k. event_three bytes e k t) h

  pub run_kept_lem : Bytes b → (number ≡ 0 → ⊥) → (t : List ℕ) (quota : ℕ) (answers : List ℕ) → run_call b t quota m answers result ≡ run_kept b m result t answers
  run_kept_lem bytes h t quota answers = refused_by_lem (λ e. run_two e t quota answers) (λ e k. run_three bytes e k t quota answers) h

  pub select_kept_lem : Bytes b → (number ≡ 0 → ⊥) → (wp : Bool) (input output : List ℕ) → select_call b wp input output m result ≡ select_kept b m result output
  select_kept_lem bytes h wp input output = refused_by_lem (λ e. select_two e wp input output) (λ e k. select_three bytes e k wp input output) h
