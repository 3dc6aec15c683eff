-- Calls on images are calls on states: on the image of a state each gives the number, answer, flag, count, offsets, first and count,
-- answers, output and memory of the call on the state, and leaves the image of the state that this leaves. A refused call leaves what it
-- was given, and what a call leaves in the place of an image is one. Assumes nothing.
use Prim.Native.Nat.{ℕ}
use mathlib.Core.Path.{◌≡◌, refl, ap}
use mathlib.Core.Bool.{Bool, true, false, cond}
use mathlib.Core.List.{List}
use lib.Dec.{eqb}
use lib.ListN.{length}
use native.Mathlib.Omega.{arith}
use borrow.Author.Tests.{eq-eqb, eqb-true, eqb-false}
use Rattle.chip.specs.declared.model.Model.{Model}
use Rattle.byte_path.specs.Select.{select_of}
use Rattle.runs.specs.Event.{event_of}
use Rattle.runs.specs.Run.{run_of}
use Rattle.model.specs.Made.{Made}
use Rattle.model.specs.Make.{make_of}
use Rattle.image.specs.Taken.{image_of, state_of, in_range, taken}
use Rattle.image.proofs.TakenLaws.{decode_encode, image_taken}
use Rattle.calls.specs.Calls.{opens, state_number, MakeCall, make_call, event_left, event_call, run_left, run_call, select_left, select_call}
use Rattle.calls.proofs.InRange.{event_range, run_range, select_range}
use Rattle.calls.proofs.Opening.{opened_passes}

-- ---- on the image of a state that passes 1 and 2, with a result of 32 bytes

module _ (s : Model) (h : in_range s ≡ true) (result : List ℕ) (long : length result ≡ 32) where
  opens_image : opens (image_of s) result ≡ true
  opens_image = rw (eq-eqb (length result) 32 long, image_taken s h)

  pub event_on_image : (t m : List ℕ) → event_call (image_of s) t m result ≡ event_left (event_of s m t) result
  unfolding event_call
  event_on_image t m = rw (opens_image) (ap (λ (x : Model). event_left (event_of x m t) result) (decode_encode s h))

  pub run_on_image : (t : List ℕ) (quota : ℕ) (m answers : List ℕ)
      → run_call (image_of s) t quota m answers result ≡ run_left (run_of quota t s m) answers result
  unfolding run_call
  run_on_image t quota m answers = rw (opens_image) (ap (λ (x : Model). run_left (run_of quota t x m) answers result) (decode_encode s h))

  pub select_on_image : (wp : Bool) (input output m : List ℕ)
      → select_call (image_of s) wp input output m result ≡ select_left (select_of wp s input output m) result
  unfolding select_call
  select_on_image wp input output m =
      rw (opens_image) (ap (λ (x : Model). select_left (select_of wp x input output m) result) (decode_encode s h))

-- ---- a making

pub make_into_lem : (part pins bits : ℕ) (b : List ℕ) → length b ≡ 32 → (make_of part pins bits).number ≡ 0
    → make_call part pins bits b ≡ record { number = 0; state = image_of (make_of part pins bits).model }
unfolding make_call
make_into_lem part pins bits b h k = rw (eq-eqb (length b) 32 h, eq-eqb (make_of part pins bits).number 0 k)

-- by whether it has the number 0 and the buffer 32 bytes
abbrev judged : List ℕ → Made → Bool → Bool → MakeCall
judged b made y z =
    cond y (cond z (record { number = 0; state = image_of made.model }) (record { number = state_number; state = b }))
    (record { number = made.number; state = b })

-- a refused making leaves the buffer
pub make_refused : (part pins bits : ℕ) (b : List ℕ) → ((make_call part pins bits b).number ≡ 0 → ⊥) → (make_call part pins bits b).state ≡ b
unfolding make_call
make_refused part pins bits b = by (make_of part pins bits) (eqb (make_of part pins bits).number 0) (eqb (length b) 32)
  where
    by : (made : Made) (y z : Bool) → ((judged b made y z).number ≡ 0 → ⊥) → (judged b made y z).state ≡ b
    by made true true k = absurd (k refl)
    by made true false k = refl
    by made false z k = refl

-- an accepted one wrote into 32 bytes
pub make_accepted : (part pins bits : ℕ) (b : List ℕ) → (make_call part pins bits b).number ≡ 0
    → ((make_call part pins bits b).state ≡ image_of (make_of part pins bits).model) × (length b ≡ 32)
unfolding make_call
make_accepted part pins bits b = by (make_of part pins bits) (eqb (make_of part pins bits).number 0) (eqb (length b) 32) refl refl
  where
    by : (made : Made) (y z : Bool) → eqb made.number 0 ≡ y → eqb (length b) 32 ≡ z → (judged b made y z).number ≡ 0
        → ((judged b made y z).state ≡ image_of made.model) × (length b ≡ 32)
    by made true true e k h = (refl, eqb-true (length b) 32 k)
    by made true false e k h = absurd (omega arith)
    by made false z e k h = absurd (eqb-false made.number 0 e h)

-- ---- what is left is an image again

module _ (b result : List ℕ) (h : opens b result ≡ true) where
  passes : in_range (state_of b) ≡ true
  passes = opened_passes b result h

  pub event_leaves_image : (t m : List ℕ) → taken (event_call b t m result).state ≡ true
  unfolding event_call
  event_leaves_image t m = rw h (image_taken (event_of (state_of b) m t).result.model (event_range (state_of b) m t passes))

  pub run_leaves_image : (t : List ℕ) (quota : ℕ) (m answers : List ℕ) → taken (run_call b t quota m answers result).state ≡ true
  unfolding run_call
  run_leaves_image t quota m answers = rw h (image_taken (run_of quota t (state_of b) m).model (run_range quota t (state_of b) m passes))

  pub select_leaves_image : (wp : Bool) (input output m : List ℕ) → taken (select_call b wp input output m result).state ≡ true
  unfolding select_call
  select_leaves_image wp input output m =
      rw h (image_taken (select_of wp (state_of b) input output m).model (select_range wp (state_of b) input output m passes))
