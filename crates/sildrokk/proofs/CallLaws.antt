-- A call that begins with 0 is the call on the image's state. Assumes nothing.
use Prim.Native.Nat.{ℕ}
use mathlib.Core.Path.{◌≡◌, refl, sym, ap, ◌∙◌}
use mathlib.Core.Bool.{Bool, true, false}
use mathlib.Core.List.{List}
use lib.ListN.{length}
use lib.Seq.{sets}
use Rattle.chip.specs.Check.{Sound}
use Rattle.chip.specs.declared.model.Model.{Model}
use Rattle.byte_path.specs.Select.{Select, part_select, select_of}
use Rattle.selects.specs.Selected.{SelectTold, selected_of}
use Rattle.runs.specs.Figures.{Figures}
use Rattle.runs.specs.Event.{event_of}
use Rattle.runs.specs.Run.{ran_of, loop_of, run_of}
use Rattle.image.specs.Taken.{image_of, state_of, in_range, taken, Bytes}
use Rattle.image.proofs.TakenLaws.{taken_passes}
use Rattle.calls.specs.Result.{event_result, run_result, select_result}
use Rattle.calls.specs.Calls.{opens, event_left, event_call, run_left, run_call, select_left, select_call, open_number}
use Rattle.calls.proofs.InRange.{select_range}
use Rattle.calls.proofs.Opening.{Opened, opened, opened_taken, opened_same, event_kept_lem, run_kept_lem, select_kept_lem}
use Rattle.image_run.specs.Told.{EventTold, told_by}

module _ (b m result : List ℕ) (h : opens b result ≡ true) where
  pub event_opened : (t : List ℕ) → event_call b t m result ≡ event_left (event_of (state_of b) m t) result
  unfolding event_call
  event_opened t = rw h

  module _ (sound : Sound (state_of b) m) where
    pub run_opened : (t : List ℕ) (quota : ℕ) (answers : List ℕ) → run_call b t quota m answers result ≡ run_left (loop_of quota t (state_of b) m) answers result
    unfolding run_call run_of
    run_opened t quota answers = rw (h, sound)

    pub select_opened : (wp : Bool) (input output : List ℕ)
        → select_call b wp input output m result ≡ select_left (part_select wp (state_of b) input output m) result
    unfolding select_call select_of
    select_opened wp input output = rw (h, sound)

-- ---- what a call that is refused at its beginning gives and leaves

module _ (b m result : List ℕ) (bytes : Bytes b) (n : ℕ) (e : n ≡ open_number b (length result) (length m)) (h : n ≡ 0 → ⊥) where
  not_zero : open_number b (length result) (length m) ≡ 0 → ⊥
  not_zero z = h (e ∙ z)

  pub event_refused : (t r : List ℕ) → r ≡ event_result 2 false result
      → (n ≡ (event_call b t m result).number) × (b ≡ (event_call b t m result).state) × (m ≡ (event_call b t m result).memory) × (r ≡ (event_call b t m result).result)
  event_refused t r q = rw (event_kept_lem b result m bytes not_zero t) (e, refl, refl, q)

  pub run_refused : (t : List ℕ) (quota : ℕ) (answers r : List ℕ) → r ≡ run_result 0 0 (length t) result
      → (n ≡ (run_call b t quota m answers result).number)
      × (b ≡ (run_call b t quota m answers result).state)
      × (m ≡ (run_call b t quota m answers result).memory)
      × (answers ≡ (run_call b t quota m answers result).answers)
      × (r ≡ (run_call b t quota m answers result).result)
  run_refused t quota answers r q = rw (run_kept_lem b result m bytes not_zero t quota answers) (e, refl, refl, refl, q)

  pub select_refused : (wp : Bool) (input output r : List ℕ) → r ≡ select_result 0 0 result
      → (n ≡ (select_call b wp input output m result).number)
      × (b ≡ (select_call b wp input output m result).state)
      × (output ≡ (select_call b wp input output m result).output)
      × (m ≡ (select_call b wp input output m result).memory)
      × (r ≡ (select_call b wp input output m result).result)
  select_refused wp input output r q = rw (select_kept_lem b result m bytes not_zero wp input output) (e, refl, refl, refl, q)

-- ---- and what one that goes on gives and leaves

module _ (b m result : List ℕ) (e : 0 ≡ open_number b (length result) (length m)) where
  pub begun : Opened b result m
  begun = opened b result m (sym e)

  pub begun_taken : taken b ≡ true
  begun_taken = opened_taken b result begun.takes

  -- the image of the state that it reads as is the buffer
  pub begun_same : Bytes b → b ≡ image_of (state_of b)
  begun_same bytes = sym (opened_same b result begun.takes bytes)

  pub event_done : (t : List ℕ) (told : EventTold) (image memory r : List ℕ) → told ≡ told_by (event_of (state_of b) m t) → image ≡ image_of (event_of (state_of b) m t).result.model
      → memory ≡ (event_of (state_of b) m t).memory → r ≡ event_result told.answer told.flag result
      → (told.number ≡ (event_call b t m result).number)
      × (image ≡ (event_call b t m result).state)
      × (memory ≡ (event_call b t m result).memory)
      × (r ≡ (event_call b t m result).result)
  event_done t told image memory r et ei em er =
      rw (event_opened b m result begun.takes t)
      (ap (λ (x : EventTold). x.number) et, ei, em, er ∙ ap (λ (x : EventTold). event_result x.answer x.flag result) et)

  pub run_done : (t : List ℕ) (quota : ℕ) (answers : List ℕ) (ran : Figures) (image memory a r : List ℕ) → ran ≡ ran_of (loop_of quota t (state_of b) m)
      → image ≡ image_of (loop_of quota t (state_of b) m).model → memory ≡ (loop_of quota t (state_of b) m).memory
      → a ≡ sets answers 0 (loop_of quota t (state_of b) m).answers → r ≡ run_result ran.count ran.offset ran.flag result
      → (ran.number ≡ (run_call b t quota m answers result).number)
      × (image ≡ (run_call b t quota m answers result).state)
      × (memory ≡ (run_call b t quota m answers result).memory)
      × (a ≡ (run_call b t quota m answers result).answers)
      × (r ≡ (run_call b t quota m answers result).result)
  run_done t quota answers ran image memory a r en ei em ea er =
      rw (run_opened b m result begun.takes begun.passes t quota answers)
      (ap (λ (x : Figures). x.number) en, ei, em, ea, er ∙ ap (λ (x : Figures). run_result x.count x.offset x.flag result) en)

  -- a selection on the state that the image reads as, which is what the code made of it
  module _ (wp : Bool) (input output : List ℕ) (s : Model) (k : s ≡ state_of b) where
    abbrev after : Select
    after = part_select wp s input output m

    abbrev taking : Select
    taking = part_select wp (state_of b) input output m

    same_state : after ≡ taking
    same_state = ap (λ (x : Model). part_select wp x input output m) k

    same_select : taking ≡ select_of wp (state_of b) input output m
    unfolding select_of
    same_select = rw begun.passes

    -- its state still passes
    pub after_passes : (selected : SelectTold) → selected ≡ selected_of after → in_range selected.model ≡ true
    after_passes selected es =
        ap (λ (x : SelectTold). in_range x.model) (es ∙ ap selected_of (same_state ∙ same_select))
        ∙ select_range wp (state_of b) input output m (taken_passes b begun_taken)

    pub select_done : (selected : SelectTold) (image memory o r : List ℕ) → selected ≡ selected_of after → image ≡ image_of selected.model → memory ≡ after.memory
        → o ≡ after.output → r ≡ select_result selected.first selected.count result
        → (selected.number ≡ (select_call b wp input output m result).number)
        × (image ≡ (select_call b wp input output m result).state)
        × (o ≡ (select_call b wp input output m result).output)
        × (memory ≡ (select_call b wp input output m result).memory)
        × (r ≡ (select_call b wp input output m result).result)
    select_done selected image memory o r es ei em eo er =
        let e : selected ≡ selected_of taking = es ∙ ap selected_of same_state in
        rw (select_opened b m result begun.takes begun.passes wp input output)
        (ap (λ (x : SelectTold). x.number) e, ei ∙ ap (λ (x : SelectTold). image_of x.model) e, eo ∙ ap (λ (x : Select). x.output) same_state, em ∙ ap (λ (x : Select). x.memory) same_state, er ∙ ap (λ (x : SelectTold). select_result x.first x.count result) e)
