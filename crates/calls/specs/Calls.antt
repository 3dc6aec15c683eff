-- The calls on images: what each gives back and leaves in the buffers that it was lent. A state or result that is not 32 bytes long, or a
-- state that is no image, is 2; else the call is that on the state of the image, and the image of the next state is left.
use Rattle.std.specs.Prelude.{ℕ, ◌≡◌, Bool, false, cond, ◌&&◌, List, eqb, length}
use Rattle.std.proofs.lemmas.List.Edits.{sets}
use Rattle.parts.specs.declared.refusal.Refusal.TheVariants.{StateRange, MemoryLength}
use Rattle.parts.specs.Numbers.{refusal_number}
use Rattle.parts.specs.Table.{part_of}
use Rattle.events.specs.Event.{Outcome}
use Rattle.byte_path.specs.Select.{Select, select_of}
use Rattle.runs.specs.Event.{event_of}
use Rattle.runs.specs.Run.{Run, run_of}
use Rattle.model.specs.Made.{Made}
use Rattle.model.specs.Make.{make_of}
use Rattle.image.specs.Taken.{image_of, state_of, taken}
use Rattle.calls.specs.Result.{event_result, run_result, select_result}

-- the number of a call whose buffers are not right
abbrev pub state_number : ℕ
state_number = refusal_number StateRange

-- state and result are what a call takes
abbrev pub opens : List ℕ → List ℕ → Bool
opens b result = eqb (length result) 32 && taken b

-- of the number of a call on them: it is never 1, and 2 exactly if they are not
abbrev pub Numbered : List ℕ → List ℕ → ℕ → Type 0
Numbered b result n = (n ≡ 1 → ⊥) × (n ≡ 2 → opens b result ≡ false) × (opens b result ≡ false → n ≡ 2)

-- ---- making: 1 by its numbers, then 2 by the buffer's length

pub record MakeCall : Type 0 where
  pub number : ℕ
  pub state : List ℕ

abbrev pub make_into : Made → List ℕ → MakeCall
make_into made b =
    cond (eqb made.number 0)
    (cond (eqb (length b) 32) (record { number = 0; state = image_of made.model }) (record { number = state_number; state = b }))
    (record { number = made.number; state = b })

unfoldable pub make_call : ℕ → ℕ → ℕ → List ℕ → MakeCall
make_call part pins bits b = make_into (make_of part pins bits) b

-- ---- one event

pub record EventCall : Type 0 where
  pub number : ℕ
  pub state : List ℕ
  pub memory : List ℕ
  pub result : List ℕ

abbrev pub event_left : Outcome → List ℕ → EventCall
event_left o result =
    record {
      number = o.result.number;
      state = image_of o.result.model;
      memory = o.memory;
      result = event_result o.result.answer o.result.flag result;
    }

unfoldable pub event_call : List ℕ → List ℕ → List ℕ → List ℕ → EventCall
event_call b t m result =
    cond (opens b result) (event_left (event_of (state_of b) m t) result)
    (record { number = state_number; state = b; memory = m; result = event_result 2 false result })

-- ---- a run, which also gives back its answers

pub record RunCall : Type 0 where
  pub number : ℕ
  pub state : List ℕ
  pub memory : List ℕ
  pub answers : List ℕ
  pub result : List ℕ

abbrev pub run_left : Run → List ℕ → List ℕ → RunCall
run_left r answers result =
    record {
      number = r.number;
      state = image_of r.model;
      memory = r.memory;
      answers = sets answers 0 r.answers;
      result = run_result r.count r.offset r.flag result;
    }

unfoldable pub run_call : List ℕ → List ℕ → ℕ → List ℕ → List ℕ → List ℕ → RunCall
run_call b t quota m answers result =
    cond (opens b result) (run_left (run_of quota t (state_of b) m) answers result)
    (record { number = state_number; state = b; memory = m; answers = answers; result = run_result 0 0 (length t) result })

-- ---- one selection as bytes

pub record SelectCall : Type 0 where
  pub number : ℕ
  pub state : List ℕ
  pub memory : List ℕ
  pub output : List ℕ
  pub result : List ℕ

abbrev pub select_left : Select → List ℕ → SelectCall
select_left r result =
    record {
      number = r.number;
      state = image_of r.model;
      memory = r.memory;
      output = r.output;
      result = select_result r.first r.count result;
    }

unfoldable pub select_call : List ℕ → Bool → List ℕ → List ℕ → List ℕ → List ℕ → SelectCall
select_call b wp input output m result =
    cond (opens b result) (select_left (select_of wp (state_of b) input output m) result)
    (record { number = state_number; state = b; memory = m; output = output; result = select_result 0 0 result })

-- ---- how the code begins: 0 if a call on an image and a memory may go on, else 2 or 3, by the lengths of result and memory

unfoldable pub open_number : List ℕ → ℕ → ℕ → ℕ
open_number b result memory =
    cond (eqb result 32 && taken b) (cond (eqb memory (part_of (state_of b).part).size) 0 (refusal_number MemoryLength)) state_number

-- and what a call that does not go on gives and leaves
module _ (b m result : List ℕ) where
  abbrev pub event_kept : EventCall
  event_kept = record { number = open_number b (length result) (length m); state = b; memory = m; result = event_result 2 false result }

  abbrev pub run_kept : List ℕ → List ℕ → RunCall
  run_kept t answers =
      record { number = open_number b (length result) (length m); state = b; memory = m; answers = answers; result = run_result 0 0 (length t) result }

  abbrev pub select_kept : List ℕ → SelectCall
  select_kept output =
      record { number = open_number b (length result) (length m); state = b; memory = m; output = output; result = select_result 0 0 result }
