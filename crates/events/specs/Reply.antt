-- What one event gives, as numbers: 0 or the number of its refusal, its answer (2 for none), its warning flag and the next state (document
-- 01, Numbers given back). What the code returns amounts to such a record.
use Rattle.std.specs.Prelude.{ℕ, Bool, false, Result, Ok, Err}
use Rattle.parts.specs.declared.refusal.Refusal.{Refusal}
use Rattle.parts.specs.Numbers.{answer_number, refusal_number}
use Rattle.chip.specs.declared.model.Model.{Model}
use Rattle.events.specs.declared.event.Answered.{Answered}

pub record Reply : Type 0 where
  pub number : ℕ
  pub answer : ℕ
  pub flag : Bool
  pub model : Model

-- an accepted event has number 0; a refused one has its number, drives nothing, sets no flag and leaves the given state
abbrev pub reply_of : Model → Result Answered Refusal → Reply
reply_of s (Ok a) = record { number = 0; answer = answer_number a.answer; flag = a.flag; model = a.model }
reply_of s (Err r) = record { number = refusal_number r; answer = 2; flag = false; model = s }
