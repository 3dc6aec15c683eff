-- What an event gives besides state and memory, as numbers. What the code returns amounts to such a record.
use Rattle.std.specs.Prelude.{ℕ, Bool, false, Result, Ok, Err}
use Rattle.parts.specs.declared.refusal.Refusal.{Refusal}
use Rattle.parts.specs.Numbers.{answer_number, refusal_number}
use Rattle.events.specs.Event.{Outcome}
use Rattle.image_run.specs.declared.event.Told.{Told}

-- number or 0, answer (2 for none), warning flag
pub record EventTold : Type 0 where
  pub number : ℕ
  pub answer : ℕ
  pub flag : Bool

abbrev pub told_by : Outcome → EventTold
told_by o = record { number = o.result.number; answer = o.result.answer; flag = o.result.flag }

-- a refused event drives nothing and sets no flag
abbrev pub told_of : Result Told Refusal → EventTold
told_of (Ok t) = record { number = 0; answer = answer_number t.answer; flag = t.flag }
told_of (Err r) = record { number = refusal_number r; answer = 2; flag = false }
