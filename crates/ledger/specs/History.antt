-- What the ledger is made from: each accepted event beside its answer.
use Rattle.std.specs.Prelude.{ℕ}
use Rattle.trace.specs.declared.event.Event.{Event}

-- an accepted event and its answer
pub record Entry : Type 0 where
  pub event : Event
  pub answer : ℕ
