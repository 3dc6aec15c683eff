-- What a making gives: number or 0, and a model all the same if it is refused, part 0 without power, pins and bits 0. What the code returns
-- amounts to such a record.
use Rattle.std.specs.Prelude.{ℕ}
use Rattle.parts.specs.Numbers.{number_of}
use Rattle.chip.specs.declared.model.Model.{Model}
use Rattle.model.specs.declared.make.Making.{Making}

pub record Made : Type 0 where
  pub number : ℕ
  pub model : Model

-- a making that is not refused has number 0
abbrev pub made_of : Making → Made
made_of m = record { number = number_of m.refusal; model = m.model }
