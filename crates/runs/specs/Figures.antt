-- The figures that a run gives back: number or 0, state, how many events are accepted, and two offsets. What the code returns amounts to such
-- a record.
use Rattle.std.specs.Prelude.{ℕ}
use Rattle.parts.specs.Numbers.{number_of}
use Rattle.chip.specs.declared.model.Model.{Model}
use Rattle.runs.specs.declared.run.Ran.{Ran}

pub record Figures : Type 0 where
  pub number : ℕ
  pub model : Model
  pub count : ℕ
  pub offset : ℕ
  pub flag : ℕ

-- a run that is not refused has number 0
abbrev pub figures_of : Ran → Figures
figures_of r = record { number = number_of r.refusal; model = r.model; count = r.count; offset = r.offset; flag = r.flag }
