-- What a selection as bytes gives back beside memory and buffer.
use Rattle.std.specs.Prelude.{ℕ, Bool, List, Result, Ok, Err}
use Rattle.parts.specs.declared.refusal.Refusal.{Refusal}
use Rattle.parts.specs.Numbers.{refusal_number}
use Rattle.chip.specs.declared.model.Model.{Model}
use Rattle.spi.specs.declared.sample.Spi.{Spi}
use Rattle.byte_path.specs.PinPath.{selection_of}
use Rattle.byte_path.specs.Select.{Select, refused_select, taken_select}
use Rattle.selects.specs.declared.taken.Selected.{Selected}

-- number or 0, state, the index of the first driven byte and how many are driven
pub record SelectTold : Type 0 where
  pub number : ℕ
  pub model : Model
  pub first : ℕ
  pub count : ℕ

abbrev pub selected_of : Select → SelectTold
selected_of r = record { number = r.number; model = r.model; first = r.first; count = r.count }

-- refused: both figures are 0
abbrev pub refused_with : ℕ → Model → SelectTold
refused_with n s = record { number = n; model = s; first = 0; count = 0 }

-- what the code's result tells, on this state: a refusal leaves it
abbrev pub told_of : Model → Result Selected Refusal → SelectTold
told_of s (Ok t) = record { number = 0; model = t.model; first = t.first; count = t.count }
told_of s (Err r) = refused_with (refusal_number r) s

-- all that a selection gives, by the bus that takes it or by why none does
abbrev pub select_by : Bool → Model → List ℕ → List ℕ → List ℕ → Result Spi Refusal → Select
select_by wp s input output m (Ok x) = taken_select wp s input output m (selection_of wp s m input)
select_by wp s input output m (Err r) = refused_select wp s input output m r
