-- What every event keeps.
use Rattle.std.specs.Prelude.{ℕ, ◌≡◌, false, List}
use Rattle.chip.specs.declared.model.Model.{Model}
use Rattle.events.specs.Event.{Outcome}

-- part and pins stay, and a refused event drives nothing, sets no flag and changes neither state nor memory
pub record Stays (s : Model) (m : List ℕ) (o : Outcome) : Type 0 where
  pub part_stays : o.result.model.part ≡ s.part
  pub pins_stay : o.result.model.pins ≡ s.pins
  pub refused_answer : (o.result.number ≡ 0 → ⊥) → o.result.answer ≡ 2
  pub refused_flag : (o.result.number ≡ 0 → ⊥) → o.result.flag ≡ false
  pub refused_model : (o.result.number ≡ 0 → ⊥) → o.result.model ≡ s
  pub refused_memory : (o.result.number ≡ 0 → ⊥) → o.memory ≡ m
