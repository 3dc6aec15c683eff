-- For every reached state no event, no run and no selection as bytes gives number 1 or 2, and with a memory of the wrong length every
-- event gives 3 and changes nothing. From the ranges of such states. Assumes nothing.
use Prim.Native.Nat.{ℕ}
use mathlib.Core.Path.{◌≡◌}
use mathlib.Core.Bool.{Bool, false}
use mathlib.Core.List.{List}
use lib.ListN.{length}
use borrow.Author.Tests.{eqb-false, ne_eqb}
use Rattle.parts.specs.Table.{part_of}
use Rattle.chip.specs.declared.model.Model.{Model}
use Rattle.events.specs.Event.{keeping}
use Rattle.byte_path.specs.Select.{select_of}
use Rattle.runs.specs.Event.{event_of}
use Rattle.runs.specs.Run.{run_of}
use Rattle.calls.proofs.Numbers.{Late, event_late, run_late, select_late}
use Rattle.promise.specs.Reached.{Reached}
use Rattle.promise.proofs.Reached.{reached_range, reached_check}

neither : (n : ℕ) → Late n → (n ≡ 1 → ⊥) × (n ≡ 2 → ⊥)
neither n h = (eqb-false n 1 h.0, eqb-false n 2 h.1)

pub event_never_one_or_two : {s : Model} → Reached s → (m t : List ℕ)
    → ((event_of s m t).result.number ≡ 1 → ⊥) × ((event_of s m t).result.number ≡ 2 → ⊥)
event_never_one_or_two {s} r m t = neither _ (event_late s (reached_range r) m t)

pub run_never_one_or_two : {s : Model} → Reached s → (quota : ℕ) (t m : List ℕ)
    → ((run_of quota t s m).number ≡ 1 → ⊥) × ((run_of quota t s m).number ≡ 2 → ⊥)
run_never_one_or_two {s} r quota t m = neither _ (run_late s (reached_range r) quota t m)

pub select_never_one_or_two : {s : Model} → Reached s → (wp : Bool) (input output m : List ℕ)
    → ((select_of wp s input output m).number ≡ 1 → ⊥) × ((select_of wp s input output m).number ≡ 2 → ⊥)
select_never_one_or_two {s} r wp input output m = neither _ (select_late s (reached_range r) wp input output m)

-- number 3, answer 2, the given state and memory
pub wrong_length : {s : Model} → Reached s → (m t : List ℕ) → (length m ≡ (part_of s.part).size → ⊥)
    → event_of s m t ≡ keeping m (record { number = 3; answer = 2; flag = false; model = s })
unfolding event_of
wrong_length r m t n = rw (reached_check r (length m), ne_eqb (length m) _ n)
