-- What an event leaves as it is: part and pins always, state and memory if it is refused, which sets no flag either. From what one event does. Assumes nothing.
use Prim.Native.Nat.{ℕ}
use mathlib.Core.Path.{refl}
use mathlib.Core.Bool.{false}
use mathlib.Core.List.{List}
use Rattle.trace.specs.declared.event.Event.{Event}
use Rattle.chip.specs.declared.model.Model.{Model}
use Rattle.events.specs.Event.{Outcome, keeping, advance_of}
use Rattle.events.specs.Stays.{Stays}
use Rattle.events.proofs.Done.{Done, refused_with_lem, accepted_as, done}

module _ (s : Model) (m : List ℕ) where
  -- refused, with the state as given
  pub unchanged : (n : ℕ) → Stays s m (keeping m (record { number = n; answer = 2; flag = false; model = s }))
  unchanged n = record { part_stays = refl; pins_stay = refl; refused_answer = λ _. refl; refused_flag = λ _. refl; refused_model = λ _. refl; refused_memory = λ _. refl }

  done_stays : {o : Outcome} → Done s m o → Stays s m o
  done_stays (refused_with_lem n l h) = unchanged n
  done_stays (accepted_as a f after left q r) =
      record { part_stays = q; pins_stay = r; refused_answer = λ n. absurd (n refl); refused_flag = λ n. absurd (n refl); refused_model = λ n. absurd (n refl); refused_memory = λ n. absurd (n refl) }

  pub stays : (e : Event) → Stays s m (advance_of s m e)
  stays e = done_stays (done s m e)
