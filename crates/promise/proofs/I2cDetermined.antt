-- What a history says of its answers leaves no choice: two histories with the same events, each answered so, are the same. From the
-- definition, which does not look at an event's own answer. Assumes nothing.
use Prim.Native.Nat.{ℕ}
use mathlib.Core.Path.{◌≡◌, refl, sym, ap₂, ◌∙◌}
use mathlib.Core.List.{List, [], ◌∷◌}
use native.Mathlib.Omega.{arith}
use Rattle.parts.specs.declared.part.Part.{Part}
use Rattle.trace.specs.declared.event.Event.{Event}
use Rattle.ledger.specs.History.{Entry}
use Rattle.ledger.specs.I2cAnswers.{pulls, pull_answer, present_answer}
use Rattle.promise.specs.I2cAnswers.{events_of, Determined}

module _ (p : Part) (pins : ℕ) (first : List ℕ) where
  -- what an event answers after a history
  abbrev answer_to : Event → List Entry → ℕ
  answer_to x h = pull_answer (pulls p pins first (record { event = x; answer = present_answer h } ∷ h))

  same_entry : (e d : Entry) → e.event ≡ d.event → e.answer ≡ d.answer → e ≡ d
  same_entry e d q r = ap₂ (λ (x : Event) (a : ℕ). record { event = x; answer = a }) q r

  pub answers_determined : Determined p pins first
  answers_determined [] [] a b q = refl
  answers_determined [] (d ∷ k) a b q = let y : ◌≡◌ {A = ℕ} 0 1 = cc in absurd (omega arith)
  answers_determined (e ∷ h) [] a b q = let y : ◌≡◌ {A = ℕ} 0 1 = cc in absurd (omega arith)
  answers_determined (e ∷ h) (d ∷ k) (a, aᵗ) (b, bᵗ) q =
      let x : e.event ≡ d.event = cc in
      let t : events_of h ≡ events_of k = cc in
      let r : h ≡ k = answers_determined h k aᵗ bᵗ t in
      ap₂ (λ (y : Entry) (l : List Entry). y ∷ l) (same_entry e d x (a ∙ ap₂ answer_to x r ∙ sym b)) r
