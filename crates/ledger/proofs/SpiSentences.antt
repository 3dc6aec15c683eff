-- The sentences on answers, one by one, of the answer that a history gives: nothing is driven at power events nor by a part that is
-- held or unselected, an expected answer changes nothing, and what was shown before a hold is shown after it. Assumes nothing.
use Prim.Native.Nat.{ℕ}
use mathlib.Core.Path.{◌≡◌, refl}
use mathlib.Core.Bool.{true, false}
use mathlib.Core.List.{List, ◌∷◌}
use Rattle.parts.specs.declared.part.Part.{Part}
use Rattle.trace.specs.declared.event.Event.TheVariants.{SpiPowerOn, PowerOff, Sample, Expected}
use Rattle.selection.specs.declared.edge.Edge.TheVariants.{Quiet}
use Rattle.selection.specs.declared.levels.Levels.{Levels}
use Rattle.selection.specs.Edge.{edge_of}
use Rattle.selection.specs.Levels.{levels_of}
use Rattle.ledger.specs.History.{Entry}
use Rattle.ledger.specs.SpiLedger.{SavedBits, last_sample}
use Rattle.ledger.specs.SpiAnswers.{spi_answer}
use Rattle.ledger.proofs.SpiAnswers.{held_two}

module _ (p : Part) (made : SavedBits) (first : List ℕ) (h : List Entry) (a : ℕ) where
  abbrev answer : List Entry → ℕ
  answer = spi_answer p made first

  pub on_answers : (x : ℕ) → answer (record { event = SpiPowerOn x; answer = a } ∷ h) ≡ 2
  on_answers x = held_two (levels_of x)

  pub off_answers : answer (record { event = PowerOff; answer = a } ∷ h) ≡ 2
  off_answers = refl

  -- an expected answer is answered as the event before it was
  pub expected_answers : (v : ℕ) → answer (record { event = Expected v; answer = a } ∷ h) ≡ answer h
  expected_answers v = refl

  -- at a sample with CS# 1, and at one with HOLD# 0
  pub unselected_answers : (x : ℕ) → (levels_of x).cs ≡ true → answer (record { event = Sample x; answer = a } ∷ h) ≡ 2
  unselected_answers x up = rw up

  pub held_answers : (x : ℕ) → (levels_of x).cs ≡ false → (levels_of x).hold ≡ false → answer (record { event = Sample x; answer = a } ∷ h) ≡ 2
  held_answers x low held = rw (low, held)

  -- no edge counts at the beginning or the end of a hold
  hold_quiet : (k l : Levels) → k.cs ≡ false → l.cs ≡ false → k.hold ≡ true → l.hold ≡ false → edge_of k l ≡ Quiet
  hold_quiet k l low low' up held = rw (low, low', up, held)

  release_quiet : (k l : Levels) → k.cs ≡ false → l.cs ≡ false → k.hold ≡ false → edge_of k l ≡ Quiet
  release_quiet k l low low' held = rw (low, low', held)

  -- a sample x in a hold and a sample y after it, whatever SCK does
  pub hold_again : (x y : ℕ) → (last_sample h).cs ≡ false → (last_sample h).hold ≡ true → (levels_of x).cs ≡ false → (levels_of x).hold ≡ false
      → (levels_of y).cs ≡ false → (levels_of y).hold ≡ true
      → answer (record { event = Sample y; answer = a } ∷ record { event = Sample x; answer = 2 } ∷ h) ≡ answer h
  hold_again x y low up lowˣ heldˣ lowʸ upʸ =
      rw (release_quiet (levels_of x) (levels_of y) lowˣ lowʸ heldˣ, hold_quiet (last_sample h) (levels_of x) low lowˣ up heldˣ, lowʸ, upʸ, low, up)
