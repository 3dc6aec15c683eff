-- Accepted samples by their levels, and accepted expected answers among them, as entries of a history. The latest comes first.
use Rattle.std.specs.Prelude.{ℕ, List, [], ◌∷◌, ◌++◌, map}
use Rattle.trace.specs.declared.event.Event.TheVariants.{Sample, Expected}
use Rattle.ledger.specs.History.{Entry}

-- a sample with these levels, or an expected answer; and what was answered
pub data Step (Levels : Type 0) : Type 0 where
  sample : Levels → ℕ → Step Levels
  expected : ℕ → ℕ → Step Levels

module _ {Levels : Type 0} where
  -- by the byte that a sample with these levels is
  abbrev pub entry_of : (Levels → ℕ) → Step Levels → Entry
  entry_of byte (sample l answer) = record { event = Sample (byte l); answer = answer }
  entry_of byte (expected value answer) = record { event = Expected value; answer = answer }

  -- a history with these steps more
  abbrev pub entered : (Levels → ℕ) → List (Step Levels) → List Entry → List Entry
  entered byte ss h = map (entry_of byte) ss ++ h

  -- a history in which a sample with the levels l is followed by these steps
  abbrev pub followed : (Levels → ℕ) → List Entry → Levels → ℕ → List (Step Levels) → List Entry
  followed byte h l answer ss = entered byte ss (entry_of byte (sample l answer) ∷ h)

  -- what is seen at the last sample, or what was seen before
  abbrev pub last_seen : {A : Type 0} → (Levels → ℕ → A) → A → List (Step Levels) → A
  last_seen see before [] = before
  last_seen see before (sample l answer ∷ ss) = see l answer
  last_seen see before (expected value answer ∷ ss) = last_seen see before ss
