-- A span in a history, by SCL, SDA and the answers: what the sentences on START, STOP and the bits at rises of SCL say of any samples.
-- Histories and lists of steps have the latest first.
use Rattle.std.specs.Prelude.{ℕ, ◌+◌, ◌*◌, ◌≡◌, true, false, cond, not, ◌&&◌, List, [], ◌∷◌, ◌++◌}
use Rattle.parts.specs.Status.{bit}
use Rattle.transfer.specs.declared.levels.Levels.{Levels}
use Rattle.ledger.specs.Steps.{Step, sample, expected, last_seen}
use Rattle.ledger.specs.I2cLedger.{Clock, Wires, wires_at}
use Rattle.ledger.specs.I2cAnswers.{LastFall, no_fall, after_rises}

-- the byte of a sample: SCL is its lowest bit, then come SDA without the part's own pull, and WP
abbrev pub sample_byte : Levels → ℕ
sample_byte l = bit l.scl + 2 * bit l.sda + 4 * bit l.wp

-- SCL and the line at the last sample, or those before, w
abbrev pub wires_seen : Wires → List (Step Levels) → Wires
wires_seen w ss = last_seen wires_at w ss

-- SCL is 1 in two samples, and the line goes from 1 to 0, or from 0 to 1
pub record Start (a b : Wires) : Type 0 where
  pub scl_before : a.scl ≡ true
  pub scl_now : b.scl ≡ true
  pub line_before : a.line ≡ true
  pub line_now : b.line ≡ false

pub record Stop (a b : Wires) : Type 0 where
  pub scl_before : a.scl ≡ true
  pub scl_now : b.scl ≡ true
  pub line_before : a.line ≡ false
  pub line_now : b.line ≡ true

-- neither: where SCL is 1 in both the line stays
abbrev pub Neither : Wires → Wires → Type 0
Neither a b = a.scl ≡ true → b.scl ≡ true → b.line ≡ a.line

-- no START and no STOP among the steps, w being SCL and the line before
abbrev pub AllNeither : Wires → List (Step Levels) → Type 0
AllNeither w [] = Unit {0}
AllNeither w (sample l answer ∷ ss) = Neither (wires_seen w ss) (wires_at l answer) × AllNeither w ss
AllNeither w (expected value answer ∷ ss) = AllNeither w ss

-- the rises of SCL, the first first: the line and WP at the sample in which SCL is 1
abbrev pub clocks_after : Wires → List (Step Levels) → List Clock
clocks_after w [] = []
clocks_after w (sample l answer ∷ ss) =
    clocks_after w ss ++ cond (not (wires_seen w ss).scl && l.scl) (record { line = (wires_at l answer).line; wp = l.wp } ∷ []) []
clocks_after w (expected value answer ∷ ss) = clocks_after w ss

-- the last fall of SCL, with the rises before it
abbrev pub last_fall_after : Wires → List (Step Levels) → LastFall
last_fall_after w [] = no_fall
last_fall_after w (sample l answer ∷ ss) = cond ((wires_seen w ss).scl && not l.scl) (after_rises (clocks_after w ss)) (last_fall_after w ss)
last_fall_after w (expected value answer ∷ ss) = last_fall_after w ss
