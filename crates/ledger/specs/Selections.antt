-- A selection in a history, by the levels of the pins: what the sentences on selections, counted rises and counted falls say of any
-- samples. Histories and lists of steps have the latest first.
use Rattle.std.specs.Prelude.{ℕ, ◌+◌, ◌*◌, ◌≡◌, Bool, false, cond, not, ◌&&◌, List, [], ◌∷◌, ◌++◌}
use Rattle.parts.specs.Status.{bit}
use Rattle.selection.specs.declared.levels.Levels.{Levels}
use Rattle.ledger.specs.Steps.{Step, sample, expected, last_seen}
use Rattle.ledger.specs.SpiAnswers.{LastFall, no_fall, after_rises}

-- the byte of a sample: CS# is its lowest bit, then come SCK, SI, WP# and HOLD#
abbrev pub sample_byte : Levels → ℕ
sample_byte l = bit l.cs + 2 * bit l.sck + 4 * bit l.si + 8 * bit l.wp + 16 * bit l.hold

-- CS# is 0 at every sample
abbrev pub AllSelected : List (Step Levels) → Type 0
AllSelected [] = Unit {0}
AllSelected (sample l answer ∷ ss) = (l.cs ≡ false) × AllSelected ss
AllSelected (expected value answer ∷ ss) = AllSelected ss

-- the levels at the last sample, or those before, l
abbrev pub levels_seen : Levels → List (Step Levels) → Levels
levels_seen l ss = last_seen (λ k answer. k) l ss

-- between two samples with CS# 0: an edge of SCK counts if HOLD# is 1 in both
abbrev pub rises : Levels → Levels → Bool
rises a b = a.hold && (b.hold && (not a.sck && b.sck))

abbrev pub falls : Levels → Levels → Bool
falls a b = a.hold && (b.hold && (a.sck && not b.sck))

-- the bits of the counted rises after a sample with the levels l, the first first: SI at the sample in which SCK is 1
abbrev pub counted_bits : Levels → List (Step Levels) → List Bool
counted_bits l [] = []
counted_bits l (sample k answer ∷ ss) = counted_bits l ss ++ cond (rises (levels_seen l ss) k) (k.si ∷ []) []
counted_bits l (expected value answer ∷ ss) = counted_bits l ss

-- the last counted fall after it, with the bits of the rises before that fall
abbrev pub last_fall_after : Levels → List (Step Levels) → LastFall
last_fall_after l [] = no_fall
last_fall_after l (sample k answer ∷ ss) = cond (falls (levels_seen l ss) k) (after_rises (counted_bits l ss)) (last_fall_after l ss)
last_fall_after l (expected value answer ∷ ss) = last_fall_after l ss
