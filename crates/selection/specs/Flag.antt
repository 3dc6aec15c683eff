-- The warning flag of a sample (document 02, ask 2): the sheets want WP# held still through a write, and the flag warns in any selection.
use Rattle.std.specs.Prelude.{Bool, not, ◌&&◌}
use Rattle.serial.specs.Level.{differ}
use Rattle.selection.specs.declared.levels.Levels.{Levels}

-- WP# has another level than in the sample before, and CS# is 0 in both. Whether the part is held, asleep or ignores the selection does
-- not matter; where CS# falls or rises WP# may move
abbrev pub flag_of : Levels → Levels → Bool
flag_of a b = differ a.wp b.wp && (not a.cs && not b.cs)
