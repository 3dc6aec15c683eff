-- The warning flag of a sample (document 02, ask 2): the sheets want WP held still from START to STOP.
use Rattle.std.specs.Prelude.{Bool, true, false, ◌&&◌}
use Rattle.serial.specs.Level.{differ}
use Rattle.transfer.specs.declared.levels.Levels.{Levels}
use Rattle.transfer.specs.declared.phase.Phase.{Phase}
use Rattle.transfer.specs.declared.phase.Phase.TheVariants.{Rest, Ignoring, Taking, Sending}

-- the part lies between START and STOP: also while it ignores the bus, after another word or where the master ended the transfer. After
-- STOP and from power on it rests
abbrev pub between : Phase → Bool
between Rest = false
between Ignoring = true
between (Taking f n v) = true
between (Sending a n) = true

-- WP has another level than in the sample before, and the part lay between START and STOP before this one. So a START out of rest may
-- move WP, and a STOP may not
abbrev pub flag_of : Phase → Levels → Levels → Bool
flag_of ph a b = differ a.wp b.wp && between ph
