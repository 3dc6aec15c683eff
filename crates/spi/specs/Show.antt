-- What SO shows. A counted fall shows the bit that the rises since the command's last input bit have come to, from bit 7 of the first
-- byte down and on through the bytes after it: a phase that shows a source has counted them (document 01, SPI rules).
use Rattle.std.specs.Prelude.{ℕ, cond, List, ltb, get_or}
use Rattle.parts.specs.declared.answer.Answer.{Answer}
use Rattle.parts.specs.declared.answer.Answer.TheVariants.{HighZ}
use Rattle.parts.specs.declared.part.Part.{Part}
use Rattle.parts.specs.declared.status.Status.{Status}
use Rattle.parts.specs.Numbers.{level_of}
use Rattle.parts.specs.Status.{status_byte}
use Rattle.serial.specs.Bits.{bit_at}
use Rattle.selection.specs.declared.levels.Levels.{Levels}
use Rattle.selection.specs.declared.phase.Source.{Source}
use Rattle.selection.specs.declared.phase.Source.TheVariants.{Memory, Register, Identity}
use Rattle.selection.specs.declared.phase.Phase.{Phase}
use Rattle.selection.specs.declared.phase.Phase.TheVariants.{Rest, Ignoring, Taking, Showing, Waiting, Pending}

-- bit 7 - k of what a source shows; after the third identity byte nothing is driven (own choice)
abbrev pub shown_bit : Part → Status → List ℕ → Source → ℕ → Answer
shown_bit p st m (Memory a) k = level_of (bit_at (get_or m a 0) k)
shown_bit p st m Register k = level_of (bit_at (status_byte st) k)
shown_bit p st m (Identity i) k = cond (ltb i 3) (level_of (bit_at (get_or p.identity i 0) k)) HighZ

-- what is shown after a counted fall, where old was before
abbrev pub after_fall : Part → Status → List ℕ → Phase → Answer → Answer
after_fall p st m Rest old = old
after_fall p st m Ignoring old = old
after_fall p st m (Taking f n v) old = old
after_fall p st m (Showing s k) old = shown_bit p st m s k
after_fall p st m (Waiting a) old = old
after_fall p st m (Pending v a) old = old

-- an unselected or held part drives nothing; a hold leaves what is shown, so that the same bit is back after it
abbrev pub answer_at : Levels → Answer → Answer
answer_at l shown = cond l.cs HighZ (cond l.hold shown HighZ)
