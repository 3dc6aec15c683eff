-- What happens between two samples (document 01, I2C rules). While SCL stays high, a fall of the line is a START and a rise of it a
-- STOP. Where SCL changes there is a clock edge and neither of the two; a rise has the line's level in its own sample as its bit.
use Rattle.std.specs.Prelude.{Bool, true, false}
use Rattle.transfer.specs.declared.levels.Levels.{Levels}
use Rattle.transfer.specs.declared.edge.Edge.{Edge}
use Rattle.transfer.specs.declared.edge.Edge.TheVariants.{Start, Stop, Rise, Fall, Quiet}

-- SDA without the part's pull, and whether it pulls: the line is high only if nobody holds it low
abbrev pub line_of : Bool → Bool → Bool
line_of sda true = false
line_of sda false = sda

-- SCL before and now, the line before and now
abbrev pub edge_on : Bool → Bool → Bool → Bool → Edge
edge_on true true true true = Quiet
edge_on true true true false = Start
edge_on true true false true = Stop
edge_on true true false false = Quiet
edge_on true false a b = Fall
edge_on false true a b = Rise b
edge_on false false a b = Quiet

-- with the pull from before in both samples: it changes only at a fall of SCL, where the line does not matter
abbrev pub edge_of : Bool → Levels → Levels → Edge
edge_of pulling a b = edge_on a.scl b.scl (line_of a.sda pulling) (line_of b.sda pulling)
