-- What happens between two samples (document 01, SPI rules). Falling CS# begins a selection and rising CS# ends it, held or not. An
-- edge of SCK counts if both samples have the part selected and not held, so never where CS# or HOLD# changes too (own choice).
use Rattle.std.specs.Prelude.{Bool, true, false}
use Rattle.selection.specs.declared.levels.Levels.{Levels}
use Rattle.selection.specs.declared.edge.Edge.{Edge}
use Rattle.selection.specs.declared.edge.Edge.TheVariants.{Select, Deselect, Rise, Fall, Quiet}

-- of a part selected in both samples: HOLD# before and now, SCK before and now, SI now
abbrev pub clock_edge : Bool → Bool → Bool → Bool → Bool → Edge
clock_edge false h k k' b = Quiet
clock_edge true false k k' b = Quiet
clock_edge true true false false b = Quiet
clock_edge true true false true b = Rise b
clock_edge true true true false b = Fall
clock_edge true true true true b = Quiet

-- CS# before and now, and what the clock does if the part stays selected
abbrev pub select_edge : Bool → Bool → Edge → Edge
select_edge true true e = Quiet
select_edge true false e = Select
select_edge false true e = Deselect
select_edge false false e = e

abbrev pub edge_of : Levels → Levels → Edge
edge_of a b = select_edge a.cs b.cs (clock_edge a.hold b.hold a.sck b.sck b.si)
