-- Levels of a pin in two samples.
use Rattle.std.specs.Prelude.{Bool, true, false, not}

-- whether one is high and the other low
abbrev pub differ : Bool → Bool → Bool
differ true b = not b
differ false b = b
