-- The pins in an SPI sample, from its lowest bit up: CS#, SCK, SI, WP#, HOLD#. A 1 is high.
use Rattle.std.specs.Prelude.{ℕ, ◌+◌, ◌*◌, ◌/◌, ◌%◌, eqb}
use Rattle.parts.specs.Status.{bit}
use Rattle.selection.specs.declared.levels.Levels.{Levels}

abbrev pub levels_of : ℕ → Levels
levels_of x =
    record {
      cs = eqb (x % 2) 1;
      sck = eqb (x / 2 % 2) 1;
      si = eqb (x / 4 % 2) 1;
      wp = eqb (x / 8 % 2) 1;
      hold = eqb (x / 16 % 2) 1;
    }

-- the sample that has these levels
abbrev pub sample_of : Levels → ℕ
sample_of l = bit l.cs + 2 * bit l.sck + 4 * bit l.si + 8 * bit l.wp + 16 * bit l.hold
