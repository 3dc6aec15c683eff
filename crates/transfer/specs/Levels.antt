-- The levels in an I2C sample, from its lowest bit up: SCL, SDA without the part's own pull, WP. A 1 is high.
use Rattle.std.specs.Prelude.{ℕ, ◌+◌, ◌*◌, ◌/◌, ◌%◌, eqb}
use Rattle.parts.specs.Status.{bit}
use Rattle.transfer.specs.declared.levels.Levels.{Levels}

abbrev pub levels_of : ℕ → Levels
levels_of x = record { scl = eqb (x % 2) 1; sda = eqb (x / 2 % 2) 1; wp = eqb (x / 4 % 2) 1 }

-- the sample that has these levels
abbrev pub sample_of : Levels → ℕ
sample_of l = bit l.scl + 2 * bit l.sda + 4 * bit l.wp
