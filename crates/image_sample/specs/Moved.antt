-- The fields that a sample may change, beside those that it keeps. These definitions only say how the code puts them together.
use Rattle.std.specs.Prelude.{ℕ, Bool}
use Rattle.parts.specs.Numbers.{answer_number}
use Rattle.selection.specs.declared.levels.Levels.{Levels}
use Rattle.spi.specs.Show.{answer_at}
use Rattle.image_fields.specs.declared.fields.PhaseFields.{PhaseFields}
use Rattle.image_fields.specs.declared.fields.Fields.{Fields}
use Rattle.image_fields.specs.State.{answer_in}
use Rattle.image_sample.specs.declared.stepped.Stepped.{Stepped}

-- of an SPI part, after the sample x
abbrev pub spi_moved : Fields → ℕ → ℕ → ℕ → ℕ → PhaseFields → Fields
spi_moved f x status driven asleep phase = record f { status = status; last = x; driven = driven; asleep = asleep; phase = phase }

-- its answer is at the levels now
abbrev pub spi_done : Fields → Levels → Bool → Stepped
spi_done f l flag = record { fields = f; answer = answer_number (answer_at l (answer_in f.driven)); flag = flag }

-- of an I2C part: register and address buffer stay
abbrev pub i2c_moved : Fields → ℕ → ℕ → PhaseFields → Fields
i2c_moved f x driven phase = record f { last = x; driven = driven; phase = phase }

-- its answer is what it drives
abbrev pub i2c_done : Fields → Bool → Stepped
i2c_done f flag = record { fields = f; answer = f.driven; flag = flag }
