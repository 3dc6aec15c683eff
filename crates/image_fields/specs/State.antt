-- A state as fields, and back.
use Rattle.std.specs.Prelude.{ℕ, ◌≡◌, cond, eqb}
use Rattle.parts.specs.Numbers.{answer_number}
pub use Rattle.parts.specs.Numbers.{answer_in}
use Rattle.parts.specs.Status.{bit, status_byte}
pub use Rattle.parts.specs.Status.{status_in}
use Rattle.selection.specs.Levels as SpiLevels
use Rattle.transfer.specs.Levels as I2cLevels
use Rattle.spi.specs.declared.sample.Spi.{Spi}
use Rattle.i2c.specs.declared.sample.I2c.{I2c}
use Rattle.i2c.specs.Sample.{answer_of}
use Rattle.chip.specs.declared.model.BusState.{BusState}
use Rattle.chip.specs.declared.model.BusState.TheVariants.{Unpowered, SpiOn, I2cOn}
use Rattle.chip.specs.declared.model.Model.{Model}
use Rattle.image_fields.specs.declared.fields.Fields.{Fields}
use Rattle.image_fields.specs.Fields.{only_tag}
use Rattle.image_fields.specs.SpiPhase as SpiPhase
use Rattle.image_fields.specs.I2cPhase as I2cPhase

-- ---- from a state: power is the kind of the power on, and 0 without it

module _ (part pins status : ℕ) where
  abbrev pub bus_fields : BusState → Fields
  bus_fields Unpowered =
      record {
        part = part;
        pins = pins;
        status = status;
        power = 0;
        last = 0;
        driven = 0;
        asleep = 0;
        phase = only_tag 0;
        buffer = 0;
        used = 0;
      }
  bus_fields (SpiOn x) =
      record {
        part = part;
        pins = pins;
        status = status;
        power = 1;
        last = SpiLevels.sample_of x.last;
        driven = answer_number x.shown;
        asleep = bit x.asleep;
        phase = SpiPhase.fields_of x.phase;
        buffer = 0;
        used = 0;
      }
  bus_fields (I2cOn x) =
      record {
        part = part;
        pins = pins;
        status = status;
        power = 2;
        last = I2cLevels.sample_of x.last;
        driven = answer_number (answer_of x.pulling);
        asleep = 0;
        phase = I2cPhase.fields_of x.phase;
        buffer = x.buffer.address;
        used = bit x.buffer.used;
      }

abbrev pub fields_of : Model → Fields
fields_of s = bus_fields s.part s.pins (status_byte s.status) s.bus

-- ---- and back

abbrev pub spi_in : Fields → Spi
spi_in f =
    record {
      last = SpiLevels.levels_of f.last;
      asleep = eqb f.asleep 1;
      shown = answer_in f.driven;
      phase = SpiPhase.phase_in f.phase;
    }

abbrev pub i2c_in : Fields → I2c
i2c_in f =
    record {
      last = I2cLevels.levels_of f.last;
      pulling = eqb f.driven 0;
      buffer = record { address = f.buffer; used = eqb f.used 1 };
      phase = I2cPhase.phase_in f.phase;
    }

abbrev pub bus_from : Fields → BusState
bus_from f = cond (eqb f.power 1) (SpiOn (spi_in f)) (cond (eqb f.power 2) (I2cOn (i2c_in f)) Unpowered)

abbrev pub state_in : Fields → Model
state_in f = record { part = f.part; pins = f.pins; status = status_in f.status; bus = bus_from f }

-- the fields are those of the state that they read as
abbrev pub ReadBack : Fields → Type 0
ReadBack f = fields_of (state_in f) ≡ f
