-- What is left to test of an image's fields, once its part, its address pins and the byte of its status register are known to fit.
use Rattle.std.specs.Prelude.{Bool, true, cond, ◌&&◌}
use Rattle.parts.specs.declared.part.Part.{Part}
use Rattle.chip.specs.declared.model.BusState.{BusState}
use Rattle.chip.specs.Check.{bits_clear, holds_bits, bus_in}
use Rattle.image_fields.specs.declared.fields.Fields.{Fields}
use Rattle.image_fields.specs.Fields.{same_fields}
use Rattle.image_fields.specs.State.{bus_fields, status_in}

-- the fields are those of the bus state that they read as, which passes on that part
abbrev pub takes_bus : Part → Fields → BusState → Bool
takes_bus p f b =
    same_fields (bus_fields f.part f.pins f.status b) f
    && (cond (holds_bits p b) true (bits_clear (status_in f.status)) && bus_in p (status_in f.status) b)
