-- What the fields of an event may be.
use Rattle.std.specs.Prelude.{ℕ, Bool, true, ltb}
use Rattle.parts.specs.declared.part.Bus.{Bus}
use Rattle.parts.specs.declared.part.Bus.TheVariants.{Spi, I2c}
use Rattle.parts.specs.declared.part.Part.{Part}
use Rattle.trace.specs.declared.event.Kind.{Kind}
use Rattle.trace.specs.declared.event.Event.{Event}
use Rattle.trace.specs.declared.event.Event.TheVariants.{SpiPowerOn, I2cPowerOn, PowerOff, Sample, Expected}

-- the kind byte of each event
abbrev pub kind_number : Kind → ℕ
kind_number Kind.SpiPowerOn = 1
kind_number Kind.I2cPowerOn = 2
kind_number Kind.PowerOff = 3
kind_number Kind.Sample = 4
kind_number Kind.Expected = 5

-- a sample lies below this: it has five pins on SPI and three levels on I2C
abbrev pub sample_limit : Bus → ℕ
sample_limit Spi = 32
sample_limit I2c = 8

-- the tests of the fields, each passed by an event that has no such field. Number 6: the sample lies below its limit
abbrev pub sample_in : Part → Event → Bool
sample_in p (SpiPowerOn x) = ltb x (sample_limit p.bus)
sample_in p (I2cPowerOn x a) = ltb x (sample_limit p.bus)
sample_in p PowerOff = true
sample_in p (Sample x) = ltb x (sample_limit p.bus)
sample_in p (Expected v) = true

-- number 10: the start address lies below the size
abbrev pub start_in : Part → Event → Bool
start_in p (SpiPowerOn x) = true
start_in p (I2cPowerOn x a) = ltb a p.size
start_in p PowerOff = true
start_in p (Sample x) = true
start_in p (Expected v) = true

-- number 11: the expected answer is at most 2
abbrev pub expected_in : Event → Bool
expected_in (SpiPowerOn x) = true
expected_in (I2cPowerOn x a) = true
expected_in PowerOff = true
expected_in (Sample x) = true
expected_in (Expected v) = ltb v 3
