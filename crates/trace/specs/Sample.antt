-- Whether the next event is a sample in range, or an expected answer that holds; what it is; and an event that is no sample.
use Rattle.std.specs.Prelude.{ℕ, Bool, true, false, cond, List, eqb, ltb, length, get_or}
use Rattle.trace.specs.declared.event.Event.{Event}
use Rattle.trace.specs.declared.event.Event.TheVariants.{SpiPowerOn, I2cPowerOn, PowerOff, Sample, Expected}

-- kind 04 and a sample below the limit of the bus
abbrev pub sample_first : ℕ → List ℕ → Bool
sample_first limit t = cond (ltb (length t) 2) false (cond (eqb (get_or t 0 0) 4) (ltb (get_or t 1 0) limit) false)

-- kind 05 and this answer
abbrev pub expected_first : ℕ → List ℕ → Bool
expected_first answer t = cond (ltb (length t) 2) false (cond (eqb (get_or t 0 0) 5) (eqb (get_or t 1 0) answer) false)

-- either, where the part's present answer is this one: under power such an event is accepted and leaves power on
abbrev pub stays_first : ℕ → ℕ → List ℕ → Bool
stays_first limit answer t = cond (sample_first limit t) true (expected_first answer t)

-- that event
abbrev pub first_event : List ℕ → Event
first_event t = cond (eqb (get_or t 0 0) 4) (Sample (get_or t 1 0)) (Expected (get_or t 1 0))

-- an event that is no sample
abbrev pub NoSample : Event → Type 0
NoSample (SpiPowerOn x) = Unit {0}
NoSample (I2cPowerOn x a) = Unit {0}
NoSample PowerOff = Unit {0}
NoSample (Sample x) = ⊥
NoSample (Expected v) = Unit {0}
