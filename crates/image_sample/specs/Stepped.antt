-- A sample of a part under power, taken on the fields of its image: either it is not done, or it gives what the event gives, and leaves
-- the memory as it is.
use Rattle.std.specs.Prelude.{ℕ, ◌≡◌, List, Option, IfSome}
use Rattle.trace.specs.declared.event.Event.TheVariants.{Sample}
use Rattle.events.specs.Event.{Outcome, advance_of}
use Rattle.image_fields.specs.declared.fields.Fields.{Fields}
use Rattle.image_fields.specs.State.{fields_of, state_in}
use Rattle.image_sample.specs.declared.stepped.Stepped.{Stepped}

-- what an event gave, as fields
abbrev pub stepped_by : Outcome → Stepped
stepped_by o = record { fields = fields_of o.result.model; answer = o.result.answer; flag = o.result.flag }

-- of the sample x on the state of the fields f, with the memory m: if it is done, it is accepted
abbrev pub Gives : Fields → List ℕ → ℕ → Option Stepped → Type 0
Gives f m x r =
    IfSome r
    (λ s. (s ≡ stepped_by (advance_of (state_in f) m (Sample x))) × ((advance_of (state_in f) m (Sample x)).memory ≡ m) × ((advance_of (state_in f) m (Sample x)).result.number ≡ 0))
