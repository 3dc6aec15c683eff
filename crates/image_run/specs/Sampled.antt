-- One event on an image, taken on its fields: either it is not done, or it gives what the event gives and leaves the memory as it is. These
-- definitions only say how the code divides a call.
use Rattle.std.specs.Prelude.{ℕ, ◌<◌, ◌≡◌, List, Option, IfSome}
use Rattle.trace.specs.declared.event.Event.TheVariants.{Expected}
use Rattle.events.specs.Event.{advance_of}
use Rattle.runs.specs.Event.{event_of}
use Rattle.image_fields.specs.declared.fields.Fields.{Fields}
use Rattle.image_fields.specs.State.{state_in}
use Rattle.image.specs.Taken.{state_of}
use Rattle.image_sample.specs.declared.stepped.Stepped.{Stepped}
use Rattle.image_sample.specs.Stepped.{stepped_by}

abbrev pub ImageGives : List ℕ → List ℕ → List ℕ → Option Stepped → Type 0
ImageGives b t m r =
    IfSome r
    (λ s. (s ≡ stepped_by (event_of (state_of b) m t)) × ((event_of (state_of b) m t).memory ≡ m) × ((event_of (state_of b) m t).result.number ≡ 0))

-- the same of an expected answer on fields, which is then one of the three
abbrev pub ExpectedGives : Fields → List ℕ → ℕ → Option Stepped → Type 0
ExpectedGives f m v r =
    IfSome r
    (λ s. (v < 3)
    × (s ≡ stepped_by (advance_of (state_in f) m (Expected v)))
    × ((advance_of (state_in f) m (Expected v)).memory ≡ m)
    × ((advance_of (state_in f) m (Expected v)).result.number ≡ 0))
