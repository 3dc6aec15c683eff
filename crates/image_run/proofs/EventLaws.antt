-- One event on an image that is taken: by its fields, without bytes, or on the state that it reads as. Assumes nothing.
use Prim.Native.Nat.{ℕ, ◌<◌}
use mathlib.Core.Path.{◌≡◌, refl, sym, ap, ◌∙◌}
use mathlib.Core.Bool.{true, false}
use mathlib.Core.List.{List}
use Rattle.std.specs.Prelude.{Option, Some}
use lib.ListN.{length}
use Rattle.parts.specs.declared.answer.Answer.{Answer}
use Rattle.parts.specs.Numbers.{answer_number, answer_in}
use Rattle.parts.proofs.NumberLaws.{answer_numbered}
use Rattle.chip.specs.declared.model.Model.{Model}
use Rattle.chip.specs.Check.{Sound}
use Rattle.events.specs.Reply.{Reply}
use Rattle.events.specs.Event.{Outcome}
use Rattle.runs.specs.Event.{checked_event, event_of}
use Rattle.runs.proofs.OneLaws.{answer_below, nothing_read}
use Rattle.image.specs.Layout.{spelled}
use Rattle.image.specs.Taken.{image_of, state_of, in_range, taken, Bytes}
use Rattle.image.proofs.TakenLaws.{encode_decode, taken_passes}
use Rattle.calls.proofs.InRange.{event_range}
use Rattle.image_sample.specs.declared.stepped.Stepped.{Stepped}
use Rattle.image_sample.specs.Stepped.{stepped_by}
use Rattle.image_run.specs.Sampled.{ImageGives}
use Rattle.image_run.specs.Told.{EventTold, told_by}

-- what an event gives and leaves: what is told, the image, the memory
abbrev pub Gave : List ℕ → List ℕ → List ℕ → EventTold → List ℕ → List ℕ → Type 0
Gave b t m told image memory =
    (told ≡ told_by (event_of (state_of b) m t)) × (image ≡ image_of (event_of (state_of b) m t).result.model) × (memory ≡ (event_of (state_of b) m t).memory)

-- what a reply tells
abbrev pub told_in : Reply → EventTold
told_in x = record { number = x.number; answer = x.answer; flag = x.flag }

module _ (b t m : List ℕ) (h : taken b ≡ true) (sound : Sound (state_of b) m) where
  passed : event_of (state_of b) m t ≡ checked_event (state_of b) m t
  unfolding event_of
  passed = rw sound

  -- ---- on its fields, which tell one of the three answers

  pub step_gave : (r : Stepped) (o : Option Stepped) → ImageGives b t m o → o ≡ Some r → (a : Answer) → a ≡ answer_in r.answer
      → Gave b t m (record { number = 0; answer = answer_number a; flag = r.flag }) (spelled r.fields) m
  step_gave r o g d a ea =
      let k : (r ≡ stepped_by (event_of (state_of b) m t)) × ((event_of (state_of b) m t).memory ≡ m) × ((event_of (state_of b) m t).result.number ≡ 0) = rw d at g in
      let small : (event_of (state_of b) m t).result.answer < 3 = rw passed (answer_below (state_of b) m t sound) in
      by (event_of (state_of b) m t) k.0 k.1 k.2 (answer_numbered _ small)
    where
      by : (o : Outcome) → r ≡ stepped_by o → o.memory ≡ m → o.result.number ≡ 0 → answer_number (answer_in o.result.answer) ≡ o.result.answer
          → (◌≡◌ {A = EventTold} (record { number = 0; answer = answer_number a; flag = r.flag }) (told_by o)) × (spelled r.fields ≡ image_of o.result.model) × (m ≡ o.memory)
      by o e k n named = (rw (n, ea, e, named), rw e, sym k)

  -- ---- without bytes

  pub empty_gave : Bytes b → length t ≡ 0 → Gave b t m (record { number = 5; answer = 2; flag = false }) b m
  empty_gave bytes e = rw (passed, nothing_read (state_of b) m t sound e) (refl, sym (encode_decode b bytes h), refl)

  -- ---- on the state that it reads as

  module _ (s : Model) (es : s ≡ state_of b) (x : Reply) (w : List ℕ) (ex : x ≡ (checked_event s m t).result) (ew : w ≡ (checked_event s m t).memory) where
    result : x ≡ (event_of (state_of b) m t).result
    result = rw (es, ← passed) at ex

    pub reply_range : in_range x.model ≡ true
    reply_range = rw (ap (λ (y : Reply). y.model) result) (event_range (state_of b) m t (taken_passes b h))

    pub reply_gave : (image : List ℕ) → image ≡ image_of x.model → Gave b t m (told_in x) image w
    reply_gave image ei = (ap told_in result, ei ∙ ap (λ (y : Reply). image_of y.model) result, ew ∙ rw (es, passed) refl)

    -- a refused event leaves the state, and so the image
    pub refused_gave : Bytes b → x.model ≡ s → Gave b t m (told_in x) b w
    refused_gave bytes ek = reply_gave b (sym (encode_decode b bytes h) ∙ ap image_of (sym (ek ∙ es)))
