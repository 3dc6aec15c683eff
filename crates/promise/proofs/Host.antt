-- Calls on images from a making are the events that they count as, so demand 3 holds of them in the host's words. From calls on images
-- being calls on states, and runs and selections being events; by induction on the calls. Assumes nothing.
use Prim.Native.Nat.{ℕ}
use mathlib.Core.Path.{◌≡◌, refl, sym, ap, ap₂, ◌∙◌}
use mathlib.Core.Bool.{Bool, true, false, cond}
use mathlib.Core.List.{List, [], ◌∷◌}
use native.Mathlib.Nat.{add-zero}
use native.Mathlib.Omega.{arith}
use lib.Dec.{eqb}
use lib.ListN.{length, take, get_or}
use borrow.Author.Tests.{eqb-true}
use Rattle.parts.specs.declared.status.Status.{Status}
use Rattle.parts.specs.Status.{cleared, status_byte}
use Rattle.chip.specs.declared.model.BusState.{BusState}
use Rattle.chip.specs.declared.model.BusState.TheVariants.{Unpowered, SpiOn, I2cOn}
use Rattle.chip.specs.declared.model.Model.{Model}
use Rattle.chip.specs.Model.{unpowered}
use Rattle.model.specs.Made.{Made}
use Rattle.model.specs.Make.{status_of, make_in, make_of}
use Rattle.runs.specs.Event.{event_of}
use Rattle.runs.specs.Run.{run_of}
use Rattle.image_fields.specs.State.{bus_fields}
use Rattle.image.specs.Layout.{spelled}
use Rattle.image.specs.Taken.{image_of, in_range}
use Rattle.calls.specs.Calls.{MakeCall, make_call, EventCall, event_left, event_call, RunCall, SelectCall}
use Rattle.calls.proofs.CallLaws.{event_on_image, run_on_image, select_on_image, make_into_lem, make_refused, make_accepted}
use Rattle.calls.proofs.Opening.{short_closed, event_two, run_two, select_two}
use Rattle.calls.proofs.InRange.{make_range, event_range}
use Rattle.promise.specs.Lists.{model_after, memory_after}
use Rattle.promise.specs.Promise.{made_by, cut, cut_model, cut_memory, cut_bits, fresh_made, Promise}
use Rattle.promise.specs.Ledger.{saved_in, bits_number}
use Rattle.promise.specs.RunEvents.{split}
use Rattle.promise.specs.SelectSteps.{select, step_events}
use Rattle.promise.specs.Host.{HostCall, refused_making, event, run, selection, Held, called, held_after, call_events, events_called, es, held, saved_byte, cut_call, HostHolds}
use Rattle.promise.proofs.Demand3.{demand3}
use Rattle.promise.proofs.Joins.{model_join, memory_join}
use Rattle.promise.proofs.RunEvents.{run_events}
use Rattle.promise.proofs.SelectSteps.{step_leaves}

-- what a host holds: the image of a state, and a memory
abbrev holding : Model → List ℕ → Held
holding s m = record { state = image_of s; memory = m }

-- ---- ranges over lists

list_range : (es : List (List ℕ)) (s : Model) (m : List ℕ) → in_range s ≡ true → in_range (model_after s m es) ≡ true
list_range [] s m h = h
list_range (t ∷ es) s m h = list_range es (event_of s m t).result.model (event_of s m t).memory (event_range s m t h)

-- ---- one call

-- a making with numbers out of range is refused
making_refused : (part pins bits : ℕ) (b : List ℕ) → make_in part pins bits ≡ false → (make_call part pins bits b).number ≡ 0 → ⊥
unfolding make_call make_of
making_refused part pins bits b e = rw e (λ z. omega arith)

-- state and memory after the events that it counts as
abbrev Leaves : Model → List ℕ → HostCall → Type 0
Leaves s m c = called (holding s m) c ≡ holding (model_after s m (call_events s m c)) (memory_after s m (call_events s m c))

-- what each call leaves of its record
abbrev by_event : EventCall → Held
by_event x = record { state = x.state; memory = x.memory }

abbrev by_run : RunCall → Held
by_run x = record { state = x.state; memory = x.memory }

abbrev by_select : SelectCall → Held
by_select x = record { state = x.state; memory = x.memory }

module _ (s : Model) (h : in_range s ≡ true) (m : List ℕ) where
  -- the state and memory after some events, if the result has 32 bytes
  abbrev by_length : List (List ℕ) → Bool → Held
  by_length es y = holding (model_after s m (cond y es [])) (memory_after s m (cond y es []))

  event_leaves : (t r : List ℕ) (y : Bool) → eqb (length r) 32 ≡ y → Leaves s m (event t r)
  event_leaves t r true e = ap by_event (event_on_image s h r (eqb-true _ _ e) t m) ∙ ap (by_length (t ∷ [])) (sym e)
  event_leaves t r false e = ap by_event (event_two (image_of s) r m (short_closed (image_of s) r e) t) ∙ ap (by_length (t ∷ [])) (sym e)

  run_leaves : (t : List ℕ) (q : ℕ) (a r : List ℕ) (y : Bool) → eqb (length r) 32 ≡ y → Leaves s m (run t q a r)
  run_leaves t q a r true e =
      let n = run_events q t s m in
      ap by_run (run_on_image s h r (eqb-true _ _ e) t q m a)
      ∙ ap₂ holding (sym n.model) (sym n.memory)
      ∙ ap (by_length (take (run_of q t s m).count (split q t))) (sym e)
  run_leaves t q a r false e = ap by_run (run_two (image_of s) r m (short_closed (image_of s) r e) t q a) ∙ ap (by_length (take (run_of q t s m).count (split q t))) (sym e)

  select_leaves : (wp : Bool) (i o r : List ℕ) (y : Bool) → eqb (length r) 32 ≡ y → Leaves s m (selection wp i o r)
  select_leaves wp i o r true e =
      let n = step_leaves (select wp i o) s m in
      ap by_select (select_on_image s h r (eqb-true _ _ e) wp i o m)
      ∙ ap₂ holding (sym n.0) (sym n.1)
      ∙ ap (by_length (step_events s m (select wp i o))) (sym e)
  select_leaves wp i o r false e = ap by_select (select_two (image_of s) r m (short_closed (image_of s) r e) wp i o) ∙ ap (by_length (step_events s m (select wp i o))) (sym e)

  making_leaves : (part pins bits : ℕ) (e : make_in part pins bits ≡ false) → Leaves s m (refused_making part pins bits e)
  making_leaves part pins bits e = ap (λ (b : List ℕ). record { state = b; memory = m }) (make_refused part pins bits (image_of s) (making_refused part pins bits (image_of s) e))

  call_leaves : (c : HostCall) → Leaves s m c
  call_leaves (refused_making part pins bits e) = making_leaves part pins bits e
  call_leaves (event t r) = event_leaves t r (eqb (length r) 32) refl
  call_leaves (run t q a r) = run_leaves t q a r (eqb (length r) 32) refl
  call_leaves (selection wp i o r) = select_leaves wp i o r (eqb (length r) 32) refl

-- ---- all of them

calls_leave : (cs : List HostCall) (s : Model) (m : List ℕ) → in_range s ≡ true
    → held_after (holding s m) cs ≡ holding (model_after s m (events_called s m cs)) (memory_after s m (events_called s m cs))
calls_leave [] s m h = refl
calls_leave (c ∷ cs) s m h =
    let k = call_leaves s h m c in
    let n = calls_leave cs (model_after s m (call_events s m c)) (memory_after s m (call_events s m c)) (list_range (call_events s m c) s m h) in
    rw (k, model_join, memory_join) n

-- ---- from a making

made_clear : (part pins bits : ℕ) → (make_of part pins bits).model.status.wel ≡ false
unfolding make_of
made_clear part pins bits = by (make_in part pins bits)
  where
    by : (y : Bool)
        → (cond {A = Made} y (record { number = 0; model = unpowered part pins (status_of bits) }) (record { number = 1; model = unpowered 0 0 cleared })).model.status.wel ≡ false
    by true = refl
    by false = refl

-- byte 2 of an image is the status register
image_status : (part pins status : ℕ) (b : BusState) → get_or (spelled (bus_fields part pins status b)) 2 0 ≡ status
image_status part pins status Unpowered = refl
image_status part pins status (SpiOn x) = refl
image_status part pins status (I2cOn x) = refl

-- a register without WEL is its saved bits
saved_byte_lem : (st : Status) → st.wel ≡ false → status_byte st ≡ saved_byte (saved_in st)
saved_byte_lem st h = rw h (add-zero _)

module _ (part pins bits : ℕ) (buffer first : List ℕ) (cs : List HostCall) (accepted : (make_call part pins bits buffer).number ≡ 0) where
  abbrev start : Model
  start = made_by part pins bits

  abbrev events : List (List ℕ)
  events = es part pins bits buffer first cs

  -- state and memory after the events
  abbrev state : Model
  state = model_after start first events

  abbrev memory : List ℕ
  memory = memory_after start first events

  kept : held part pins bits buffer first cs ≡ holding state memory
  kept =
      ap (λ (b : List ℕ). held_after (record { state = b; memory = first }) cs) (make_accepted part pins bits buffer accepted).0
      ∙ calls_leave cs start first (make_range part pins bits)

  state_range : in_range state ≡ true
  state_range = list_range events start first (make_range part pins bits)

  claim : Promise part pins bits first events
  claim = demand3 part pins bits first events

  -- a making with the ledger's bits, into the same buffer
  made_again : make_call start.part start.pins (bits_number (cut_bits part pins bits first events)) buffer
      ≡ record { number = 0; state = image_of (fresh_made part pins bits first events).model }
  made_again = make_into_lem _ _ _ buffer (make_accepted part pins bits buffer accepted).1 claim.makes

  -- the cut, on what the calls left
  module _ (result : List ℕ) (long : length result ≡ 32) where
    cut_is : cut_call part pins bits buffer first cs result ≡ event_left (event_of state memory cut) result
    cut_is = ap (λ (x : Held). event_call x.state cut x.memory result) kept ∙ event_on_image state state_range result long cut memory

    cut_memory_lem : (cut_call part pins bits buffer first cs result).memory ≡ cut_memory part pins bits first events
    cut_memory_lem = ap (λ (x : EventCall). x.memory) cut_is ∙ sym (memory_join events (cut ∷ []) start first)

    cut_state : (cut_call part pins bits buffer first cs result).state ≡ image_of (cut_model part pins bits first events)
    cut_state = ap (λ (x : EventCall). x.state) cut_is ∙ ap image_of (sym (model_join events (cut ∷ []) start first))

    cut_fresh : (cut_call part pins bits buffer first cs result).state
        ≡ (make_call start.part start.pins (bits_number (cut_bits part pins bits first events)) buffer).state
    cut_fresh =
        cut_state
        ∙ ap image_of claim.fresh
        ∙ sym (ap (λ (x : MakeCall). x.state) made_again)

    -- nothing is left of WEL
    cut_clear : (cut_model part pins bits first events).status.wel ≡ false
    cut_clear = ap (λ (x : Model). x.status.wel) claim.fresh ∙ made_clear _ _ _

    cut_saved : get_or (cut_call part pins bits buffer first cs result).state 2 0 ≡ saved_byte (cut_bits part pins bits first events)
    cut_saved =
        ap (λ (l : List ℕ). get_or l 2 0) cut_state
        ∙ image_status _ _ _ (cut_model part pins bits first events).bus
        ∙ saved_byte_lem (cut_model part pins bits first events).status cut_clear
        ∙ ap saved_byte claim.saved

pub host_promise : HostHolds
host_promise part pins bits buffer first cs accepted =
    record {
      image = ap (λ (x : Held). x.state) (kept part pins bits buffer first cs accepted);
      memory = ap (λ (x : Held). x.memory) (kept part pins bits buffer first cs accepted);
      promise = claim part pins bits buffer first cs accepted;
      holds = λ result long a h.
          ap (λ (l : List ℕ). get_or l a 0) (cut_memory_lem part pins bits buffer first cs accepted result long)
          ∙ (claim part pins bits buffer first cs accepted).holds a h;
      saved = λ result long. cut_saved part pins bits buffer first cs accepted result long;
      accepted = ap (λ (x : MakeCall). x.number) (made_again part pins bits buffer first cs accepted);
      fresh = λ result long. cut_fresh part pins bits buffer first cs accepted result long;
    }
