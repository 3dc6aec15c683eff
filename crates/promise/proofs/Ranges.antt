-- Part, pins, saved bits and bus of a model just made are in range, and stay so over every event, whatever bytes and memory are
-- given: from the tests at making and from what a whole event has. Assumes nothing.
use Prim.Native.Nat.{ℕ}
use mathlib.Core.Path.{◌≡◌, refl}
use mathlib.Core.Bool.{Bool, true, false, cond}
use mathlib.Core.List.{List, [], ◌∷◌}
use native.Mathlib.Omega.{arith}
use Rattle.parts.specs.Status.{cleared}
use Rattle.parts.specs.Table.{part_of}
use Rattle.parts.proofs.Rows.{and_both, pins_fit}
use Rattle.chip.specs.declared.model.BusState.TheVariants.{Unpowered}
use Rattle.chip.specs.declared.model.Model.{Model}
use Rattle.chip.specs.Check.{model_in, bus_in}
use Rattle.chip.specs.Model.{unpowered}
use Rattle.chip.proofs.CheckLaws.{model_in_lem}
use Rattle.model.specs.Made.{Made}
use Rattle.byte_path.specs.Select.{select_of}
use Rattle.runs.specs.Event.{event_of}
use Rattle.runs.specs.Run.{run_of}
use Rattle.model.specs.Make.{status_of, make_in, make_of}
use Rattle.image.specs.Taken.{in_range}
use Rattle.calls.proofs.InRange.{make_range, event_range, run_range, select_range}
use Rattle.ledger.specs.Word.{Wired}
use Rattle.promise.specs.Lists.{model_after}

-- neither number 1 nor number 2 is given
abbrev pub InRange : Model → Type 0
InRange s = (model_in s ≡ true) × (bus_in (part_of s.part) s.status s.bus ≡ true)

-- as the two tests at once
pub both : (s : Model) → InRange s → in_range s ≡ true
both s h = rw (h.0, h.1)

each : (s : Model) → in_range s ≡ true → InRange s
each s h = and_both (model_in s) _ h

-- pins in range are such that the device address word can draw them
pub range_wired : (s : Model) → InRange s → Wired (part_of s.part) s.pins
range_wired s h = let r = model_in_lem s h.0 in omega (arith, r.wired, pins_fit s.part r.known)

-- ---- making

pub made_in : (part pins bits : ℕ) → InRange (make_of part pins bits).model
made_in part pins bits = each (make_of part pins bits).model (make_range part pins bits)

-- a model is made, unpowered
pub made_off : (part pins bits : ℕ) → (make_of part pins bits).model.bus ≡ Unpowered
unfolding make_of
made_off part pins bits = by (make_in part pins bits)
  where
    by : (y : Bool)
        → (cond {A = Made} y (record { number = 0; model = unpowered part pins (status_of bits) }) (record { number = 1; model = unpowered 0 0 cleared })).model.bus ≡ Unpowered
    by true = refl
    by false = refl

-- ---- an event, a run, a selection as bytes, and a list of events

pub event_in : (s : Model) (m t : List ℕ) → InRange s → InRange (event_of s m t).result.model
event_in s m t h = each (event_of s m t).result.model (event_range s m t (both s h))

pub run_in : (quota : ℕ) (t : List ℕ) (s : Model) (m : List ℕ) → InRange s → InRange (run_of quota t s m).model
run_in quota t s m h = each (run_of quota t s m).model (run_range quota t s m (both s h))

pub select_in : (wp : Bool) (s : Model) (input output m : List ℕ) → InRange s → InRange (select_of wp s input output m).model
select_in wp s input output m h = each (select_of wp s input output m).model (select_range wp s input output m (both s h))

pub list_in : (es : List (List ℕ)) (s : Model) (m : List ℕ) → InRange s → InRange (model_after s m es)
list_in [] s m h = h
list_in (t ∷ es) s m h = list_in es (event_of s m t).result.model (event_of s m t).memory (event_in s m t h)
