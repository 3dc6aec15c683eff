-- Demand 3 in the words of a host that holds its model: a making into a buffer, then any calls, each on the buffer and the memory that the
-- one before it left, and nobody else writing either; then a cut, which is a call too.
use Rattle.std.specs.Prelude.{ℕ, ◌+◌, ◌*◌, ◌<◌, ◌≡◌, Bool, false, cond, List, [], ◌∷◌, ◌++◌, eqb, length, take, get_or}
use Rattle.parts.specs.Status.{bit}
use Rattle.chip.specs.declared.model.Model.{Model}
use Rattle.runs.specs.Run.{run_of}
use Rattle.model.specs.Make.{make_in}
use Rattle.image.specs.Taken.{image_of}
use Rattle.calls.specs.Calls.{MakeCall, make_call, EventCall, event_call, run_call, select_call}
use Rattle.ledger.specs.Stores.{last_at}
use Rattle.ledger.specs.SpiLedger.{SavedBits}
use Rattle.promise.specs.Lists.{model_after, memory_after}
use Rattle.promise.specs.Ledger.{bits_number, ledger_stores}
use Rattle.promise.specs.Promise.{made_by, cut, cut_history, cut_bits, Promise}
use Rattle.promise.specs.RunEvents.{split}
use Rattle.promise.specs.SelectSteps.{select, step_events}

-- a call, with all that it is lent besides the state and the memory; a run gives back its answers or not. A making among them is one that
-- is refused: an accepted one begins another list, with the memory as it is then
pub data HostCall : Type 0 where
  refused_making : (part pins bits : ℕ) → make_in part pins bits ≡ false → HostCall
  event : (bytes result : List ℕ) → HostCall
  run : (trace : List ℕ) (quota : ℕ) (answers result : List ℕ) → HostCall
  selection : (wp : Bool) (input output result : List ℕ) → HostCall

-- what the host holds
pub record Held : Type 0 where
  pub state : List ℕ
  pub memory : List ℕ

abbrev pub called : Held → HostCall → Held
called h (refused_making part pins bits e) = record { state = (make_call part pins bits h.state).state; memory = h.memory }
called h (event t r) = record { state = (event_call h.state t h.memory r).state; memory = (event_call h.state t h.memory r).memory }
called h (run t q a r) = record { state = (run_call h.state t q h.memory a r).state; memory = (run_call h.state t q h.memory a r).memory }
called h (selection wp i o r) =
    record { state = (select_call h.state wp i o h.memory r).state; memory = (select_call h.state wp i o h.memory r).memory }

-- one call after the other
abbrev pub held_after : Held → List HostCall → Held
held_after h [] = h
held_after h (c ∷ cs) = held_after (called h c) cs

-- the events that a call counts as: with a result of 32 bytes an event as itself, a run as those that it accepted, a selection that is
-- accepted as its samples; a call without such a result as none. How many a run accepted, and whether a selection was, is what the host was
-- given; all else is read off the bytes that it sent
abbrev pub call_events : Model → List ℕ → HostCall → List (List ℕ)
call_events s m (refused_making part pins bits e) = []
call_events s m (event t r) = cond (eqb (length r) 32) (t ∷ []) []
call_events s m (run t q a r) = cond (eqb (length r) 32) (take (run_of q t s m).count (split q t)) []
call_events s m (selection wp i o r) = cond (eqb (length r) 32) (step_events s m (select wp i o)) []

abbrev pub events_called : Model → List ℕ → List HostCall → List (List ℕ)
events_called s m [] = []
events_called s m (c ∷ cs) = call_events s m c ++ events_called (model_after s m (call_events s m c)) (memory_after s m (call_events s m c)) cs

-- saved bits in the places of the status register: 7, 3 and 2
abbrev pub saved_byte : SavedBits → ℕ
saved_byte b = 128 * bit b.srwd + 8 * bit b.bp1 + 4 * bit b.bp0

-- any numbers of a making, any buffer, any first memory, any calls
module _ (part pins bits : ℕ) (buffer first : List ℕ) (cs : List HostCall) where
  abbrev made : Model
  made = made_by part pins bits

  -- the events of the calls
  abbrev pub es : List (List ℕ)
  es = events_called made first cs

  abbrev making : MakeCall
  making = make_call part pins bits buffer

  abbrev pub held : Held
  held = held_after (record { state = making.state; memory = first }) cs

  -- the cut, with any result of 32 bytes
  abbrev pub cut_call : List ℕ → EventCall
  cut_call result = event_call held.state cut held.memory result

  -- if the making was accepted
  pub record HostPromise : Type 0 where
    -- the buffer holds the image of the state after the events, and the memory is theirs
    pub image : held.state ≡ image_of (model_after made first es)
    pub memory : held.memory ≡ memory_after made first es
    -- demand 3 holds of these events
    pub promise : Promise part pins bits first es
    -- so after the cut each address holds the last byte that a permitted write put there, or else its byte before the first call
    pub holds : (result : List ℕ) → length result ≡ 32 → (a : ℕ) → a < length first
        → get_or (cut_call result).memory a 0 ≡ last_at a (get_or first a 0) (ledger_stores made (cut_history part pins bits first es))
    -- the status byte of the buffer has the ledger's bits, and WEL is 0
    pub saved : (result : List ℕ) → length result ≡ 32 → get_or (cut_call result).state 2 0 ≡ saved_byte (cut_bits part pins bits first es)
    -- a making with the ledger's bits into the buffer is accepted, and the buffer is byte for byte what it writes
    pub accepted : (make_call made.part made.pins (bits_number (cut_bits part pins bits first es)) buffer).number ≡ 0
    pub fresh : (result : List ℕ) → length result ≡ 32
        → (cut_call result).state ≡ (make_call made.part made.pins (bits_number (cut_bits part pins bits first es)) buffer).state

-- for every making that is accepted
abbrev pub HostHolds : Type 0
HostHolds =
    (part pins bits : ℕ) (buffer first : List ℕ) (cs : List HostCall) → (make_call part pins bits buffer).number ≡ 0 → HostPromise part pins bits buffer first cs
