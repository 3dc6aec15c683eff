-- One event on a state and a memory that passed 1 to 3: what is read decides. Assumes nothing.
use Prim.Native.Nat.{ℕ, ◌≤◌}
use mathlib.Core.Path.{◌≡◌, refl}
use mathlib.Core.List.{List}
use lib.ListN.{length, get_or}
use Rattle.parts.specs.declared.refusal.Refusal.{Refusal}
use Rattle.parts.specs.Table.{part_of}
use Rattle.parts.proofs.NumberLaws.{number_positive}
use Rattle.trace.specs.declared.event.Event.{Event}
use Rattle.trace.specs.Read.{event_length, read_of, Read, Whole, Refused}
use Rattle.trace.proofs.ReadLaws.{passed, taken_within}
use Rattle.trace.proofs.SuitLaws.{suits}
use Rattle.chip.specs.declared.model.Model.{Model}
use Rattle.events.specs.Event.{keeping, refused, advance_of}
use Rattle.chip.specs.Check.{check_of, Sound, Verdict, Passed, Failed}
use Rattle.events.proofs.Keeps.{keeps}
use Rattle.events.specs.Stays.{Stays}
use Rattle.events.proofs.Stays.{unchanged, stays}
use Rattle.runs.specs.Event.{on_read, event_on_verdict, event_of}

module _ (s : Model) (m t : List ℕ) (sound : Sound s m) where
  -- a whole event is carried out
  pub event_whole : (e : Event) (n : ℕ) → read_of (part_of s.part) t ≡ Whole e n → event_of s m t ≡ advance_of s m e
  unfolding event_of
  event_whole e n h = rw (sound, h)

  -- anything else is refused by the reader
  pub event_refused : (r : Refusal) (place : ℕ) → read_of (part_of s.part) t ≡ Refused r place → event_of s m t ≡ keeping m (refused r s)
  unfolding event_of
  event_refused r place h = rw (sound, h)

  -- the bytes that it takes, and that state and memory still pass
  pub event_taken : (e : Event) (n : ℕ) → read_of (part_of s.part) t ≡ Whole e n → event_length (get_or t 0 0) ≡ n
  event_taken e n h = (passed (part_of s.part) t e n h).taken

  pub event_keeps : (e : Event) (n : ℕ) → read_of (part_of s.part) t ≡ Whole e n → Sound (advance_of s m e).result.model (advance_of s m e).memory
  event_keeps e n h = keeps s m e sound (suits (part_of s.part) t e n h)

-- whatever the bytes, state and memory pass after the event as they did before it
pub event_sound : (s : Model) (m t : List ℕ) → Sound s m → Sound (event_of s m t).result.model (event_of s m t).memory
event_sound s m t sound = by (read_of (part_of s.part) t) refl
  where
    by : (r : Read) → read_of (part_of s.part) t ≡ r → Sound (event_of s m t).result.model (event_of s m t).memory
    by (Whole e n) h = rw (event_whole s m t sound e n h) (event_keeps s m t sound e n h)
    by (Refused r place) h = rw (event_refused s m t sound r place h) sound

-- any bytes on any state: a refused event drives nothing, sets no flag and changes neither state nor memory
pub event_stays : (s : Model) (m t : List ℕ) → Stays s m (event_of s m t)
unfolding event_of
event_stays s m t = by (check_of s (length m))
  where
    by_read : (r : Read) → Stays s m (on_read r s m)
    by_read (Whole e n) = stays s m e
    by_read (Refused r place) = unchanged s m _

    by : (v : Verdict) → Stays s m (event_on_verdict v s m t)
    by Passed = by_read (read_of (part_of s.part) t)
    by (Failed r) = unchanged s m _

-- an accepted event was one of a state and a memory that passed
pub accepted_sound : (s : Model) (m t : List ℕ) → (event_of s m t).result.number ≡ 0 → Sound s m
unfolding event_of
accepted_sound s m t z = by (check_of s (length m)) refl z
  where
    by : (v : Verdict) → check_of s (length m) ≡ v → (event_on_verdict v s m t).result.number ≡ 0 → check_of s (length m) ≡ Passed
    by Passed e k = e
    by (Failed r) e k = absurd (number_positive r k)

-- and has all its bytes in the trace
pub accepted_within : (s : Model) (m t : List ℕ) → (event_of s m t).result.number ≡ 0 → event_length (get_or t 0 0) ≤ length t
unfolding event_of
accepted_within s m t z = by (check_of s (length m)) z
  where
    by_read : (r : Read) → read_of (part_of s.part) t ≡ r → (on_read r s m).result.number ≡ 0 → event_length (get_or t 0 0) ≤ length t
    by_read (Whole e n) h k = rw (passed (part_of s.part) t e n h).taken (taken_within (part_of s.part) t e n h)
    by_read (Refused r place) h k = absurd (number_positive r k)

    by : (v : Verdict) → (event_on_verdict v s m t).result.number ≡ 0 → event_length (get_or t 0 0) ≤ length t
    by Passed k = by_read (read_of (part_of s.part) t) refl k
    by (Failed r) k = absurd (number_positive r k)
