-- How an agreement between state, memory and history goes through a list of events: a refused event changes neither state nor
-- memory and is not fed, so that it is enough to look at an event read from the bytes on a state and a memory that passed the
-- tests. Assumes nothing.
use Prim.Native.Nat.{ℕ}
use mathlib.Core.Path.{◌≡◌, refl}
use mathlib.Core.Bool.{cond}
use mathlib.Core.List.{List, [], ◌∷◌}
use lib.Dec.{eqb}
use lib.ListN.{length}
use Rattle.parts.specs.declared.part.Part.{Part}
use Rattle.parts.specs.declared.refusal.Refusal.{Refusal}
use Rattle.parts.specs.Table.{part_of}
use Rattle.trace.specs.declared.event.Event.{Event}
use Rattle.trace.specs.Read.{read_of, Read, Whole, Refused}
use Rattle.trace.proofs.SuitLaws.{Suits, suits}
use Rattle.chip.specs.declared.model.Model.{Model}
use Rattle.chip.specs.Check.{check_of, Sound, Verdict, Passed, Failed}
use Rattle.events.specs.Event.{Outcome, keeping, refused, advance_of}
use Rattle.runs.specs.Event.{on_read, event_on_verdict, event_of}
use Rattle.ledger.specs.History.{Entry}
use Rattle.promise.specs.Lists.{observed, observations, model_after, memory_after}
use Rattle.promise.specs.Fed.{fed_one, fed_from}
use Rattle.parts.proofs.NumberLaws.{refusal_counts}

-- the history after an event that was read
abbrev pub entered : Event → Outcome → List Entry → List Entry
entered e o h = cond (eqb o.result.number 0) (record { event = e; answer = o.result.answer } ∷ h) h

module _ (p : Part) (Fits : Model → List ℕ → List Entry → Type 0)
    (same : (s : Model) (m : List ℕ) (h : List Entry) → Fits s m h → part_of s.part ≡ p)
    (step : (s : Model) (m : List ℕ) (h : List Entry) (e : Event) → Fits s m h → Sound s m → Suits p e
    → Fits (advance_of s m e).result.model (advance_of s m e).memory (entered e (advance_of s m e) h)) where
  -- what an event of the bytes t gives agrees with the history then
  abbrev FitsAfter : List ℕ → List Entry → Outcome → Type 0
  FitsAfter t h o = Fits o.result.model o.memory (fed_one p t (observed o) h)

  module _ (s : Model) (m : List ℕ) (h : List Entry) (t : List ℕ) (f : Fits s m h) where
    refused_fits : (r : Refusal) → FitsAfter t h (keeping m (refused r s))
    refused_fits r = rw (refusal_counts r) f

    read_fits : (r : Read) → Sound s m → read_of p t ≡ r → FitsAfter t h (on_read r s m)
    read_fits (Whole e n) c q = rw q (step s m h e f c (suits p t e n q))
    read_fits (Refused r place) c q = refused_fits r

    check_fits : (v : Verdict) → check_of s (length m) ≡ v → FitsAfter t h (event_on_verdict v s m t)
    check_fits Passed c = rw (same s m h f) (read_fits (read_of p t) c refl)
    check_fits (Failed r) c = refused_fits r

    event_fits : FitsAfter t h (event_of s m t)
    unfolding event_of
    event_fits = check_fits (check_of s (length m)) refl

  -- an agreement that each event keeps holds after every list
  pub runs : (es : List (List ℕ)) (s : Model) (m : List ℕ) (h : List Entry) → Fits s m h
      → Fits (model_after s m es) (memory_after s m es) (fed_from p es (observations s m es) h)
  runs [] s m h f = f
  runs (t ∷ es) s m h f =
      runs es (event_of s m t).result.model (event_of s m t).memory (fed_one p t (observed (event_of s m t)) h) (event_fits s m h t f)
