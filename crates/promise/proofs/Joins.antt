-- A list of events after another: state, memory and history are those of the second list on what the first left. Assumes nothing.
use Prim.Native.Nat.{ℕ}
use mathlib.Core.Path.{◌≡◌, refl}
use mathlib.Core.List.{List, [], ◌∷◌, ◌++◌}
use Rattle.parts.specs.declared.part.Part.{Part}
use Rattle.chip.specs.declared.model.Model.{Model}
use Rattle.runs.specs.Event.{event_of}
use Rattle.ledger.specs.History.{Entry}
use Rattle.promise.specs.Lists.{observed, observations, model_after, memory_after}
use Rattle.promise.specs.Fed.{fed_one, fed_from}

pub model_join : (es ks : List (List ℕ)) (s : Model) (m : List ℕ)
    → model_after s m (es ++ ks) ≡ model_after (model_after s m es) (memory_after s m es) ks
model_join [] ks s m = refl
model_join (t ∷ es) ks s m = model_join es ks (event_of s m t).result.model (event_of s m t).memory

pub memory_join : (es ks : List (List ℕ)) (s : Model) (m : List ℕ)
    → memory_after s m (es ++ ks) ≡ memory_after (model_after s m es) (memory_after s m es) ks
memory_join [] ks s m = refl
memory_join (t ∷ es) ks s m = memory_join es ks (event_of s m t).result.model (event_of s m t).memory

pub fed_join : (p : Part) (es ks : List (List ℕ)) (s : Model) (m : List ℕ) (h : List Entry)
    → fed_from p (es ++ ks) (observations s m (es ++ ks)) h
    ≡ fed_from p ks (observations (model_after s m es) (memory_after s m es) ks) (fed_from p es (observations s m es) h)
fed_join p [] ks s m h = refl
fed_join p (t ∷ es) ks s m h =
    fed_join p es ks (event_of s m t).result.model (event_of s m t).memory (fed_one p t (observed (event_of s m t)) h)
