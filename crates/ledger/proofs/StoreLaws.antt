-- Stores one after the other: their memory is as long as before, and each address holds the last byte stored there.
-- Assumes nothing.
use Prim.Native.Nat.{ℕ, ◌<◌}
use mathlib.Core.Path.{◌≡◌, refl, sym, ap, ◌∙◌}
use mathlib.Core.Bool.{Bool, true, false, cond}
use mathlib.Core.List.{List, [], ◌∷◌, ◌++◌}
use lib.Dec.{eqb}
use lib.ListN.{length, set, get_or, length-set}
use lib.Seq.{get_or-set_same, get_or-set_other, lt-length-set}
use borrow.Author.Tests.{eqb-true, eqb-false}
use Rattle.std.specs.Prelude.{None, Option, Some}
use Rattle.serial.specs.declared.write.Write.{Write}
use Rattle.serial.specs.Write.{applied}
use Rattle.ledger.specs.Stores.{Store, last_at, stored}

-- what a sample writes, as stores
abbrev pub stores_of : Option Write → List Store
stores_of None = []
stores_of (Some w) = record { address = w.address; value = w.value } ∷ []

pub applied_stored : (w : Option Write) (m : List ℕ) → applied w m ≡ stored m (stores_of w)
applied_stored None m = refl
applied_stored (Some w) m = refl

pub stored_append : (m : List ℕ) (ws us : List Store) → stored m (ws ++ us) ≡ stored (stored m ws) us
stored_append m [] us = refl
stored_append m (w ∷ ws) us = stored_append (set m w.address w.value) ws us

-- a write after stores is one store more
pub applied_after : (m : List ℕ) (ws : List Store) (w : Option Write) → applied w (stored m ws) ≡ stored m (ws ++ stores_of w)
applied_after m ws w = applied_stored w (stored m ws) ∙ sym (stored_append m ws (stores_of w))

pub length_stored : (m : List ℕ) (ws : List Store) → length (stored m ws) ≡ length m
length_stored m [] = refl
length_stored m (w ∷ ws) = length_stored (set m w.address w.value) ws ∙ length-set m w.address w.value

-- one store changes its own address only
get_d_store : (m : List ℕ) (i v a : ℕ) → a < length m → get_or (set m i v) a 0 ≡ cond (eqb i a) v (get_or m a 0)
get_d_store m i v a h = by (eqb i a) refl
  where
    by : (t : Bool) → eqb i a ≡ t → get_or (set m i v) a 0 ≡ cond t v (get_or m a 0)
    by true e = rw (eqb-true i a e) (get_or-set_same m a v 0 h)
    by false e = get_or-set_other m i a v 0 (λ q. eqb-false i a e (sym q))

pub get_d_stored : (m : List ℕ) (ws : List Store) (a : ℕ) → a < length m → get_or (stored m ws) a 0 ≡ last_at a (get_or m a 0) ws
get_d_stored m [] a h = refl
get_d_stored m (w ∷ ws) a h =
    get_d_stored (set m w.address w.value) ws a (lt-length-set m w.address w.value h)
    ∙ ap (λ (d : ℕ). last_at a d ws) (get_d_store m w.address w.value a h)
