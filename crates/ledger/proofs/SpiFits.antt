-- Every sample keeps an SPI part and the ledger in agreement: memory, status register, sleep and phase are what the items say,
-- for every part that fits, over its size and address width. Assumes nothing.
use Prim.Native.Nat.{ℕ, ◌<◌}
use mathlib.Core.Path.{◌≡◌, refl, sym, ap, ◌∙◌, subst}
use mathlib.Core.Bool.{Bool, true, false, cond, false≢true}
use mathlib.Core.List.{List, [], ◌∷◌, ◌++◌, append_assoc, append-nil}
use Rattle.parts.specs.declared.answer.Answer.{Answer}
use Rattle.parts.specs.declared.answer.Answer.TheVariants.{HighZ}
use Rattle.parts.specs.declared.part.Part.{Part}
use Rattle.parts.specs.declared.status.Status.{Status}
use Rattle.parts.specs.Table.{Fit}
use Rattle.serial.specs.Write.{applied}
use Rattle.selection.specs.declared.edge.Edge.{Edge}
use Rattle.selection.specs.declared.levels.Levels.{Levels}
use Rattle.selection.specs.declared.phase.Field.TheVariants.{Opcode}
use Rattle.selection.specs.declared.phase.Phase.{Phase}
use Rattle.selection.specs.declared.phase.Phase.TheVariants.{Rest, Ignoring, Taking}
use Rattle.spi.specs.declared.sample.Spi.{Spi}
use Rattle.spi_status.specs.Deselect.{status_after, asleep_after}
use Rattle.selection.specs.Edge.{clock_edge, select_edge, edge_of}
use Rattle.selection.specs.Phase.{after_rise}
use Rattle.spi.specs.Sample.{selected, step_on, step_of}
use Rattle.spi.specs.Show.{after_fall}
use Rattle.spi.specs.Store.{rise_write, end_write}
use Rattle.ledger.specs.Stores.{stored}
use Rattle.ledger.specs.SpiLedger.{unended, ended, Item, power_on, power_off, selection, with_bit, closed, items_on_edge, reading, is_sleep, asleep, without_ignored, enabled, SavedBits, register, bits, writes}
use Rattle.ledger.proofs.Folds.{after_snoc}
use Rattle.ledger.proofs.StoreLaws.{applied_after}
use Rattle.ledger.proofs.SpiReads.{phase_after, Effect, no_stores, selection_does, stores_snoc, stores_end}

-- at power on, and wherever no selection is open: at rest, or ignoring the bus until CS# has been 1
abbrev pub at_power : Bool → Phase
at_power true = Rest
at_power false = Ignoring

-- the phase of a selection with these bits, ignored (y) or not
abbrev pub opened : Part → Bool → List Bool → Phase
opened p y bs = cond y Ignoring (phase_after p (Taking Opcode 0 0) bs)

-- the phase that the items stand for, with CS# at the last sample
abbrev pub phase_now : Part → Bool → List Item → Phase
phase_now p cs [] = at_power cs
phase_now p cs (power_on ∷ is) = at_power cs
phase_now p cs (power_off ∷ is) = at_power cs
phase_now p cs (selection bs unended ∷ is) = opened p (asleep p is) bs
phase_now p cs (selection bs (ended wp) ∷ is) = at_power cs

-- after the end of a selection CS# is 1
abbrev pub Rested : Bool → List Item → Type 0
Rested cs [] = Unit {0}
Rested cs (power_on ∷ is) = Unit {0}
Rested cs (power_off ∷ is) = Unit {0}
Rested cs (selection bs unended ∷ is) = Unit {0}
Rested cs (selection bs (ended wp) ∷ is) = cs ≡ true

module _ (p : Part) (made : SavedBits) (m₀ : List ℕ) where
  -- memory, status register, sleep and phase as the items say
  pub record Good (st : Status) (s : Spi) (m : List ℕ) (is : List Item) : Type 0 where
    pub memory_is : m ≡ stored m₀ (writes p made (without_ignored p is))
    pub status_is : st ≡ register (bits p made (without_ignored p is)) (enabled p (without_ignored p is))
    pub sleep_is : s.asleep ≡ asleep p is
    pub phase_is : s.phase ≡ phase_now p s.last.cs is
    pub rested : Rested s.last.cs is

  -- ---- memory and status register, by the items that count (hs) before a selection that is ignored (y) or not

  abbrev Agrees : Status → List ℕ → List Item → Type 0
  Agrees st m hs = (m ≡ stored m₀ (writes p made hs)) × (st ≡ register (bits p made hs) (enabled p hs))

  module _ (wide : 0 < p.width) (st : Status) (m : List ℕ) (hs : List Item) where
    select_agrees : (y : Bool) → Agrees st m hs → Agrees st m (cond y hs (selection [] unended ∷ hs))
    select_agrees true a = a
    select_agrees false a = (rw (no_stores, append-nil) a.0, a.1)

    rise_agrees : (y : Bool) (bs : List Bool) (x : Bool) → Agrees st m (cond y hs (selection bs unended ∷ hs))
        → Agrees st (applied (rise_write p st (opened p y bs) x) m) (cond y hs (selection (bs ++ (x ∷ [])) unended ∷ hs))
    rise_agrees true bs x a = a
    rise_agrees false bs x a =
        let more = stores_snoc p (bits p made hs) (enabled p hs) true wide bs x in
        (rw (a.1, a.0, more, ← append_assoc, applied_after), a.1)

    end_agrees : (y : Bool) (bs : List Bool) (wp : Bool) → Agrees st m (cond y hs (selection bs unended ∷ hs))
        → Agrees (status_after st wp (opened p y bs)) (applied (end_write p st (opened p y bs)) m) (cond y hs (selection bs (ended wp) ∷ hs))
    end_agrees true bs wp a = a
    end_agrees false bs wp a =
        let more = stores_end p (bits p made hs) (enabled p hs) wp wide bs in (
          rw (a.1, a.0, more, ← append_assoc, applied_after),
          rw a.1 (ap (λ (x : Effect). x.status) (selection_does p (bits p made hs) (enabled p hs) wp wide bs)),
        )

  -- ---- one edge

  module _ (wide : 0 < p.width) (st : Status) (s : Spi) (l : Levels) (m : List ℕ) where
    -- the part after a sample
    abbrev next : Bool → Answer → Phase → Spi
    next z shown ph = record { last = l; asleep = z; shown = shown; phase = ph }

    -- nothing but what is shown changes, CS# being as before
    stay : (shown : Answer) (is : List Item) → s.last.cs ≡ l.cs → Good st s m is → Good st (next s.asleep shown s.phase) m is
    stay shown is same g =
        record {
          memory_is = g.memory_is;
          status_is = g.status_is;
          sleep_is = g.sleep_is;
          phase_is = g.phase_is ∙ ap (λ (c : Bool). phase_now p c is) same;
          rested = subst (λ (c : Bool). Rested c is) same g.rested;
        }

    -- CS# falls
    select_phase : (y : Bool) → selected y ≡ opened p y []
    select_phase true = refl
    select_phase false = refl

    select_good : (is : List Item) → Good st s m is → Good st (next s.asleep HighZ (selected s.asleep)) m (selection [] unended ∷ is)
    select_good is g =
        let a = select_agrees wide st m (without_ignored p is) (asleep p is) (g.memory_is, g.status_is) in
        record {
          memory_is = a.0;
          status_is = a.1;
          sleep_is = g.sleep_is;
          phase_is = rw g.sleep_is (select_phase (asleep p is));
          rested = tt;
        }

    -- a counted rise
    rise_phase : (y : Bool) (bs : List Bool) (x : Bool) → after_rise p (opened p y bs) x ≡ opened p y (bs ++ (x ∷ []))
    rise_phase true bs x = refl
    rise_phase false bs x = sym (after_snoc (after_rise p) (Taking Opcode 0 0) bs x)

    module _ (x : Bool) (low : s.last.cs ≡ false) (low' : l.cs ≡ false) where
      abbrev RiseGood : List Item → List Item → Type 0
      RiseGood is is' =
          Good st s m is → Good st (next s.asleep s.shown (after_rise p s.phase x)) (applied (rise_write p st s.phase x) m) is'

      -- where no selection is open: the part ignores the bus
      rise_ignoring : (is : List Item) → phase_now p false is ≡ Ignoring → RiseGood is is
      rise_ignoring is ignoring g =
          let q : s.phase ≡ Ignoring = g.phase_is ∙ ap (λ (c : Bool). phase_now p c is) low ∙ ignoring in
          rw q (rw q at (stay s.shown is (low ∙ sym low') g))

      rise_good : (is : List Item) → RiseGood is (with_bit x is)
      rise_good [] g = rise_ignoring [] refl g
      rise_good (power_on ∷ is) g = rise_ignoring (power_on ∷ is) refl g
      rise_good (power_off ∷ is) g = rise_ignoring (power_off ∷ is) refl g
      rise_good (selection bs (ended wp) ∷ is) g = rise_ignoring (selection bs (ended wp) ∷ is) refl g
      rise_good (selection bs unended ∷ is) g =
          let a = rise_agrees wide st m (without_ignored p is) (asleep p is) bs x (g.memory_is, g.status_is) in
          record {
            memory_is = rw g.phase_is a.0;
            status_is = a.1;
            sleep_is = g.sleep_is;
            phase_is = rw g.phase_is (rise_phase (asleep p is) bs x);
            rested = tt;
          }

    -- CS# rises
    end_sleep : (y : Bool) (bs : List Bool) → asleep_after y (opened p y bs) ≡ cond y false (is_sleep (reading p bs))
    end_sleep true bs = refl
    end_sleep false bs = ap (λ (x : Effect). x.sleep) (selection_does p made false true wide bs)

    module _ (low : s.last.cs ≡ false) (high : l.cs ≡ true) where
      abbrev EndGood : List Item → List Item → Type 0
      EndGood is is' =
          Good st s m is
          → Good (status_after st l.wp s.phase) (next (asleep_after s.asleep s.phase) HighZ Rest) (applied (end_write p st s.phase) m) is'

      -- where no selection is open: nothing was taken, and nothing waits
      end_ignoring : (is : List Item) → ((c : Bool) → phase_now p c is ≡ at_power c) → asleep p is ≡ false → Rested l.cs is → EndGood is is
      end_ignoring is power awake t g =
          let q : s.phase ≡ Ignoring = g.phase_is ∙ power s.last.cs ∙ ap at_power low in
          record {
            memory_is = rw q g.memory_is;
            status_is = rw q g.status_is;
            sleep_is = rw (g.sleep_is, q, awake);
            phase_is = sym (power l.cs ∙ ap at_power high);
            rested = t;
          }

      end_good : (is : List Item) → EndGood is (closed l.wp is)
      end_good [] g = end_ignoring [] (λ c. refl) refl tt g
      end_good (power_on ∷ is) g = end_ignoring (power_on ∷ is) (λ c. refl) refl tt g
      end_good (power_off ∷ is) g = end_ignoring (power_off ∷ is) (λ c. refl) refl tt g
      end_good (selection bs (ended wp) ∷ is) g = absurd (false≢true (sym low ∙ g.rested))
      end_good (selection bs unended ∷ is) g =
          let a = end_agrees wide st m (without_ignored p is) (asleep p is) bs l.wp (g.memory_is, g.status_is) in
          record {
            memory_is = rw g.phase_is a.0;
            status_is = rw g.phase_is a.1;
            sleep_is = rw (g.sleep_is, g.phase_is) (end_sleep (asleep p is) bs);
            phase_is = sym (ap at_power high);
            rested = high;
          }

    -- ---- one sample: CS#, HOLD# and SCK before and now, and SI

    module _ (is : List Item) (g : Good st s m is) where
      abbrev GoodOn : Edge → Type 0
      GoodOn e =
          Good (step_on e p st s l m).status (step_on e p st s l m).spi (applied (step_on e p st s l m).write m) (items_on_edge e l.wp is)

      edge_good : (c c' h h' k k' x : Bool) → s.last.cs ≡ c → l.cs ≡ c' → GoodOn (select_edge c c' (clock_edge h h' k k' x))
      edge_good true true h h' k k' x q q' = stay s.shown is (q ∙ sym q') g
      edge_good true false h h' k k' x q q' = select_good is g
      edge_good false true h h' k k' x q q' = end_good q q' is g
      edge_good false false false h' k k' x q q' = stay s.shown is (q ∙ sym q') g
      edge_good false false true false k k' x q q' = stay s.shown is (q ∙ sym q') g
      edge_good false false true true false false x q q' = stay s.shown is (q ∙ sym q') g
      edge_good false false true true false true x q q' = rise_good x q q' is g
      edge_good false false true true true false x q q' = stay (after_fall p st m s.phase s.shown) is (q ∙ sym q') g
      edge_good false false true true true true x q q' = stay s.shown is (q ∙ sym q') g

  pub sample_good : Fit p → (st : Status) (s : Spi) (l : Levels) (m : List ℕ) (is : List Item) → Good st s m is
      → Good (step_of p st s l m).status (step_of p st s l m).spi (applied (step_of p st s l m).write m)
      (items_on_edge (edge_of s.last l) l.wp is)
  unfolding step_of
  sample_good fit st s l m is g =
      edge_good fit.wide st s l m is g s.last.cs l.cs s.last.hold l.hold s.last.sck l.sck l.si refl refl

  -- power on, where memory and saved bits are the ledger's
  pub power_good : (l : Levels) (b : SavedBits) (m : List ℕ) (is : List Item)
      → m ≡ stored m₀ (writes p made (without_ignored p is)) → b ≡ bits p made (without_ignored p is)
      → Good (register b false) (record { last = l; asleep = false; shown = HighZ; phase = at_power l.cs }) m (power_on ∷ is)
  power_good l b m is q q' = record { memory_is = q; status_is = rw q'; sleep_is = refl; phase_is = refl; rested = tt }
