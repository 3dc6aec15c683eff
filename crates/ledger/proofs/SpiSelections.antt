-- In every history a selection begins where CS# falls, ends where CS# rises or power goes, and holds exactly the bits of the
-- counted rises between, which are said by the levels of the pins; so is the last counted fall. By induction on the steps. Assumes
-- nothing.
use Prim.Native.Nat.{ℕ}
use mathlib.Core.Path.{◌≡◌, refl, ap, ◌∙◌}
use mathlib.Core.Bool.{Bool, true, false, cond, not, ◌&&◌}
use mathlib.Core.List.{List, [], ◌∷◌, ◌++◌, append-nil}
use Rattle.parts.specs.declared.part.Part.{Part}
use Rattle.trace.specs.declared.event.Event.TheVariants.{PowerOff}
use Rattle.selection.specs.declared.levels.Levels.{Levels}
use Rattle.selection.specs.Edge.{clock_edge, edge_of}
use Rattle.selection.specs.Levels.{levels_of}
use Rattle.selection.proofs.LevelLaws.{levels_back}
use Rattle.ledger.specs.History.{Entry}
use Rattle.ledger.specs.Steps.{Step, sample, expected, entry_of, followed}
use Rattle.ledger.specs.SpiLedger.{unended, ended, Item, power_off, selection, items_on_edge, last_sample, items, asleep}
use Rattle.ledger.specs.SpiAnswers.{LastFall, after_rises, fall_on, last_fall}
use Rattle.ledger.specs.Selections.{sample_byte, AllSelected, levels_seen, counted_bits, last_fall_after}

-- a sample has the levels that its byte is made of
levels_of_lem : (l : Levels) → levels_of (sample_byte l) ≡ l
levels_of_lem l = levels_back l.cs l.sck l.si l.wp l.hold

-- one sample more
one_noted : (h : List Entry) (l : Levels) (a : ℕ) → items (entry_of sample_byte (sample l a) ∷ h) ≡ items_on_edge (edge_of (last_sample h) l) l.wp (items h)
one_noted h l a = ap (λ (k : Levels). items_on_edge (edge_of (last_sample h) k) k.wp (items h)) (levels_of_lem l)

one_fall : (p : Part) (h : List Entry) (l : Levels) (a : ℕ)
    → last_fall p (entry_of sample_byte (sample l a) ∷ h) ≡ fall_on (edge_of (last_sample h) l) p (items h) (last_fall p h)
one_fall p h l a = ap (λ (k : Levels). fall_on (edge_of (last_sample h) k) p (items h) (last_fall p h)) (levels_of_lem l)

-- between two samples with CS# 0: HOLD# before and now, SCK before and now, SI and WP# now
clock_noted : (is : List Item) (bs : List Bool) (h h' k k' x wp : Bool)
    → items_on_edge (clock_edge h h' k k' x) wp (selection bs unended ∷ is)
    ≡ selection (bs ++ cond (h && (h' && (not k && k'))) (x ∷ []) []) unended ∷ is
clock_noted is bs false h' k k' x wp = rw append-nil
clock_noted is bs true false k k' x wp = rw append-nil
clock_noted is bs true true false false x wp = rw append-nil
clock_noted is bs true true false true x wp = refl
clock_noted is bs true true true false x wp = rw append-nil
clock_noted is bs true true true true x wp = rw append-nil

clock_fall : (p : Part) (is : List Item) (bs : List Bool) (f : LastFall) (h h' k k' x : Bool) → asleep p is ≡ false
    → fall_on (clock_edge h h' k k' x) p (selection bs unended ∷ is) f ≡ cond (h && (h' && (k && not k'))) (after_rises bs) f
clock_fall p is bs f false h' k k' x a = refl
clock_fall p is bs f true false k k' x a = refl
clock_fall p is bs f true true false k' x a = by k'
  where
    by : (y : Bool) → fall_on (clock_edge true true false y x) p (selection bs unended ∷ is) f ≡ f
    by true = refl
    by false = refl
clock_fall p is bs f true true true true x a = refl
clock_fall p is bs f true true true false x a = rw a

module _ (h : List Entry) (first : Levels) (answer : ℕ) where
  last_levels : (ss : List (Step Levels)) → last_sample (followed sample_byte h first answer ss) ≡ levels_seen first ss
  last_levels [] = levels_of_lem first
  last_levels (sample l a ∷ ss) = levels_of_lem l
  last_levels (expected v a ∷ ss) = last_levels ss

  low_after : (ss : List (Step Levels)) → first.cs ≡ false → AllSelected ss → (levels_seen first ss).cs ≡ false
  low_after [] low lows = low
  low_after (sample l a ∷ ss) low lows = lows.0
  low_after (expected v a ∷ ss) low lows = low_after ss low lows

  module _ (up : (last_sample h).cs ≡ true) (low : first.cs ≡ false) where
    -- CS# has fallen between the last sample of h and first, and is 0 at all samples since: one selection, open, with the bits of the
    -- counted rises
    pub selection_open : (ss : List (Step Levels)) → AllSelected ss → items (followed sample_byte h first answer ss) ≡ selection (counted_bits first ss) unended ∷ items h
    selection_open [] lows = one_noted h first answer ∙ rw (up, low)
    selection_open (sample l a ∷ ss) lows =
        let q = levels_seen first ss in
        one_noted (followed sample_byte h first answer ss) l a
        ∙ rw (last_levels ss, low_after ss low lows.1, lows.0, selection_open ss lows.1)
        (clock_noted (items h) (counted_bits first ss) q.hold l.hold q.sck l.sck l.si l.wp)
    selection_open (expected v a ∷ ss) lows = selection_open ss lows

    module _ (ss : List (Step Levels)) (lows : AllSelected ss) where
      -- and then it rises at a sample with the levels last: the selection has ended, with WP# at that sample
      pub selection_of_lem : (last : Levels) (a : ℕ) → last.cs ≡ true
          → items (entry_of sample_byte (sample last a) ∷ followed sample_byte h first answer ss) ≡ selection (counted_bits first ss) (ended last.wp) ∷ items h
      selection_of_lem last a high = one_noted (followed sample_byte h first answer ss) last a ∙ rw (last_levels ss, low_after ss low lows, high, selection_open ss lows)

      -- or power is cut: the selection stays without an end
      pub selection_cut : (a : ℕ)
          → items (record { event = PowerOff; answer = a } ∷ followed sample_byte h first answer ss) ≡ power_off ∷ selection (counted_bits first ss) unended ∷ items h
      selection_cut a = rw (selection_open ss lows)

    -- the last counted fall, in a selection that is not ignored
    pub fall_of : (p : Part) → asleep p (items h) ≡ false → (ss : List (Step Levels)) → AllSelected ss → last_fall p (followed sample_byte h first answer ss) ≡ last_fall_after first ss
    fall_of p awake [] lows = one_fall p h first answer ∙ rw (up, low)
    fall_of p awake (sample l a ∷ ss) lows =
        let q = levels_seen first ss in
        one_fall p (followed sample_byte h first answer ss) l a
        ∙ rw (last_levels ss, low_after ss low lows.1, lows.0, selection_open ss lows.1, fall_of p awake ss lows.1)
        (clock_fall p (items h) (counted_bits first ss) (last_fall_after first ss) q.hold l.hold q.sck l.sck l.si awake)
    fall_of p awake (expected v a ∷ ss) lows = fall_of p awake ss lows
