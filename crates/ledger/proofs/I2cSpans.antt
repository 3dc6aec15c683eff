-- In every history a span begins at a START, ends at whichever comes first of another START, a STOP and a power off, and has
-- exactly the rises of SCL between, each with the line and WP at its sample; START, STOP, rises and falls are said by SCL, SDA and
-- the answers. By induction on the steps. Assumes nothing.
use Prim.Native.Nat.{ℕ}
use mathlib.Core.Path.{◌≡◌, refl, ap, ◌∙◌}
use mathlib.Core.Bool.{Bool, true, false, cond, not, ◌&&◌}
use mathlib.Core.List.{List, [], ◌∷◌, ◌++◌, append-nil}
use Rattle.trace.specs.declared.event.Event.TheVariants.{PowerOff}
use Rattle.transfer.specs.declared.levels.Levels.{Levels}
use Rattle.transfer.specs.Edge.{edge_on}
use Rattle.transfer.specs.Levels.{levels_of}
use Rattle.transfer.proofs.LevelLaws.{levels_back}
use Rattle.ledger.specs.History.{Entry}
use Rattle.ledger.specs.Steps.{Step, sample, expected, entry_of, followed}
use Rattle.ledger.specs.I2cLedger.{Clock, Item, idle, span, items_on_edge, Wires, wires_at, edge_between, last_wires, items}
use Rattle.ledger.specs.I2cAnswers.{LastFall, fall_on, last_fall}
use Rattle.ledger.specs.I2cAnswers as Answers
use Rattle.ledger.specs.Spans.{sample_byte, wires_seen, Start, Stop, AllNeither, clocks_after, last_fall_after}

-- a sample has the levels that its byte is made of
levels_of_lem : (l : Levels) → levels_of (sample_byte l) ≡ l
levels_of_lem l = levels_back l.scl l.sda l.wp

-- one sample more
edge_items : (h : List Entry) (l : Levels) (a : ℕ)
    → items (entry_of sample_byte (sample l a) ∷ h) ≡ items_on_edge (edge_between (last_wires h) (wires_at l a)) l.wp (items h)
edge_items h l a = ap (λ (k : Levels). items_on_edge (edge_between (last_wires h) (wires_at k a)) k.wp (items h)) (levels_of_lem l)

one_fall : (h : List Entry) (l : Levels) (a : ℕ)
    → last_fall (entry_of sample_byte (sample l a) ∷ h) ≡ fall_on (edge_between (last_wires h) (wires_at l a)) (items h) (last_fall h)
one_fall h l a = ap (λ (k : Levels). fall_on (edge_between (last_wires h) (wires_at k a)) (items h) (last_fall h)) (levels_of_lem l)

-- between two samples that are no START and no STOP: SCL before and now, the line before and now, WP now
module _ (is : List Item) (ks : List Clock) where
  neither_noted : (a b x y wp : Bool) → (a ≡ true → b ≡ true → y ≡ x)
      → items_on_edge (edge_on a b x y) wp (span ks ∷ is) ≡ span (ks ++ cond (not a && b) (record { line = y; wp = wp } ∷ []) []) ∷ is
  neither_noted true true true y wp n = rw (n refl refl, append-nil)
  neither_noted true true false y wp n = rw (n refl refl, append-nil)
  neither_noted true false x y wp n = rw append-nil
  neither_noted false true x y wp n = refl
  neither_noted false false x y wp n = rw append-nil

  neither_fall : (f : LastFall) (a b x y : Bool) → (a ≡ true → b ≡ true → y ≡ x)
      → fall_on (edge_on a b x y) (span ks ∷ is) f ≡ cond (a && not b) (Answers.after_rises ks) f
  neither_fall f true true true y n = rw (n refl refl)
  neither_fall f true true false y n = rw (n refl refl)
  neither_fall f true false x y n = refl
  neither_fall f false b x y n = by b
    where
      by : (c : Bool) → fall_on (edge_on false c x y) (span ks ∷ is) f ≡ f
      by true = refl
      by false = refl

-- START and STOP
start_noted : (v w : Wires) (wp : Bool) (is : List Item) → Start v w → items_on_edge (edge_between v w) wp is ≡ span [] ∷ is
start_noted v w wp is s = rw (s.scl_before, s.scl_now, s.line_before, s.line_now)

stop_noted : (v w : Wires) (wp : Bool) (is : List Item) → Stop v w → items_on_edge (edge_between v w) wp is ≡ idle ∷ is
stop_noted v w wp is s = rw (s.scl_before, s.scl_now, s.line_before, s.line_now)

start_fall : (v w : Wires) (is : List Item) (f : LastFall) → Start v w → fall_on (edge_between v w) is f ≡ Answers.no_fall
start_fall v w is f s = rw (s.scl_before, s.scl_now, s.line_before, s.line_now)

module _ (h : List Entry) (first : Levels) (answer : ℕ) where
  last_wires_lem : (ss : List (Step Levels)) → last_wires (followed sample_byte h first answer ss) ≡ wires_seen (wires_at first answer) ss
  last_wires_lem [] = ap (λ (l : Levels). wires_at l answer) (levels_of_lem first)
  last_wires_lem (sample l a ∷ ss) = ap (λ (k : Levels). wires_at k a) (levels_of_lem l)
  last_wires_lem (expected v a ∷ ss) = last_wires_lem ss

  module _ (started : Start (last_wires h) (wires_at first answer)) where
    -- a START between the last sample of h and first, and neither START nor STOP since: one span, open, with the rises since
    pub span_open : (ss : List (Step Levels)) → AllNeither (wires_at first answer) ss → items (followed sample_byte h first answer ss) ≡ span (clocks_after (wires_at first answer) ss) ∷ items h
    span_open [] ns = edge_items h first answer ∙ start_noted (last_wires h) (wires_at first answer) first.wp (items h) started
    span_open (sample l a ∷ ss) ns =
        let q = wires_seen (wires_at first answer) ss in
        edge_items (followed sample_byte h first answer ss) l a
        ∙ rw (last_wires_lem ss, span_open ss ns.1)
        (neither_noted (items h) (clocks_after (wires_at first answer) ss) q.scl l.scl q.line (wires_at l a).line l.wp ns.0)
    span_open (expected v a ∷ ss) ns = span_open ss ns

    module _ (ss : List (Step Levels)) (ns : AllNeither (wires_at first answer) ss) where
      -- the next START begins another span
      pub span_start : (last : Levels) (a : ℕ) → Start (wires_seen (wires_at first answer) ss) (wires_at last a)
          → items (entry_of sample_byte (sample last a) ∷ followed sample_byte h first answer ss) ≡ span [] ∷ span (clocks_after (wires_at first answer) ss) ∷ items h
      span_start last a s =
          edge_items (followed sample_byte h first answer ss) last a
          ∙ rw (last_wires_lem ss, span_open ss ns) (start_noted (wires_seen (wires_at first answer) ss) (wires_at last a) last.wp (span (clocks_after (wires_at first answer) ss) ∷ items h) s)

      -- a STOP ends it
      pub span_stop : (last : Levels) (a : ℕ) → Stop (wires_seen (wires_at first answer) ss) (wires_at last a)
          → items (entry_of sample_byte (sample last a) ∷ followed sample_byte h first answer ss) ≡ idle ∷ span (clocks_after (wires_at first answer) ss) ∷ items h
      span_stop last a s =
          edge_items (followed sample_byte h first answer ss) last a
          ∙ rw (last_wires_lem ss, span_open ss ns) (stop_noted (wires_seen (wires_at first answer) ss) (wires_at last a) last.wp (span (clocks_after (wires_at first answer) ss) ∷ items h) s)

      -- and so does power off
      pub span_cut : (a : ℕ) → items (record { event = PowerOff; answer = a } ∷ followed sample_byte h first answer ss) ≡ idle ∷ span (clocks_after (wires_at first answer) ss) ∷ items h
      span_cut a = rw (span_open ss ns)

    -- the last fall of SCL in it
    pub fall_of : (ss : List (Step Levels)) → AllNeither (wires_at first answer) ss → last_fall (followed sample_byte h first answer ss) ≡ last_fall_after (wires_at first answer) ss
    fall_of [] ns = one_fall h first answer ∙ start_fall (last_wires h) (wires_at first answer) (items h) (last_fall h) started
    fall_of (sample l a ∷ ss) ns =
        let q = wires_seen (wires_at first answer) ss in
        one_fall (followed sample_byte h first answer ss) l a
        ∙ rw (last_wires_lem ss, span_open ss ns.1, fall_of ss ns.1)
        (neither_fall (items h) (clocks_after (wires_at first answer) ss) (last_fall_after (wires_at first answer) ss) q.scl l.scl q.line (wires_at l a).line ns.0)
    fall_of (expected v a ∷ ss) ns = fall_of ss ns
