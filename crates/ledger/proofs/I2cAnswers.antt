-- Every sample keeps phase, address buffer and pull as the spans of the history say, and so answers what they say. From where the
-- clocks of a span lead, and from the edge being the one that the wires show. Assumes nothing.
use Prim.Native.Nat.{ℕ, ◌<◌}
use mathlib.Core.Path.{◌≡◌, refl, sym, ap, ◌∙◌}
use mathlib.Core.Bool.{Bool, true, false}
use mathlib.Core.List.{List, [], ◌∷◌, ◌++◌, append-nil, append_assoc}
use Rattle.parts.specs.declared.part.Part.{Part}
use Rattle.parts.specs.Numbers.{answer_number}
use Rattle.transfer.specs.declared.buffer.AddressBuffer.{AddressBuffer}
use Rattle.transfer.specs.declared.edge.Edge.{Edge}
use Rattle.transfer.specs.declared.edge.Edge.TheVariants.{Start, Stop, Rise, Fall, Quiet}
use Rattle.transfer.specs.declared.levels.Levels.{Levels}
use Rattle.transfer.specs.declared.phase.Field.TheVariants.{Word}
use Rattle.transfer.specs.declared.phase.Phase.{Phase}
use Rattle.transfer.specs.declared.phase.Phase.TheVariants.{Rest, Taking}
use Rattle.i2c.specs.declared.sample.I2c.{I2c}
use Rattle.transfer.specs.Buffer.{buffer_after}
use Rattle.transfer.specs.Edge.{edge_of}
use Rattle.transfer.specs.Phase.{after_rise}
use Rattle.i2c.specs.Pull.{pulls_after}
use Rattle.i2c.specs.Sample.{Outcome, answer_of, step_on, step_of}
use Rattle.ledger.specs.Stores.{stored}
use Rattle.ledger.specs.I2cLedger.{Clock, Item, idle, span, with_clock, items_on_edge, Wires, wires_at, edge_between, writes}
use Rattle.ledger.specs.I2cAnswers.{unused_at, open_buffer, carried, LastFall, no_fall, after_rises, fall_in, fall_on, pulls_since, pull_answer}
use Rattle.ledger.proofs.StoreLaws.{stored_append}
use Rattle.ledger.specs.Word.{Wired}
use Rattle.ledger.proofs.I2cReads.{Place, after, after_more}
use Rattle.ledger.proofs.I2cShows.{span_told, pull_same}
use Rattle.ledger.proofs.I2cFits.{line_is, answer_is, same_edge, Good}

-- the edge is also the one of the wires with the pull from before at both samples
held_edge : (s : I2c) (l : Levels)
    → let a : ℕ = answer_number (answer_of s.pulling) in edge_between (wires_at s.last a) (wires_at l a) ≡ edge_of s.pulling s.last l
held_edge s l = rw (line_is s.last, line_is l)

pub pull_number : (y : Bool) → answer_number (answer_of y) ≡ pull_answer y
pull_number true = refl
pull_number false = refl

-- the last fall is one of the open span
abbrev pub Within : List Item → LastFall → Type 0
Within is no_fall = Unit {0}
Within [] (after_rises js) = ⊥
Within (idle ∷ is) (after_rises js) = ⊥
Within (span ks ∷ is) (after_rises js) = (more : List Clock) × ks ≡ js ++ more

-- the items before the open span
abbrev earlier : List Item → List Item
earlier [] = []
earlier (idle ∷ is) = is
earlier (span ks ∷ is) = is

within_more : (k : Clock) (is : List Item) (f : LastFall) → Within is f → Within (with_clock k is) f
within_more k is no_fall i = tt
within_more k [] (after_rises js) i = absurd i
within_more k (idle ∷ is) (after_rises js) i = absurd i
within_more k (span ks ∷ is) (after_rises js) (more, e) = (more ++ (k ∷ []), rw (e, append_assoc))

within_now : (is : List Item) → Within is (fall_in is)
within_now [] = tt
within_now (idle ∷ is) = tt
within_now (span ks ∷ is) = ([], sym (append-nil ks))

module _ (p : Part) (pins : ℕ) (m₀ : List ℕ) where
  -- phase and buffer are those that the clocks of the open span lead to from the buffer c; with no span the part rests
  abbrev pub LedFrom : Phase → AddressBuffer → AddressBuffer → List Item → Type 0
  LedFrom ph b c [] = (ph ≡ Rest) × (b ≡ c)
  LedFrom ph b c (idle ∷ is) = (ph ≡ Rest) × (b ≡ c)
  LedFrom ph b c (span ks ∷ is) = after p pins (Taking Word 0 0) c ks ≡ record { phase = ph; buffer = b }

  pub record Shows (s : I2c) (is : List Item) (c : AddressBuffer) (f : LastFall) : Type 0 where
    pub led : LedFrom s.phase s.buffer c is
    pub within : Within is f
    pub pulling_is : s.pulling ≡ pulls_since p pins (stored m₀ (writes p pins is)) c f

  module _ (wired : Wired p pins) where
    -- the buffer is the one that the open span has left
    pub buffer_is : (ph : Phase) (b c : AddressBuffer) (is : List Item) → LedFrom ph b c is → b ≡ open_buffer p pins c is
    buffer_is ph b c [] i = i.1
    buffer_is ph b c (idle ∷ is) i = i.1
    buffer_is ph b c (span ks ∷ is) i = sym (ap (λ (o : Place). o.buffer) i) ∙ (span_told p pins [] wired c ks).buffer_is

    -- so an address within the part stays within it
    pub carried_inside : (e : Edge) (ph : Phase) (b c : AddressBuffer) (is : List Item) → LedFrom ph b c is → b.address < p.size
        → c.address < p.size → (carried e p pins c is).address < p.size
    carried_inside Start ph b c is i h k = rw (← buffer_is ph b c is i) h
    carried_inside Stop ph b c is i h k = rw (← buffer_is ph b c is i) h
    carried_inside (Rise line) ph b c is i h k = k
    carried_inside Fall ph b c is i h k = k
    carried_inside Quiet ph b c is i h k = k

    -- what the open span writes does not change what it pulls
    pull_earlier : (c : AddressBuffer) (is : List Item) (f : LastFall) → Within is f
        → pulls_since p pins (stored m₀ (writes p pins is)) c f ≡ pulls_since p pins (stored m₀ (writes p pins (earlier is))) c f
    pull_earlier c is no_fall i = refl
    pull_earlier c [] (after_rises js) i = absurd i
    pull_earlier c (idle ∷ is) (after_rises js) i = absurd i
    pull_earlier c (span ks ∷ is) (after_rises js) (more, e) = rw (e, stored_append) (pull_same p pins (stored m₀ (writes p pins is)) c js more)

    earlier_more : (k : Clock) (is : List Item) → earlier (with_clock k is) ≡ earlier is
    earlier_more k [] = refl
    earlier_more k (idle ∷ is) = refl
    earlier_more k (span ks ∷ is) = refl

    rise_pull : (c : AddressBuffer) (k : Clock) (is : List Item) (f : LastFall) → Within is f
        → pulls_since p pins (stored m₀ (writes p pins is)) c f ≡ pulls_since p pins (stored m₀ (writes p pins (with_clock k is))) c f
    rise_pull c k is f i =
        pull_earlier c is f i
        ∙ sym (pull_earlier c (with_clock k is) f (within_more k is f i)
        ∙ ap (λ (js : List Item). pulls_since p pins (stored m₀ (writes p pins js)) c f) (earlier_more k is))

    rise_led : (ph : Phase) (b c : AddressBuffer) (k : Clock) (is : List Item) → LedFrom ph b c is
        → LedFrom (after_rise p pins b ph k.line) (buffer_after p b ph) c (with_clock k is)
    rise_led ph b c k [] (i, j) = rw (i, j) (refl, refl)
    rise_led ph b c k (idle ∷ is) (i, j) = rw (i, j) (refl, refl)
    rise_led ph b c k (span ks ∷ is) i = rw (after_more, i)

    -- after a fall the part does what the whole bytes and the byte begun say
    fall_pull : (ph : Phase) (b c : AddressBuffer) (m : List ℕ) (is : List Item) → LedFrom ph b c is
        → pulls_after p pins m ph ≡ pulls_since p pins m c (fall_in is)
    fall_pull ph b c m [] (i, j) = rw i
    fall_pull ph b c m (idle ∷ is) (i, j) = rw i
    fall_pull ph b c m (span ks ∷ is) i = sym (ap (λ (o : Place). pulls_after p pins m o.phase) i) ∙ (span_told p pins m wired c ks).pull_is

    -- one sample, edge by edge
    module _ (s : I2c) (l : Levels) (m : List ℕ) (is : List Item) (c : AddressBuffer) (f : LastFall)
        (i : m ≡ stored m₀ (writes p pins is)) (g : Shows s is c f) where
      on_edge : (e : Edge) → Shows (step_on e p pins s l m).i2c (items_on_edge e l.wp is) (carried e p pins c is) (fall_on e is f)
      on_edge Start = record { led = rw (buffer_is s.phase s.buffer c is g.led); within = tt; pulling_is = refl }
      on_edge Stop = record { led = (refl, buffer_is s.phase s.buffer c is g.led); within = tt; pulling_is = refl }
      on_edge (Rise line) =
          let k : Clock = record { line = line; wp = l.wp } in
          record {
            led = rise_led s.phase s.buffer c k is g.led;
            within = within_more k is f g.within;
            pulling_is = g.pulling_is ∙ rise_pull c k is f g.within;
          }
      on_edge Fall =
          record { led = g.led; within = within_now is; pulling_is = rw (← i) (fall_pull s.phase s.buffer c m is g.led) }
      on_edge Quiet = record { led = g.led; within = g.within; pulling_is = g.pulling_is }

      edge_answer : (e : Edge)
          → answer_number (step_on e p pins s l m).answer
          ≡ pull_answer (pulls_since p pins (stored m₀ (writes p pins (items_on_edge e l.wp is))) (carried e p pins c is) (fall_on e is f))
      edge_answer e = rw (answer_is p pins m e s l, pull_number, ← (on_edge e).pulling_is)

    -- a sample keeps it, with its answer
    pub sample_shows : (s : I2c) (l : Levels) (m : List ℕ) (is : List Item) (w : Wires) (c : AddressBuffer) (f : LastFall)
        → Good p pins m₀ s m is w → Shows s is c f
        → let o : Outcome = step_of p pins s l m in
        let e : Edge = edge_between w (wires_at l (answer_number o.answer)) in
        Shows o.i2c (items_on_edge e l.wp is) (carried e p pins c is) (fall_on e is f)
    unfolding step_of
    sample_shows s l m is w c f g h =
        rw (g.wires_are, same_edge p pins m s l) (on_edge s l m is c f g.memory_is h (edge_of s.pulling s.last l))

    -- and its answer is what the history says, read with the answer from before
    pub sample_answer : (s : I2c) (l : Levels) (m : List ℕ) (is : List Item) (w : Wires) (c : AddressBuffer) (f : LastFall)
        → Good p pins m₀ s m is w → Shows s is c f
        → let e : Edge = edge_between w (wires_at l (answer_number (answer_of s.pulling))) in
        answer_number (step_of p pins s l m).answer
        ≡ pull_answer (pulls_since p pins (stored m₀ (writes p pins (items_on_edge e l.wp is))) (carried e p pins c is) (fall_on e is f))
    unfolding step_of
    sample_answer s l m is w c f g h =
        rw (g.wires_are, held_edge s l) (edge_answer s l m is c f g.memory_is h (edge_of s.pulling s.last l))

    -- the answer tells of the pull then
    pub step_answer : (s : I2c) (l : Levels) (m : List ℕ)
        → answer_number (step_of p pins s l m).answer ≡ answer_number (answer_of (step_of p pins s l m).i2c.pulling)
    unfolding step_of
    step_answer s l m = ap answer_number (answer_is p pins m (edge_of s.pulling s.last l) s l)

    -- power on
    pub power_shows : (l : Levels) (a : ℕ) (is : List Item)
        → Shows (record { last = l; pulling = false; buffer = unused_at a; phase = Rest }) (idle ∷ is) (unused_at a) no_fall
    power_shows l a is = record { led = (refl, refl); within = tt; pulling_is = refl }
