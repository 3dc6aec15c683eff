-- Every sample keeps the model and the ledger in agreement: they see the same edge, and what a clock writes is what the ledger
-- reads off its span. Assumes nothing.
use Prim.Native.Nat.{ℕ}
use mathlib.Core.Path.{◌≡◌, refl}
use mathlib.Core.Bool.{Bool, true, false}
use mathlib.Core.List.{List, [], ◌∷◌, ◌++◌, append-nil, append_assoc}
use Rattle.parts.specs.declared.part.Part.{Part}
use Rattle.parts.specs.Numbers.{answer_number}
use Rattle.serial.specs.Write.{applied}
use Rattle.transfer.specs.declared.buffer.AddressBuffer.{AddressBuffer}
use Rattle.transfer.specs.declared.edge.Edge.{Edge}
use Rattle.transfer.specs.declared.edge.Edge.TheVariants.{Start, Stop, Rise, Fall, Quiet}
use Rattle.transfer.specs.declared.levels.Levels.{Levels}
use Rattle.transfer.specs.declared.phase.Field.TheVariants.{Word}
use Rattle.transfer.specs.declared.phase.Phase.{Phase}
use Rattle.transfer.specs.declared.phase.Phase.TheVariants.{Rest, Taking}
use Rattle.i2c.specs.declared.sample.I2c.{I2c}
use Rattle.transfer.specs.Edge.{line_of, edge_on, edge_of}
use Rattle.i2c.specs.Sample.{Outcome, answer_of, step_on, step_of}
use Rattle.transfer.specs.Buffer.{buffer_after}
use Rattle.transfer.specs.Phase.{after_rise}
use Rattle.i2c.specs.Store.{rise_write}
use Rattle.ledger.specs.Stores.{stored}
use Rattle.ledger.specs.I2cLedger.{Clock, Item, idle, span, with_clock, items_on_edge, Wires, wires_at, edge_between, writes}
use Rattle.ledger.proofs.StoreLaws.{stored_append, applied_stored}
use Rattle.ledger.specs.Word.{Wired}
use Rattle.ledger.proofs.I2cReads.{after, after_more, wrote_more, span_wrote}

-- ---- the edge that the part goes by is the one that the wires show

-- the wires' line is the part's, where the answer tells of its pull
pub line_is : (l : Levels) (pulling : Bool) → (wires_at l (answer_number (answer_of pulling))).line ≡ line_of l.sda pulling
line_is l pulling = by l.sda pulling
  where
    by : (x q : Bool) → (wires_at (record { scl = l.scl; sda = x; wp = l.wp }) (answer_number (answer_of q))).line ≡ line_of x q
    by true true = refl
    by true false = refl
    by false true = refl
    by false false = refl

module _ (p : Part) (pins : ℕ) (m : List ℕ) where
  -- an answer tells of the pull after its sample
  pub answer_is : (e : Edge) (s : I2c) (l : Levels) → (step_on e p pins s l m).answer ≡ answer_of (step_on e p pins s l m).i2c.pulling
  answer_is Start s l = refl
  answer_is Stop s l = refl
  answer_is (Rise line) s l = refl
  answer_is Fall s l = refl
  answer_is Quiet s l = refl

  -- by SCL before and now, the pull, and SDA before and now: with SCL high in both samples the pull does not change unless at a
  -- START or STOP, which a part that pulls does not see; on a rise it does not change; with SCL low now the line does not matter
  same_pull : (a c q x y v w : Bool) (b : AddressBuffer) (ph : Phase)
      → let s : I2c = record { last = record { scl = a; sda = x; wp = v }; pulling = q; buffer = b; phase = ph } in
      let l : Levels = record { scl = c; sda = y; wp = w } in
      edge_on a c (line_of x q) (line_of y (step_on (edge_of q s.last l) p pins s l m).i2c.pulling) ≡ edge_of q s.last l
  same_pull true true true x y v w b ph = refl
  same_pull true true false true true v w b ph = refl
  same_pull true true false true false v w b ph = refl
  same_pull true true false false true v w b ph = refl
  same_pull true true false false false v w b ph = refl
  same_pull true false q x y v w b ph = refl
  same_pull false true q x y v w b ph = refl
  same_pull false false q x y v w b ph = refl

  pub same_edge : (s : I2c) (l : Levels)
      → let e : Edge = edge_of s.pulling s.last l in
      edge_between (wires_at s.last (answer_number (answer_of s.pulling))) (wires_at l (answer_number (step_on e p pins s l m).answer)) ≡ e
  same_edge s l =
      rw (answer_is (edge_of s.pulling s.last l) s l, line_is s.last, line_is l)
      (same_pull s.last.scl l.scl s.pulling s.last.sda l.sda s.last.wp l.wp s.buffer s.phase)

-- ---- agreement

module _ (p : Part) (pins : ℕ) (m₀ : List ℕ) where
  -- the phase and the buffer are those that the clocks of the open span lead to from some buffer; with no span the part rests
  abbrev pub Led : Phase → AddressBuffer → List Item → Type 0
  Led ph b [] = ph ≡ Rest
  Led ph b (idle ∷ is) = ph ≡ Rest
  Led ph b (span ks ∷ is) = (b₀ : AddressBuffer) × after p pins (Taking Word 0 0) b₀ ks ≡ record { phase = ph; buffer = b }

  pub record Good (s : I2c) (m : List ℕ) (is : List Item) (w : Wires) : Type 0 where
    pub memory_is : m ≡ stored m₀ (writes p pins is)
    pub led : Led s.phase s.buffer is
    pub wires_are : w ≡ wires_at s.last (answer_number (answer_of s.pulling))

  -- a rise of SCL
  module _ (wired : Wired p pins) (ph : Phase) (b : AddressBuffer) (m : List ℕ) (k : Clock) where
    rise_memory : (is : List Item) → Led ph b is → m ≡ stored m₀ (writes p pins is)
        → applied (rise_write ph k.wp) m ≡ stored m₀ (writes p pins (with_clock k is))
    rise_memory [] i e = rw i e
    rise_memory (idle ∷ is) i e = rw i e
    rise_memory (span ks ∷ is) (b₀, f) e =
        rw (← span_wrote p pins wired b₀ (ks ++ (k ∷ [])), wrote_more, f, ← append_assoc, stored_append, span_wrote p pins wired, ← e)
        (applied_stored (rise_write ph k.wp) m)

    rise_led : (is : List Item) → Led ph b is → Led (after_rise p pins b ph k.line) (buffer_after p b ph) (with_clock k is)
    rise_led [] i = rw i
    rise_led (idle ∷ is) i = rw i
    rise_led (span ks ∷ is) (b₀, e) = (b₀, rw (after_more, e))

  -- one sample, edge by edge
  module _ (wired : Wired p pins) (s : I2c) (l : Levels) (m : List ℕ) (is : List Item) (i : m ≡ stored m₀ (writes p pins is)) (j : Led s.phase s.buffer is) where
    on_edge : (e : Edge)
        → let o : Outcome = step_on e p pins s l m in
        Good o.i2c (applied o.write m) (items_on_edge e l.wp is) (wires_at l (answer_number o.answer))
    on_edge Start = record { memory_is = rw append-nil i; led = (s.buffer, refl); wires_are = refl }
    on_edge Stop = record { memory_is = i; led = refl; wires_are = refl }
    on_edge (Rise line) =
        let k : Clock = record { line = line; wp = l.wp } in
        record { memory_is = rise_memory wired s.phase s.buffer m k is j i; led = rise_led wired s.phase s.buffer m k is j; wires_are = refl }
    on_edge Fall = record { memory_is = i; led = j; wires_are = refl }
    on_edge Quiet = record { memory_is = i; led = j; wires_are = refl }

  pub sample_good : Wired p pins → (s : I2c) (l : Levels) (m : List ℕ) (is : List Item) (w : Wires) → Good s m is w
      → let o : Outcome = step_of p pins s l m in
      let w' : Wires = wires_at l (answer_number o.answer) in
      Good o.i2c (applied o.write m) (items_on_edge (edge_between w w') l.wp is) w'
  unfolding step_of
  sample_good wired s l m is w g =
      rw (g.wires_are, same_edge p pins m s l) (on_edge wired s l m is g.memory_is g.led (edge_of s.pulling s.last l))

  -- power on
  pub power_good : (l : Levels) (a : ℕ) (m : List ℕ) (is : List Item) → m ≡ stored m₀ (writes p pins is)
      → Good (record { last = l; pulling = false; buffer = record { address = a; used = false }; phase = Rest }) m (idle ∷ is) (wires_at l 2)
  power_good l a m is e = record { memory_is = e; led = refl; wires_are = refl }
