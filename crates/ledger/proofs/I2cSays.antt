-- What the definition of the answers says, sentence by sentence: at each kind of event, and at a fall of SCL after the rises of a
-- span. From the definition. Assumes nothing.
use Prim.Native.Nat.{ℕ}
use mathlib.Core.Path.{◌≡◌, refl}
use mathlib.Core.Bool.{Bool, true, false}
use mathlib.Core.List.{List, [], ◌∷◌}
use native.Mathlib.Omega.{arith}
use Rattle.parts.specs.declared.part.Part.{Part}
use Rattle.trace.specs.declared.event.Event.TheVariants.{I2cPowerOn, PowerOff, Sample, Expected}
use Rattle.transfer.specs.declared.buffer.AddressBuffer.{AddressBuffer}
use Rattle.transfer.specs.declared.edge.Edge.TheVariants.{Start, Stop, Fall}
use Rattle.transfer.specs.declared.word.DeviceWord.TheVariants.{WriteWord, OtherWord}
use Rattle.transfer.specs.declared.levels.Levels.{Levels}
use Rattle.transfer.specs.Edge.{edge_on, edge_of}
use Rattle.transfer.specs.Levels.{levels_of}
use Rattle.i2c.specs.Pull.{ours}
use Rattle.ledger.specs.Word.{word_in}
use Rattle.ledger.specs.History.{Entry}
use Rattle.ledger.specs.I2cLedger.{Clock, Byte, bytes, unfinished, wires_at, edge_between, last_wires, items}
use Rattle.ledger.specs.I2cAnswers.{eighth, after_rises, fall_in, pulls_since, memory_now, buffer_before, pulls, pull_answer, present_answer, i2c_answer}

module _ (p : Part) (pins : ℕ) (first : List ℕ) (h : List Entry) where
  -- an event after the history h, whatever answer it is entered with
  abbrev to : Entry → ℕ
  to e = i2c_answer p pins first (e ∷ h)

  -- nothing is driven at either power event
  pub power_on_two : (x a answer : ℕ) → to (record { event = I2cPowerOn x a; answer = answer }) ≡ 2
  power_on_two x a answer = refl

  pub power_off_two : (answer : ℕ) → to (record { event = PowerOff; answer = answer }) ≡ 2
  power_off_two answer = refl

  -- an expected answer is answered as the event before it was
  pub expected_present : (v answer : ℕ) → to (record { event = Expected v; answer = answer }) ≡ pull_answer (pulls p pins first h)
  expected_present v answer = refl

  -- START and STOP release the line
  pub start_two : (x answer : ℕ) → edge_between (last_wires h) (wires_at (levels_of x) (present_answer h)) ≡ Start
      → to (record { event = Sample x; answer = answer }) ≡ 2
  start_two x answer e = rw e

  pub stop_two : (x answer : ℕ) → edge_between (last_wires h) (wires_at (levels_of x) (present_answer h)) ≡ Stop
      → to (record { event = Sample x; answer = answer }) ≡ 2
  stop_two x answer e = rw e

  -- at a fall of SCL the part does what the rises of the open span say
  pub fall_pulls : (x answer : ℕ) → edge_between (last_wires h) (wires_at (levels_of x) (present_answer h)) ≡ Fall
      → to (record { event = Sample x; answer = answer })
      ≡ pull_answer (pulls_since p pins (memory_now p pins first h) (buffer_before p pins h) (fall_in (items h)))
  fall_pulls x answer e = rw e

-- while the part pulls the line is low at both samples: START and STOP find it released
pub no_turn_pulled : (a b : Levels) → (edge_of true a b ≡ Start → ⊥) × (edge_of true a b ≡ Stop → ⊥)
no_turn_pulled a b = by a.scl b.scl
  where
    by : (x y : Bool) → (edge_on x y false false ≡ Start → ⊥) × (edge_on x y false false ≡ Stop → ⊥)
    by true true = (λ q. let z : ◌≡◌ {A = ℕ} 0 1 = cc in omega arith, λ q. let z : ◌≡◌ {A = ℕ} 0 1 = cc in omega arith)
    by true false = (λ q. let z : ◌≡◌ {A = ℕ} 0 1 = cc in omega arith, λ q. let z : ◌≡◌ {A = ℕ} 0 1 = cc in omega arith)
    by false true = (λ q. let z : ◌≡◌ {A = ℕ} 0 1 = cc in omega arith, λ q. let z : ◌≡◌ {A = ℕ} 0 1 = cc in omega arith)
    by false false = (λ q. let z : ◌≡◌ {A = ℕ} 0 1 = cc in omega arith, λ q. let z : ◌≡◌ {A = ℕ} 0 1 = cc in omega arith)

-- after the rises ks of a span
module _ (p : Part) (pins : ℕ) (m : List ℕ) (b : AddressBuffer) (ks : List Clock) where
  abbrev pulled : Bool
  pulled = pulls_since p pins m b (after_rises ks)

  -- the first byte is acknowledged after its eighth rise if it is an own word
  pub word_acknowledged : bytes ks ≡ [] → eighth (unfinished ks) ≡ true → pulled ≡ ours (word_in p pins (unfinished ks))
  word_acknowledged n e = rw (n, e)

  -- before it nothing is pulled
  pub word_waits : bytes ks ≡ [] → eighth (unfinished ks) ≡ false → pulled ≡ false
  word_waits n e = rw (n, e)

  -- after an own write word every byte is acknowledged after its eighth rise, and nothing else is pulled
  pub write_acknowledges : (word : Byte) (vs : List Byte) (a16 : Bool) → bytes ks ≡ word ∷ vs → word_in p pins word.bits ≡ WriteWord a16
      → pulled ≡ eighth (unfinished ks)
  write_acknowledges word vs a16 n w = rw (n, w)

  -- after another word nothing is pulled
  pub other_waits : (word : Byte) (vs : List Byte) → bytes ks ≡ word ∷ vs → word_in p pins word.bits ≡ OtherWord → pulled ≡ false
  other_waits word vs n w = rw (n, w)
