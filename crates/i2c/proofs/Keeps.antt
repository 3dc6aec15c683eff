-- Every sample keeps the ranges, and what it writes lies within the memory. Assumes nothing.
use Prim.Native.Nat.{ℕ, ◌+◌, ◌<◌, ◌≤◌, ◌^◌}
use mathlib.Core.Path.{◌≡◌, refl, ◌∙◌}
use mathlib.Core.Bool.{Bool, true, false, cond}
use mathlib.Core.List.{List}
use native.Mathlib.Omega.{arith}
use lib.Dec.{ltb}
use lib.ListN.{length}
use borrow.Author.Tests.{ltb-true}
use Rattle.parts.specs.declared.part.Part.{Part}
use Rattle.std.specs.Prelude.{None}
use Rattle.serial.specs.Address.{next_address}
use Rattle.serial.specs.Bits.{shifted}
use Rattle.serial.specs.Write.{applied, Within}
use Rattle.serial.proofs.AddressLaws.{next_within}
use Rattle.serial.proofs.BitLaws.{shifted_within}
use Rattle.serial.proofs.WriteLaws.{length_applied}
use Rattle.transfer.specs.declared.buffer.AddressBuffer.{AddressBuffer}
use Rattle.transfer.specs.declared.edge.Edge.{Edge}
use Rattle.transfer.specs.declared.edge.Edge.TheVariants.{Start, Stop, Rise, Fall, Quiet}
use Rattle.transfer.specs.declared.levels.Levels.{Levels}
use Rattle.transfer.specs.declared.phase.Field.{Field}
use Rattle.transfer.specs.declared.phase.Field.TheVariants.{Word, HighByte, LowByte, Data}
use Rattle.transfer.specs.declared.phase.Phase.{Phase}
use Rattle.transfer.specs.declared.phase.Phase.TheVariants.{Rest, Ignoring, Taking, Sending}
use Rattle.i2c.specs.declared.sample.I2c.{I2c}
use Rattle.transfer.specs.declared.word.DeviceWord.{DeviceWord}
use Rattle.transfer.specs.declared.word.DeviceWord.TheVariants.{ReadWord, WriteWord, OtherWord}
use Rattle.transfer.specs.Edge.{edge_of}
use Rattle.transfer.specs.Phase.{phase_after_word, phase_after_byte, after_rise}
use Rattle.transfer.specs.Ranges.{FieldIn, PhaseIn, Placed}
use Rattle.i2c.specs.Sample.{step_on, step_of, Ready}
use Rattle.i2c.specs.Store.{field_write, rise_write}
use Rattle.transfer.specs.Word.{word_of}
use Rattle.transfer.proofs.BufferLaws.{address_within, read_within, buffer_within}

-- the numbers of a byte with none of its bits yet
none_in : 0 ≤ 8
none_in = omega arith

no_bits : 0 < 2 ^ 0
no_bits = omega arith

-- the phase after a rise of SCL is in its ranges
module _ (p : Part) (pins : ℕ) (b : AddressBuffer) (d : Placed p pins b) where
  after_word_in : (w : DeviceWord) → PhaseIn p (phase_after_word p b w)
  after_word_in (ReadWord a16) = (read_within p b a16 d.fit d.buffered, none_in)
  after_word_in (WriteWord a16) = (tt, none_in, no_bits)
  after_word_in OtherWord = tt

  after_byte_in : (f : Field) (v : ℕ) → PhaseIn p (phase_after_byte p pins b f v)
  after_byte_in Word v = after_word_in (word_of p pins v)
  after_byte_in (HighByte a16) v = (tt, none_in, no_bits)
  after_byte_in (LowByte a16 high) v = (address_within p a16 high v d.fit, none_in, no_bits)
  after_byte_in (Data a) v = (next_within p.size a d.fit.positive, none_in, no_bits)

  rise_in : (ph : Phase) (line : Bool) → PhaseIn p ph → PhaseIn p (after_rise p pins b ph line)
  rise_in Rest line i = tt
  rise_in Ignoring line i = tt
  rise_in (Taking f n v) line (g, l, h) = by (ltb n 8) refl
    where
      by : (t : Bool) → ltb n 8 ≡ t → PhaseIn p (cond t (Taking f (n + 1) (shifted v line)) (phase_after_byte p pins b f v))
      by true e = (g, omega (arith, ltb-true n 8 e), shifted_within n v line h)
      by false e = after_byte_in f v
  rise_in (Sending a n) line (h, l) = by (ltb n 8) line refl
    where
      by : (t u : Bool) → ltb n 8 ≡ t → PhaseIn p (cond t (Sending a (n + 1)) (cond u Ignoring (Sending (next_address p.size a) 0)))
      by true u e = (h, omega (arith, ltb-true n 8 e))
      by false true e = tt
      by false false e = (next_within p.size a d.fit.positive, none_in)

-- what a rise of SCL writes lies within the part
pub rise_write_within : (p : Part) (ph : Phase) (wp : Bool) → PhaseIn p ph → Within p.size (rise_write ph wp)
rise_write_within p Rest wp i = tt
rise_write_within p Ignoring wp i = tt
rise_write_within p (Taking f n v) wp i = by (ltb n 8)
  where
    byte : (x : Field) (w : Bool) → FieldIn p x → Within p.size (field_write x v w)
    byte Word w g = tt
    byte (HighByte a16) w g = tt
    byte (LowByte a16 high) w g = tt
    byte (Data a) true g = tt
    byte (Data a) false g = g

    by : (t : Bool) → Within p.size (cond t None (field_write f v wp))
    by true = tt
    by false = byte f wp i.0
rise_write_within p (Sending a n) wp i = tt

-- one sample, edge by edge
module _ (p : Part) (pins : ℕ) (s : I2c) (l : Levels) (m : List ℕ) (r : Ready p pins s m) where
  on_edge : (e : Edge) → Ready p pins (step_on e p pins s l m).i2c (applied (step_on e p pins s l m).write m)
  on_edge Start = record { placed = r.placed; inside = (tt, none_in, no_bits); sized = r.sized }
  on_edge Stop = record { placed = r.placed; inside = tt; sized = r.sized }
  on_edge (Rise line) =
      let d = r.placed in
      record {
        placed = record { fit = d.fit; wired = d.wired; buffered = buffer_within p s.buffer d.fit d.buffered s.phase r.inside };
        inside = rise_in p pins s.buffer d s.phase line r.inside;
        sized = length_applied (rise_write s.phase l.wp) m ∙ r.sized;
      }
  on_edge Fall = record { placed = r.placed; inside = r.inside; sized = r.sized }
  on_edge Quiet = record { placed = r.placed; inside = r.inside; sized = r.sized }

  written : (e : Edge) → Within (length m) (step_on e p pins s l m).write
  written Start = tt
  written Stop = tt
  written (Rise line) = rw r.sized (rise_write_within p s.phase l.wp r.inside)
  written Fall = tt
  written Quiet = tt

-- a state in its ranges stays in them, and the memory keeps its length
pub keeps : (p : Part) (pins : ℕ) (s : I2c) (l : Levels) (m : List ℕ) → Ready p pins s m → Ready p pins (step_of p pins s l m).i2c (applied (step_of p pins s l m).write m)
unfolding step_of
keeps p pins s l m r = on_edge p pins s l m r (edge_of s.pulling s.last l)

-- what a sample writes has an address of the memory
pub write_within : (p : Part) (pins : ℕ) (s : I2c) (l : Levels) (m : List ℕ) → Ready p pins s m → Within (length m) (step_of p pins s l m).write
unfolding step_of
write_within p pins s l m r = written p pins s l m r (edge_of s.pulling s.last l)
