-- The flags of the bus rules are what the wires say: on SPI by the levels, on I2C because a part that the clocks of an open span led
-- does not rest. Assumes nothing.
use Prim.Native.Nat.{ℕ, ◌+◌}
use mathlib.Core.Path.{◌≡◌, refl, sym, ap, ◌∙◌}
use mathlib.Core.Bool.{Bool, true, false, cond, not, ◌&&◌, false≢true}
use mathlib.Core.List.{List, [], ◌∷◌}
use lib.Dec.{ltb}
use borrow.Author.Tests.{not-true}
use Rattle.parts.specs.declared.part.Part.{Part}
use Rattle.parts.proofs.Rows.{and_both}
use Rattle.serial.specs.Bits.{shifted}
use Rattle.serial.specs.Address.{next_address}
use Rattle.serial.specs.Level.{differ}
use Rattle.serial.proofs.LevelLaws.{apart, differs}
use Rattle.selection.specs.declared.levels.Levels as Spi
use Rattle.selection.specs.Flag as SpiFlag
use Rattle.transfer.specs.declared.buffer.AddressBuffer.{AddressBuffer}
use Rattle.transfer.specs.declared.levels.Levels.{Levels}
use Rattle.i2c.specs.declared.sample.I2c.{I2c}
use Rattle.transfer.specs.declared.phase.Field.{Field}
use Rattle.transfer.specs.declared.phase.Field.TheVariants.{Word, HighByte, LowByte, Data}
use Rattle.transfer.specs.declared.phase.Phase.{Phase}
use Rattle.transfer.specs.declared.phase.Phase.TheVariants.{Rest, Ignoring, Taking, Sending}
use Rattle.transfer.specs.declared.word.DeviceWord.{DeviceWord}
use Rattle.transfer.specs.declared.word.DeviceWord.TheVariants.{ReadWord, WriteWord, OtherWord}
use Rattle.transfer.specs.Flag as I2cFlag
use Rattle.transfer.specs.Flag.{between}
use Rattle.transfer.specs.Phase.{phase_after_word, phase_after_byte, after_rise}
use Rattle.transfer.specs.Word.{word_of}
use Rattle.ledger.specs.I2cLedger.{Clock, Item, idle, span, Wires}
use Rattle.ledger.specs.Flags.{Moves, Opened, MovesInSpan, Exactly}
use Rattle.ledger.proofs.I2cReads.{Place, after, clocked}
use Rattle.ledger.proofs.I2cFits.{Led, Good}

-- ---- SPI

pub spi_exactly : (a b : Spi.Levels) → Exactly (SpiFlag.flag_of a b) (Moves a b)
spi_exactly a b =
    record {
      set = λ w. rw (differs a.wp b.wp w.moved, w.selected_before, w.selected_now);
      only = λ f.
          let x = and_both (differ a.wp b.wp) (not a.cs && not b.cs) f in
          let y = and_both (not a.cs) (not b.cs) x.1 in
          record { selected_before = not-true a.cs y.0; selected_now = not-true b.cs y.1; moved = apart a.wp b.wp x.0 };
    }

-- ---- I2C: a rise leaves a part that lies between START and STOP there

module _ (p : Part) (pins : ℕ) (b : AddressBuffer) where
  word_between : (w : DeviceWord) → between (phase_after_word p b w) ≡ true
  word_between (ReadWord a16) = refl
  word_between (WriteWord a16) = refl
  word_between OtherWord = refl

  byte_between : (f : Field) (v : ℕ) → between (phase_after_byte p pins b f v) ≡ true
  byte_between Word v = word_between (word_of p pins v)
  byte_between (HighByte a16) v = refl
  byte_between (LowByte a16 high) v = refl
  byte_between (Data a) v = refl

  rise_between : (ph : Phase) (line : Bool) → between ph ≡ true → between (after_rise p pins b ph line) ≡ true
  rise_between Rest line h = absurd (false≢true h)
  rise_between Ignoring line h = refl
  rise_between (Taking f n v) line h = by (ltb n 8)
    where
      by : (y : Bool) → between (cond y (Taking f (n + 1) (shifted v line)) (phase_after_byte p pins b f v)) ≡ true
      by true = refl
      by false = byte_between f v
  rise_between (Sending a n) line h = by (ltb n 8) line
    where
      by : (y z : Bool) → between (cond y (Sending a (n + 1)) (cond z Ignoring (Sending (next_address p.size a) 0))) ≡ true
      by true z = refl
      by false true = refl
      by false false = refl

module _ (p : Part) (pins : ℕ) where
  clocks_between : (ks : List Clock) (ph : Phase) (b : AddressBuffer) → between ph ≡ true → between (after p pins ph b ks).phase ≡ true
  clocks_between [] ph b h = h
  clocks_between (k ∷ ks) ph b h =
      let o : Place = clocked p pins (record { phase = ph; buffer = b }) k in
      clocks_between ks o.phase o.buffer (rise_between p pins b ph k.line h)

  -- the part lies between START and STOP exactly where a span is open
  module _ (m₀ : List ℕ) (ph : Phase) (b : AddressBuffer) where
    opened_between : (is : List Item) → Led p pins m₀ ph b is → Opened is → between ph ≡ true
    opened_between [] j o = absurd o
    opened_between (idle ∷ is) j o = absurd o
    opened_between (span ks ∷ is) (b₀, e) o = ap (λ (x : Place). between x.phase) (sym e) ∙ clocks_between ks (Taking Word 0 0) b₀ refl

    between_opened : (is : List Item) → Led p pins m₀ ph b is → between ph ≡ true → Opened is
    between_opened [] j h = absurd (false≢true (sym (ap between j) ∙ h))
    between_opened (idle ∷ is) j h = absurd (false≢true (sym (ap between j) ∙ h))
    between_opened (span ks ∷ is) j h = tt

  pub i2c_exactly : (m₀ : List ℕ) (s : I2c) (m : List ℕ) (is : List Item) (w : Wires) (l : Levels) → Good p pins m₀ s m is w
      → Exactly (I2cFlag.flag_of s.phase s.last l) (MovesInSpan is w l)
  i2c_exactly m₀ s m is w l g =
      let e : w.wp ≡ s.last.wp = ap (λ (x : Wires). x.wp) g.wires_are in
      record {
        set = λ x. rw (differs s.last.wp l.wp (rw e at x.moved), opened_between m₀ s.phase s.buffer is g.led x.opened);
        only = λ f.
            let x = and_both (differ s.last.wp l.wp) (between s.phase) f in
            record { opened = between_opened m₀ s.phase s.buffer is g.led x.1; moved = rw e (apart s.last.wp l.wp x.0) };
      }
