-- A rise before the ninth of an I2C part's byte, on the fields of its phase: it only adds a bit. By the phase. Assumes nothing.
use Prim.Native.Nat.{ℕ, ◌+◌, ◌<◌}
use mathlib.Core.Path.{◌≡◌, refl, sym, ap, ◌∙◌}
use mathlib.Core.Bool.{Bool}
use native.Mathlib.Omega.{arith}
use Rattle.parts.specs.declared.part.Part.{Part}
use Rattle.std.specs.Prelude.{None}
use Rattle.serial.specs.Bits.{shifted}
use Rattle.transfer.specs.declared.buffer.AddressBuffer.{AddressBuffer}
use Rattle.transfer.specs.declared.phase.Field.{Field}
use Rattle.transfer.specs.declared.phase.Field.TheVariants.{Word, HighByte, LowByte, Data}
use Rattle.transfer.specs.declared.phase.Phase.{Phase}
use Rattle.transfer.specs.declared.phase.Phase.TheVariants.{Rest, Ignoring, Taking, Sending}
use Rattle.transfer.specs.Buffer.{buffer_after}
use Rattle.transfer.specs.Phase.{after_rise}
use Rattle.transfer.specs.Ranges.{PhaseIn}
use Rattle.i2c.specs.Store.{rise_write}
use Rattle.phase_bits.specs.Byte.{bits_of, value_of, with_bits}
use Rattle.phase_bits.proofs.ByteLaws.{same_bits_lem, one_more_lem, none_written, buffer_stays, value_small, room_for_one}
use Rattle.image_fields.specs.declared.fields.PhaseFields.{PhaseFields}
use Rattle.image_fields.specs.I2cPhase.{taking_fields, fields_of, phase_in}
use Rattle.image_sample.specs.Bits.{one_more}

-- what is known of a phase that has these fields
record Bits (ph : Phase) (x : PhaseFields) : Type 0 where
  count : bits_of ph ≡ x.count
  value : value_of ph ≡ x.value
  more : (b : Bool) → fields_of (with_bits ph (bits_of ph + 1) (shifted (value_of ph) b)) ≡ one_more x b

taking_bits : (f : Field) (n v : ℕ) → Bits (Taking f n v) (taking_fields f n v)
taking_bits Word n v = record { count = refl; value = refl; more = λ b. refl }
taking_bits (HighByte a16) n v = record { count = refl; value = refl; more = λ b. refl }
taking_bits (LowByte a16 high) n v = record { count = refl; value = refl; more = λ b. refl }
taking_bits (Data a) n v = record { count = refl; value = refl; more = λ b. refl }

bits_in_lem : (ph : Phase) → Bits ph (fields_of ph)
bits_in_lem Rest = record { count = refl; value = refl; more = λ b. refl }
bits_in_lem Ignoring = record { count = refl; value = refl; more = λ b. refl }
bits_in_lem (Taking f n v) = taking_bits f n v
bits_in_lem (Sending a n) = record { count = refl; value = refl; more = λ b. refl }

-- fields that are those of the phase that they read as
module _ (x : PhaseFields) (same : fields_of (phase_in x) ≡ x) (l : x.count < 8) where
  bits : Bits (phase_in x) x
  bits = rw same at (bits_in_lem (phase_in x))

  few : bits_of (phase_in x) < 8
  few = rw bits.count l

  pub risen : (p : Part) (pins : ℕ) (a : AddressBuffer) (b : Bool) → one_more x b ≡ fields_of (after_rise p pins a (phase_in x) b)
  risen p pins a b =
      let e = rw (same_bits_lem (phase_in x)) at (one_more_lem (bits_of (phase_in x)) (value_of (phase_in x)) few p pins a b (phase_in x)) in
      sym (ap fields_of e ∙ bits.more b)

  pub unwritten : (wp : Bool) → rise_write (phase_in x) wp ≡ None
  unwritten wp = rw (same_bits_lem (phase_in x)) at (none_written (bits_of (phase_in x)) (value_of (phase_in x)) few wp (phase_in x))

  pub stays : (p : Part) (a : AddressBuffer) → buffer_after p a (phase_in x) ≡ a
  stays p a = rw (same_bits_lem (phase_in x)) at (buffer_stays (bits_of (phase_in x)) (value_of (phase_in x)) few p a (phase_in x))

  pub room : (p : Part) → PhaseIn p (phase_in x) → (x.count < 255) × (x.value < 2147483648)
  room p inside =
      let v = room_for_one (bits_of (phase_in x)) (value_of (phase_in x)) few (value_small p (phase_in x) inside) in
      (omega arith, rw bits.value at v)
