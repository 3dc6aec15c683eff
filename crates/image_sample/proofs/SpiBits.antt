-- A rise before the last bit of an SPI part's field or byte, on the fields of its phase: it only adds one. By the phase. Assumes
-- nothing.
use Prim.Native.Nat.{ℕ, ◌+◌, ◌<◌}
use mathlib.Core.Path.{◌≡◌, refl, sym, ap, ◌∙◌}
use mathlib.Core.Bool.{Bool, true, false, cond}
use native.Mathlib.Omega.{arith}
use Rattle.parts.specs.declared.part.Part.{Part}
use Rattle.parts.specs.declared.status.Status.{Status}
use Rattle.parts.specs.Table.{Fit}
use Rattle.std.specs.Prelude.{None}
use Rattle.serial.specs.Bits.{shifted}
use Rattle.selection.specs.declared.phase.Field.{Field}
use Rattle.selection.specs.declared.phase.Field.TheVariants.{Opcode, ReadAddress, FastAddress, WriteAddress, Dummy, Data, StatusByte}
use Rattle.selection.specs.declared.phase.Source.TheVariants.{Memory, Register, Identity}
use Rattle.selection.specs.declared.phase.Action.TheVariants.{SetLatch, ClearLatch, FallAsleep, WriteStatus}
use Rattle.selection.specs.declared.phase.Phase.{Phase}
use Rattle.selection.specs.declared.phase.Phase.TheVariants.{Rest, Ignoring, Taking, Showing, Waiting, Pending}
use Rattle.selection.specs.Phase.{after_rise}
use Rattle.selection.specs.Ranges.{PhaseIn}
use Rattle.spi.specs.Store.{rise_write, end_write}
use Rattle.phase_bits.specs.Field.{bits_of, value_of, ByteIn, early_of, with_bits}
use Rattle.phase_bits.proofs.FieldLaws.{not_eight, one_more_lem, none_written, value_small, early_few, room_for_one}
use Rattle.image_fields.specs.declared.fields.PhaseFields.{PhaseFields}
use Rattle.image_fields.specs.SpiPhase.{taking_fields, fields_of, phase_in}
use Rattle.image_sample.specs.Bits.{early_at, one_more}

-- what is known of a phase that has these fields
record Bits (p : Part) (ph : Phase) (x : PhaseFields) : Type 0 where
  count : bits_of ph ≡ x.count
  value : value_of ph ≡ x.value
  byte : ByteIn ph
  kept : with_bits ph (bits_of ph) (value_of ph) ≡ ph
  early : bits_of ph < early_of p ph
  more : (b : Bool) → fields_of (with_bits ph (bits_of ph + 1) (shifted (value_of ph) b)) ≡ one_more x b

module _ (p : Part) where
  -- a data byte, before its eighth bit
  data_bits : (a : ℕ) (w : Bool) (n v : ℕ) → n < 7 → Bits p (Taking (Data a w) n v) (taking_fields (Data a w) n v)
  data_bits a w n v h =
      record {
        count = refl;
        value = refl;
        byte = tt;
        kept = not_eight a n v w (omega arith);
        early = by p.late;
        more = λ b. ap fields_of (not_eight a (n + 1) (shifted v b) w (omega arith));
      }
    where
      by : (t : Bool) → n < cond t 8 7
      by true = omega arith
      by false = h

  taking_bits : (f : Field) (n v : ℕ) → (taking_fields f n v).count < early_at p (taking_fields f n v).tag → Bits p (Taking f n v) (taking_fields f n v)
  taking_bits Opcode n v h = record { count = refl; value = refl; byte = tt; kept = refl; early = h; more = λ b. refl }
  taking_bits ReadAddress n v h = record { count = refl; value = refl; byte = tt; kept = refl; early = h; more = λ b. refl }
  taking_bits FastAddress n v h = record { count = refl; value = refl; byte = tt; kept = refl; early = h; more = λ b. refl }
  taking_bits WriteAddress n v h = record { count = refl; value = refl; byte = tt; kept = refl; early = h; more = λ b. refl }
  taking_bits (Dummy a) n v h = record { count = refl; value = refl; byte = tt; kept = refl; early = h; more = λ b. refl }
  taking_bits (Data a w) n v h = data_bits a w n v h
  taking_bits StatusByte n v h = record { count = refl; value = refl; byte = tt; kept = refl; early = h; more = λ b. refl }

  bits_in_lem : (ph : Phase) → (fields_of ph).count < early_at p (fields_of ph).tag → Bits p ph (fields_of ph)
  bits_in_lem Rest h = record { count = refl; value = refl; byte = tt; kept = refl; early = h; more = λ b. refl }
  bits_in_lem Ignoring h = record { count = refl; value = refl; byte = tt; kept = refl; early = h; more = λ b. refl }
  bits_in_lem (Taking f n v) h = taking_bits f n v h
  bits_in_lem (Showing (Memory a) k) h = record { count = refl; value = refl; byte = tt; kept = refl; early = h; more = λ b. refl }
  bits_in_lem (Showing Register k) h = record { count = refl; value = refl; byte = tt; kept = refl; early = h; more = λ b. refl }
  bits_in_lem (Showing (Identity i) k) h = record { count = refl; value = refl; byte = tt; kept = refl; early = h; more = λ b. refl }
  bits_in_lem (Waiting SetLatch) h = record { count = refl; value = refl; byte = tt; kept = refl; early = h; more = λ b. refl }
  bits_in_lem (Waiting ClearLatch) h = record { count = refl; value = refl; byte = tt; kept = refl; early = h; more = λ b. refl }
  bits_in_lem (Waiting FallAsleep) h = record { count = refl; value = refl; byte = tt; kept = refl; early = h; more = λ b. refl }
  bits_in_lem (Waiting (WriteStatus v)) h = record { count = refl; value = refl; byte = tt; kept = refl; early = h; more = λ b. refl }
  bits_in_lem (Pending v a) h = absurd (omega arith)

-- only a data byte that waits is written as CS# rises, and its tag is the last
end_none : (p : Part) (st : Status) (ph : Phase) → (fields_of ph).tag < 0x34 → end_write p st ph ≡ None
end_none p st Rest h = refl
end_none p st Ignoring h = refl
end_none p st (Taking f n v) h = refl
end_none p st (Showing s k) h = refl
end_none p st (Waiting a) h = refl
end_none p st (Pending v a) h = absurd (omega arith)

pub end_unwritten : (p : Part) (st : Status) (x : PhaseFields) → fields_of (phase_in x) ≡ x → x.tag < 0x34 → end_write p st (phase_in x) ≡ None
end_unwritten p st x same h = end_none p st (phase_in x) (rw same h)

-- fields that are those of the phase that they read as
module _ (p : Part) (x : PhaseFields) (same : fields_of (phase_in x) ≡ x) (h : x.count < early_at p x.tag) where
  bits : Bits p (phase_in x) x
  bits = rw same at (bits_in_lem p (phase_in x) (rw same h))

  pub risen : (b : Bool) → one_more x b ≡ fields_of (after_rise p (phase_in x) b)
  risen b =
      let e = rw bits.kept at (one_more_lem p (bits_of (phase_in x)) (value_of (phase_in x)) b (phase_in x) bits.early) in
      sym (ap fields_of e ∙ bits.more b)

  pub unwritten : (st : Status) (b : Bool) → rise_write p st (phase_in x) b ≡ None
  unwritten st b =
      rw bits.kept at (none_written p (bits_of (phase_in x)) (value_of (phase_in x)) b st (phase_in x) bits.early)

  pub room : Fit p → PhaseIn p (phase_in x) → (x.count < 255) × (x.value < 2147483648)
  room fit inside =
      let few = early_few p fit (phase_in x) in
      let v = room_for_one p fit (phase_in x) _ _ bits.early (value_small p (phase_in x) inside bits.byte) in
      (omega (arith, bits.early, bits.count), rw bits.value at v)
