-- A selection as bytes is a fold of byte steps: on the pins it gives the state, memory and bytes that these give, for every SPI part under
-- power whose CS# was 1. From the step of one byte, by induction on the bytes. Assumes nothing.
use Prim.Native.Nat.{ℕ, zero, suc, ◌+◌, ◌*◌, ◌%◌, ◌^◌, ◌<◌}
use mathlib.Core.Path.{◌≡◌, refl, ap, ap₂, ◌∙◌}
use mathlib.Core.Bool.{Bool, true, false, cond, ◌&&◌}
use mathlib.Core.List.{List, [], ◌∷◌}
use native.Mathlib.Nat.{two-pow-succ}
use native.Mathlib.Omega.{arith}
use lib.Dec.{ltb}
use lib.ListN.{set}
use borrow.Author.Tests.{ltb-true}
use Rattle.parts.specs.declared.answer.Answer.TheVariants.{HighZ}
use Rattle.parts.specs.declared.part.Part.{Part}
use Rattle.parts.specs.declared.status.Status.{Status}
use Rattle.parts.specs.Numbers.{answer_number}
use Rattle.parts.specs.Status.{protected_start}
use Rattle.parts.specs.Table.{part_of}
use Rattle.std.specs.Prelude.{None}
use Rattle.serial.specs.Bits.{bit_at}
use Rattle.serial.specs.Write.{applied, write_at}
use Rattle.selection.specs.declared.opcode.Command.{Command}
use Rattle.selection.specs.declared.opcode.Command.TheVariants.{WREN, WRDI, RDSR, WRSR, READ, WRITE, FSTRD, RDID, SLEEP, Unknown}
use Rattle.selection.specs.declared.phase.Field.{Field}
use Rattle.selection.specs.declared.phase.Field.TheVariants.{Opcode, ReadAddress, FastAddress, WriteAddress, Dummy, Data, StatusByte}
use Rattle.selection.specs.declared.phase.Phase.{Phase}
use Rattle.selection.specs.declared.phase.Phase.TheVariants.{Rest, Ignoring, Taking, Showing, Waiting, Pending}
use Rattle.selection.specs.Opcode.{command_of}
use Rattle.selection.specs.Phase.{width, phase_after_opcode, data_after, phase_after_field}
use Rattle.spi_status.specs.Deselect.{status_after, asleep_after}
use Rattle.spi.specs.declared.sample.Spi.{Spi}
use Rattle.spi.specs.Sample.{selected, step_of}
use Rattle.spi.specs.Show.{after_fall}
use Rattle.spi.specs.Store.{end_write}
use Rattle.chip.specs.declared.model.BusState.TheVariants.{SpiOn}
use Rattle.chip.specs.declared.model.Model.{Model}
use Rattle.chip.specs.Model.{model_of}
use Rattle.byte_path.specs.PinPath.{sample_of, sampled, bits_of, Pins, clocked_all, answers_before, Back, back_of, bytes_taken, bytes_back, last_si, Selection, fallen, selection_of}
use Rattle.byte_path.specs.ByBytes.{AtBorder, phase_after_byte, byte_write, byte_back, phase_after_bytes, memory_after_bytes, back_after_bytes, end_levels, by_bytes}
use Rattle.byte_path.proofs.PinLaws as Pin
use Rattle.byte_path.proofs.PinLaws.{bits_taken, bits_answered}
use Rattle.byte_path.proofs.ByteLaws.{AllBytes, byte_stepped}

-- ---- a byte's border is kept

module _ (p : Part) (wide : 0 < p.width) where
  opcode_border : (k : Command) → AtBorder p (phase_after_opcode k)
  opcode_border WREN = tt
  opcode_border WRDI = tt
  opcode_border RDSR = refl
  opcode_border WRSR = (refl, omega arith, omega arith)
  opcode_border READ = (refl, wide, omega arith)
  opcode_border WRITE = (refl, wide, omega arith)
  opcode_border FSTRD = (refl, wide, omega arith)
  opcode_border RDID = refl
  opcode_border SLEEP = tt
  opcode_border Unknown = tt

  -- a whole field, of which n bits made w before its last byte v
  field_border : (f : Field) (n w v : ℕ) → v < 256 → n % 8 ≡ 0 → n < width p f → w < 2 ^ n → AtBorder p (phase_after_field p f (256 * w + v))
  field_border Opcode n w v h q l r = opcode_border (command_of p (256 * w + v))
  field_border ReadAddress n w v h q l r = refl
  field_border FastAddress n w v h q l r = (refl, omega arith, omega arith)
  field_border WriteAddress n w v h q l r = (refl, omega arith, omega arith)
  field_border (Dummy a) n w v h q l r = refl
  field_border (Data a y) n w v h q l r = by p.late refl
    where
      by : (t : Bool) → p.late ≡ t → AtBorder p (cond t (Pending (256 * w + v) a) (Taking (data_after p a) 0 0))
      by true late =
          let e : n ≡ 0 = omega arith in
          let k : w < 2 ^ 0 = rw e at r in
          (late, omega arith)
      by false late = (refl, omega arith, omega arith)
  field_border StatusByte n w v h q l r = tt

  pub eight_more : (n : ℕ) → 2 ^ (n + 8) ≡ 256 * 2 ^ n
  eight_more n =
      let e₁ = two-pow-succ n in
      let e₂ = two-pow-succ (suc n) in
      let e₃ = two-pow-succ (suc (suc n)) in
      let e₄ = two-pow-succ (suc (suc (suc n))) in
      let e₅ = two-pow-succ (suc (suc (suc (suc n)))) in
      let e₆ = two-pow-succ (suc (suc (suc (suc (suc n))))) in
      let e₇ = two-pow-succ (suc (suc (suc (suc (suc (suc n)))))) in
      let e₈ = two-pow-succ (suc (suc (suc (suc (suc (suc (suc n))))))) in
      let q : n + 8 ≡ suc (suc (suc (suc (suc (suc (suc (suc n))))))) = omega arith in
      rw q (omega arith)

  pub byte_border : (ph : Phase) (v : ℕ) → v < 256 → AtBorder p ph → AtBorder p (phase_after_byte p ph v)
  byte_border Rest v h b = tt
  byte_border Ignoring v h b = tt
  byte_border (Taking f n w) v h (q, l, r) = by (ltb (n + 8) (width p f)) refl
    where
      by : (t : Bool) → ltb (n + 8) (width p f) ≡ t → AtBorder p (cond t (Taking f (n + 8) (256 * w + v)) (phase_after_field p f (256 * w + v)))
      by true e = (omega arith, ltb-true (n + 8) (width p f) e, rw (eight_more n) (omega arith))
      by false e = field_border f n w v h q l r
  byte_border (Showing s k) v h b = refl
  byte_border (Waiting a) v h b = tt
  byte_border (Pending w a) v h b = (b.0, h)

-- ---- bytes stay bytes

abbrev pub EachByte : List ℕ → Type 0
EachByte [] = Unit {0}
EachByte (v ∷ vs) = (v < 256) × EachByte vs

set_bytes : (m : List ℕ) (a v : ℕ) → AllBytes m → v < 256 → AllBytes (set m a v)
set_bytes [] a v fits h i = fits i
set_bytes (x ∷ m) zero v fits h zero = h
set_bytes (x ∷ m) zero v fits h (suc i) = fits (suc i)
set_bytes (x ∷ m) (suc a) v fits h zero = fits zero
set_bytes (x ∷ m) (suc a) v fits h (suc i) = set_bytes m a v (λ k. fits (suc k)) h i

permitted_bytes : (t : Bool) (a v : ℕ) (m : List ℕ) → AllBytes m → v < 256 → AllBytes (applied (cond t (write_at a v) None) m)
permitted_bytes true a v m fits h = set_bytes m a v fits h
permitted_bytes false a v m fits h = fits

-- what is written as a byte ends: nothing on a part that stores late (y)
finished_bytes : (y t : Bool) (a v : ℕ) (m : List ℕ) → AllBytes m → v < 256 → AllBytes (applied (cond y None (cond t (write_at a v) None)) m)
finished_bytes true t a v m fits h = fits
finished_bytes false t a v m fits h = permitted_bytes t a v m fits h

write_bytes : (p : Part) (st : Status) (ph : Phase) (v : ℕ) (m : List ℕ) → AtBorder p ph → AllBytes m → v < 256 → AllBytes (applied (byte_write p st ph v) m)
write_bytes p st Rest v m b fits h = fits
write_bytes p st Ignoring v m b fits h = fits
write_bytes p st (Taking Opcode n w) v m b fits h = fits
write_bytes p st (Taking ReadAddress n w) v m b fits h = fits
write_bytes p st (Taking FastAddress n w) v m b fits h = fits
write_bytes p st (Taking WriteAddress n w) v m b fits h = fits
write_bytes p st (Taking (Dummy a) n w) v m b fits h = fits
write_bytes p st (Taking (Data a y) n w) v m b fits h = finished_bytes p.late (st.wel && ltb a (protected_start st p)) a v m fits h
write_bytes p st (Taking StatusByte n w) v m b fits h = fits
write_bytes p st (Showing s k) v m b fits h = fits
write_bytes p st (Waiting a) v m b fits h = fits
write_bytes p st (Pending w a) v m b fits h = permitted_bytes (st.wel && ltb a (protected_start st p)) a w m fits b.1

-- ---- any bytes

module _ (part pins : ℕ) (st : Status) (z wp : Bool) (wide : 0 < (part_of part).width) (whole : (part_of part).width % 8 ≡ 0)
    (identity : AllBytes (part_of part).identity) where
  abbrev row : Part
  row = part_of part

  abbrev at : Phase → List ℕ → Bool → Pins
  at ph m si = Pin.selected part pins st z wp ph m si

  byte_taken : (v : ℕ) (ph : Phase) (m : List ℕ) (si : Bool) → v < 256 → AtBorder row ph → AllBytes m
      → clocked_all wp (at ph m si) (bits_of v) ≡ at (phase_after_byte row ph v) (applied (byte_write row st ph v) m) (bit_at v 7)
  byte_taken v ph m si h b fits =
      let s = byte_stepped part pins st z wp whole identity ph m v b fits h in
      bits_taken part pins st z wp (bits_of v) ph m si ∙ rw (s.phase, s.memory)

  byte_back_lem : (v : ℕ) (ph : Phase) (m : List ℕ) (si : Bool) → v < 256 → AtBorder row ph → AllBytes m
      → back_of (answers_before wp (at ph m si) (bits_of v)) ≡ byte_back row st m ph
  byte_back_lem v ph m si h b fits =
      ap back_of (bits_answered part pins st z wp (bits_of v) ph m si) ∙ (byte_stepped part pins st z wp whole identity ph m v b fits h).back

  pub bytes_taken_lem : (vs : List ℕ) (ph : Phase) (m : List ℕ) (si : Bool) → EachByte vs → AtBorder row ph → AllBytes m
      → bytes_taken wp (at ph m si) vs ≡ at (phase_after_bytes row st ph vs) (memory_after_bytes row st ph m vs) (last_si si vs)
  bytes_taken_lem [] ph m si hs b fits = refl
  bytes_taken_lem (v ∷ vs) ph m si (h, hs) b fits =
      ap (λ (a : Pins). bytes_taken wp a vs) (byte_taken v ph m si h b fits)
      ∙ bytes_taken_lem vs (phase_after_byte row ph v) (applied (byte_write row st ph v) m) (bit_at v 7) hs (byte_border row wide ph v h b) (write_bytes row st ph v m b fits h)

  pub bytes_back_lem : (vs : List ℕ) (ph : Phase) (m : List ℕ) (si : Bool) → EachByte vs → AtBorder row ph → AllBytes m
      → bytes_back wp (at ph m si) vs ≡ back_after_bytes row st ph m vs
  bytes_back_lem [] ph m si hs b fits = refl
  bytes_back_lem (v ∷ vs) ph m si (h, hs) b fits =
      ap (λ (x : Back). x ∷ bytes_back wp (clocked_all wp (at ph m si) (bits_of v)) vs) (byte_back_lem v ph m si h b fits)
      ∙ ap (λ (a : Pins). byte_back row st m ph ∷ bytes_back wp a vs) (byte_taken v ph m si h b fits)
      ∙ ap (λ (l : List Back). byte_back row st m ph ∷ l)
      (bytes_back_lem vs (phase_after_byte row ph v) (applied (byte_write row st ph v) m) (bit_at v 7) hs (byte_border row wide ph v h b) (write_bytes row st ph v m b fits h))

-- ---- the whole selection

-- nothing is shown when CS# has fallen
first_shown : (p : Part) (st : Status) (m : List ℕ) (y : Bool) → after_fall p st m (selected y) HighZ ≡ HighZ
first_shown p st m true = refl
first_shown p st m false = refl

pub first_border : (p : Part) (y : Bool) → AtBorder p (selected y)
first_border p true = tt
first_border p false = (refl, omega arith, omega arith)

abbrev ended : Pins → List Back → Selection
ended a bs = record { model = a.model; memory = a.memory; back = bs }

module _ (part pins : ℕ) (st : Status) (x : Spi) (m : List ℕ) (wp : Bool) where
  abbrev model : Model
  model = model_of part pins st (SpiOn x)

  -- CS# falls
  fallen_is : x.last.cs ≡ true → fallen wp model m [] ≡ Pin.selected part pins st x.asleep wp (selected x.asleep) m false
  unfolding step_of
  fallen_is up = Pin.sampled_is part pins st x m 2 false false false wp ∙ rw (up, first_shown (part_of part) st m x.asleep)

  -- CS# rises
  risen_is : (z : Bool) (ph : Phase) (n : List ℕ) (si : Bool)
      → sampled (Pin.selected part pins st z wp ph n si) (sample_of true false si wp)
      ≡ record {
        model = model_of part pins (status_after st wp ph) (SpiOn (record { last = end_levels si wp; asleep = asleep_after z ph; shown = HighZ; phase = Rest }));
        memory = applied (end_write (part_of part) st ph) n;
        answer = 2;
      }
  unfolding step_of
  risen_is z ph n si = Pin.sampled_is part pins st (Pin.bus part pins st z wp ph n si) n (answer_number (Pin.shows part pins st z wp ph n)) true false si wp

  pub by_bytes_lem : 0 < (part_of part).width → (part_of part).width % 8 ≡ 0 → AllBytes (part_of part).identity → x.last.cs ≡ true → AllBytes m
      → (input : List ℕ) → EachByte input → selection_of wp model m input ≡ by_bytes wp model x m input
  unfolding selection_of
  by_bytes_lem wide whole identity up fits input each =
      let b = first_border (part_of part) x.asleep in
      let t = bytes_taken_lem part pins st x.asleep wp wide whole identity input (selected x.asleep) m false each b fits in
      let k = bytes_back_lem part pins st x.asleep wp wide whole identity input (selected x.asleep) m false each b fits in
      let f = fallen_is up in
      let e : ℕ = sample_of true false (last_si false input) wp in
      ap₂ ended
      (ap (λ (a : Pins). sampled (bytes_taken wp a input) e) f
      ∙ ap (λ (a : Pins). sampled a e) t
      ∙ risen_is x.asleep (phase_after_bytes (part_of part) st (selected x.asleep) input)
      (memory_after_bytes (part_of part) st (selected x.asleep) m input) (last_si false input))
      (ap (λ (a : Pins). bytes_back wp a input) f ∙ k)
