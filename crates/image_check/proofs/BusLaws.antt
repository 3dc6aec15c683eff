-- The tests that the code makes of part, register and bus, in its own order, against the definition's. Assumes nothing.
use Prim.Native.Nat.{ℕ, ◌<◌, ◌≤◌}
use mathlib.Core.Path.{◌≡◌, refl, sym, ap, ◌∙◌}
use mathlib.Core.Bool.{Bool, true, false, cond, not, ◌&&◌}
use mathlib.Core.List.{List}
use lib.Dec.{eqb, ltb}
use lib.ListN.{length, take, drop, length-drop}
use borrow.Author.Tests.{eq-eqb, ne_eqb, lt-ltb, le-ltb}
use Rattle.std.specs.List.{list_all}
use Rattle.std.proofs.lemmas.List.{take_all}
use native.Mathlib.Omega.{arith}
use Rattle.parts.specs.declared.part.Part.{Part}
use Rattle.parts.specs.Status.{status_byte}
use Rattle.parts.specs.Table.{is_spi, part_of}
use Rattle.selection.specs.Ranges as SpiRanges
use Rattle.transfer.specs.Ranges as I2cRanges
use Rattle.chip.specs.declared.model.BusState.{BusState}
use Rattle.chip.specs.declared.model.BusState.TheVariants.{Unpowered, SpiOn, I2cOn}
use Rattle.chip.specs.Check.{bits_clear, holds_bits, bus_in}
use Rattle.image_fields.specs.declared.fields.Fields.{Fields}
use Rattle.image_fields.specs.Fields.{same_phase, same_fields}
use Rattle.image_fields.specs.SpiPhase as SpiPhase
use Rattle.image_fields.specs.I2cPhase as I2cPhase
use Rattle.image_fields.specs.State.{bus_fields, status_in, spi_in, i2c_in, bus_from, state_in}
use Rattle.image.specs.Layout.{fields_in}
use Rattle.image.specs.Taken.{in_range, takes_fields, taken}
use Rattle.image.proofs.TakenLaws.{same_itself}
use Rattle.image_check.specs.Bus.{takes_bus}
use Rattle.image_check.proofs.FieldLaws.{and_false, and_assoc, zeros_all, zero_first, flag_test, spi_test, i2c_test, shown_test, pull_test}

-- ---- the tests of each bus, as the code makes them

spi_order : (l d a b u s v i c q : Bool)
    → ((l && (d && (a && (b && (u && s))))) && (cond (cond v true i) true c && (i && q)))
    ≡ (l && (d && (a && (b && (u && (i && (s && q)))))))
spi_order l d a b u s v i c q =
    simp and_assoc (ap (λ (t : Bool). l && (d && (a && (b && (u && t))))) (by s v i c q))
  where
    by : (s v i c q : Bool) → (s && (cond (cond v true i) true c && (i && q))) ≡ (i && (s && q))
    by s true true c q = refl
    by s false true c q = refl
    by s true false c q = and_false s
    by s false false c q = rw and_false (and_false s)

i2c_order : (l d a u s v i c w b q : Bool)
    → ((l && (d && (a && (u && s)))) && (cond (cond v true i) true c && (not i && (w && (b && q)))))
    ≡ (l && (d && (a && (u && (not i && (b && ((cond v true c && w) && (s && q))))))))
i2c_order l d a u s v i c w b q =
    simp and_assoc (ap (λ (t : Bool). l && (d && (a && (u && t)))) (by s v i c w b q))
  where
    last : (s w b q : Bool) → (s && (w && (b && q))) ≡ (b && (w && (s && q)))
    last true w true q = refl
    last true w false q = and_false w
    last false w true q = sym (and_false w)
    last false w false q = refl

    by : (s v i c w b q : Bool) → (s && (cond (cond v true i) true c && (not i && (w && (b && q))))) ≡ (not i && (b && (cond v true c && (w && (s && q)))))
    by s true true c w b q = and_false s
    by s false true c w b q = and_false s
    by s true false c w b q = last s w b q
    by s false false true w b q = last s w b q
    by s false false false w b q = and_false s ∙ sym (and_false b)

-- whether SRWD, BP1 and BP0 are 0 if they are not saved, and WEL is
abbrev pub latch_clear : Part → Fields → Bool
latch_clear p f = cond p.saved true (bits_clear (status_in f.status)) && not (status_in f.status).wel

module _ (p : Part) (f : Fields) where
  pub spi_tests : f.power ≡ 1
      → takes_bus p f (SpiOn (spi_in f))
      ≡ (ltb f.last 32
      && (ltb f.driven 3
      && (ltb f.asleep 2
      && (eqb f.buffer 0
      && (eqb f.used 0
      && (is_spi p.bus
      && (same_phase (SpiPhase.fields_of (SpiPhase.phase_in f.phase)) f.phase && SpiRanges.phase_in p (SpiPhase.phase_in f.phase))))))))
  spi_tests w =
      simp (w, spi_test f.last, shown_test f.driven, flag_test f.asleep, zero_first, same_itself)
      (spi_order (ltb f.last 32) (ltb f.driven 3) (ltb f.asleep 2) (eqb f.buffer 0) (eqb f.used 0)
      (same_phase (SpiPhase.fields_of (SpiPhase.phase_in f.phase)) f.phase) p.saved (is_spi p.bus) (bits_clear (status_in f.status)) (SpiRanges.phase_in p (SpiPhase.phase_in f.phase)))

  pub i2c_tests : f.power ≡ 2
      → takes_bus p f (I2cOn (i2c_in f))
      ≡ (ltb f.last 8
      && (cond (eqb f.driven 0) true (eqb f.driven 2)
      && (eqb f.asleep 0
      && (ltb f.used 2
      && (not (is_spi p.bus)
      && (ltb f.buffer p.size
      && (latch_clear p f
      && (same_phase (I2cPhase.fields_of (I2cPhase.phase_in f.phase)) f.phase && I2cRanges.phase_in p (I2cPhase.phase_in f.phase)))))))))
  i2c_tests w =
      simp (w, i2c_test f.last, pull_test f.driven, flag_test f.used, zero_first, same_itself)
      (i2c_order (ltb f.last 8) (cond (eqb f.driven 0) true (eqb f.driven 2)) (eqb f.asleep 0) (ltb f.used 2)
      (same_phase (I2cPhase.fields_of (I2cPhase.phase_in f.phase)) f.phase) p.saved (is_spi p.bus) (bits_clear (status_in f.status)) (not (status_in f.status).wel) (ltb f.buffer p.size) (I2cRanges.phase_in p (I2cPhase.phase_in f.phase)))

-- ---- the whole

module _ (f : Fields) where
  -- the byte of the status register apart from the other fields
  split : (s : ℕ) (b : BusState)
      → same_fields (bus_fields f.part f.pins s b) f ≡ (eqb s f.status && same_fields (bus_fields f.part f.pins f.status b) f)
  split s Unpowered = simp same_itself
  split s (SpiOn x) = simp same_itself
  split s (I2cOn x) = simp same_itself

  reordered : (s x k q c u : Bool) → ((s && x) && ((k && (q && c)) && u)) ≡ (k && (q && (s && (x && (c && u)))))
  reordered s x false q c u = and_false (s && x)
  reordered s x true false c u = and_false (s && x)
  reordered true x true true c u = refl
  reordered false x true true c u = refl

  whole : takes_fields f
      ≡ (ltb f.part 5
      && (ltb f.pins (part_of f.part).pins
      && (eqb (status_byte (status_in f.status)) f.status && takes_bus (part_of f.part) f (bus_from f))))
  whole =
      ap (λ (b : Bool). b && in_range (state_in f)) (split (status_byte (status_in f.status)) (bus_from f))
      ∙ reordered (eqb (status_byte (status_in f.status)) f.status) (same_fields (bus_fields f.part f.pins f.status (bus_from f)) f)
      (ltb f.part 5) (ltb f.pins (part_of f.part).pins)
      (cond (holds_bits (part_of f.part) (bus_from f)) true (bits_clear (status_in f.status)))
      (bus_in (part_of f.part) (status_in f.status) (bus_from f))

  pub no_part : 5 ≤ f.part → takes_fields f ≡ false
  no_part h = whole ∙ rw (le-ltb f.part 5 h) refl

  pub takes_tests : f.part < 5
      → takes_fields f
      ≡ (ltb f.pins (part_of f.part).pins
      && (eqb (status_byte (status_in f.status)) f.status && takes_bus (part_of f.part) f (bus_from f)))
  takes_tests h = whole ∙ rw (lt-ltb f.part 5 h) refl

-- ---- the buffer

-- 32 bytes, of which the last twelve are those that no field uses
pub taken_tests : (b : List ℕ) → length b ≡ 32
    → taken b ≡ (list_all (λ x. eqb x 0) (take 12 (drop 20 b)) && takes_fields (fields_in b))
unfolding taken
taken_tests b h =
    let n : length (drop 20 b) ≤ 12 = simp length-drop (omega arith) in
    rw (eq-eqb (length b) 32 h, take_all 12 (drop 20 b) n, zeros_all) refl

pub no_length : (b : List ℕ) → (length b ≡ 32 → ⊥) → taken b ≡ false
unfolding taken
no_length b h = rw (ne_eqb (length b) 32 h) refl
