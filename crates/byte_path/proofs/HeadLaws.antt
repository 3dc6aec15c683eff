-- What is at hand where the head of a selection takes a byte: a field has room for eight bits more, its number stays small, and the phase
-- after them is again one at a byte's border. Assumes nothing.
use Prim.Native.Nat.{ℕ, zero, suc, ◌+◌, ◌*◌, ◌%◌, ◌^◌, ◌<◌, ◌≤◌}
use mathlib.Core.Path.{◌≡◌, refl, sym, ap, ◌∙◌}
use mathlib.Core.Bool.{Bool, true, false, cond}
use mathlib.Core.List.{List, [], ◌∷◌, ◌++◌}
use native.Mathlib.Nat.{pow-le-pow_right, add-zero}
use native.Mathlib.Numerals.{add-one}
use native.Mathlib.Omega.{arith}
use lib.Dec.{ltb}
use lib.ListN.{length, get_or, set, drop, replicate}
use lib.Seq.{drop-cons}
use borrow.Author.Tests.{ltb-true}
use Rattle.parts.specs.declared.part.Part.{Part}
use Rattle.serial.proofs.AddressLaws.{next_within}
use Rattle.serial.proofs.BitLaws.{small}
use Rattle.selection.specs.declared.phase.Field.{Field}
use Rattle.selection.specs.declared.phase.Field.TheVariants.{Opcode, ReadAddress, FastAddress, WriteAddress, Dummy, Data, StatusByte}
use Rattle.selection.specs.declared.phase.Phase.{Phase}
use Rattle.selection.specs.declared.phase.Phase.TheVariants.{Rest, Ignoring, Taking, Showing, Waiting, Pending}
use Rattle.selection.specs.Phase.{width, phase_after_field}
use Rattle.selection.specs.Ranges.{PhaseIn}
use Rattle.spi.proofs.Keeps.{after_field_in, next_source_in}
use Rattle.byte_path.specs.declared.head.Head.{Head}
use Rattle.byte_path.specs.ByBytes.{phase_after_byte}
use Rattle.byte_path.specs.Head.{is_head, ahead, head_from, Bordered}
use Rattle.byte_path.proofs.ByBytes.{eight_more, byte_border}

two_positive : 0 < 2
two_positive = omega arith

module _ (p : Part) where
  -- every field has whole bytes, three at most
  width_bytes : (f : Field) → p.width % 8 ≡ 0 → width p f % 8 ≡ 0
  width_bytes Opcode h = refl
  width_bytes ReadAddress h = h
  width_bytes FastAddress h = h
  width_bytes WriteAddress h = h
  width_bytes (Dummy a) h = refl
  width_bytes (Data a w) h = refl
  width_bytes StatusByte h = refl

  width_narrow : (f : Field) → p.width ≤ 24 → width p f ≤ 24
  width_narrow Opcode h = omega arith
  width_narrow ReadAddress h = h
  width_narrow FastAddress h = h
  width_narrow WriteAddress h = h
  width_narrow (Dummy a) h = omega arith
  width_narrow (Data a w) h = omega arith
  width_narrow StatusByte h = omega arith

  -- room for a byte
  pub record Roomy (f : Field) (n w : ℕ) : Type 0 where
    pub room : n + 8 ≤ width p f
    pub narrow : width p f ≤ 24
    pub value : w < 65536

  pub roomy : (f : Field) (n w : ℕ) → Bordered p (Taking f n w) → Roomy f n w
  roomy f n w b =
      let q = width_bytes f b.bytewise in
      let l = width_narrow f b.fit.narrow in
      let r : n + 8 ≤ width p f = omega (arith, b.border.0, b.border.1) in
      record { room = r; narrow = l; value = small n 16 w (omega arith) b.border.2 }

  -- the number with eight bits more
  pub more_below : (f : Field) (n w v : ℕ) → Bordered p (Taking f n w) → v < 256 → 256 * w + v < 2 ^ width p f
  more_below f n w v b h =
      let r = roomy f n w b in
      let k : 256 * w + v < 2 ^ (n + 8) = rw (eight_more p b.fit.wide n) (omega (arith, b.border.2)) in
      omega (arith, pow-le-pow_right two_positive r.room)

  -- the phase after a byte
  inside_next : (ph : Phase) (v : ℕ) → v < 256 → Bordered p ph → PhaseIn p (phase_after_byte p ph v)
  inside_next Rest v h b = tt
  inside_next Ignoring v h b = tt
  inside_next (Taking f n w) v h b = by (ltb (n + 8) (width p f)) refl
    where
      by : (t : Bool) → ltb (n + 8) (width p f) ≡ t → PhaseIn p (cond t (Taking f (n + 8) (256 * w + v)) (phase_after_field p f (256 * w + v)))
      by true e =
          record { field = b.inside.field; short = ltb-true _ _ e; bits = rw (eight_more p b.fit.wide n) (omega (arith, b.border.2)) }
      by false e = after_field_in p b.fit f (256 * w + v) b.inside.field
  inside_next (Showing s k) v h b = record { source = next_source_in p b.fit s b.inside.source; bit = omega arith }
  inside_next (Waiting a) v h b = tt
  inside_next (Pending w a) v h b = record { late = b.inside.late; address = next_within p.size a b.fit.positive }

  pub bordered_next : (ph : Phase) (v : ℕ) → v < 256 → Bordered p ph → Bordered p (phase_after_byte p ph v)
  bordered_next ph v h b =
      record { fit = b.fit; bytewise = b.bytewise; border = byte_border p b.fit.wide ph v h b.border; inside = inside_next ph v h b }

-- ---- the head, byte by byte

module _ (p : Part) (input : List ℕ) where
  ahead_on : (n : ℕ) (h : Head) → ahead n (ahead 1 h) ≡ ahead (suc n) h
  ahead_on n h = let q : n + (1 + h.at) ≡ suc n + h.at = omega arith in rw q

  -- one byte more
  pub head_on : (ph : Phase) (at : ℕ) (h : Head) → at < length input → is_head ph ≡ true
      → ahead at (head_from p ph (drop at input)) ≡ h
      → ahead (at + 1) (head_from p (phase_after_byte p ph (get_or input at 0)) (drop (at + 1) input)) ≡ h
  head_on ph at h l y e =
      let q : ahead at (head_from p ph (drop at input)) ≡ ahead (suc at) (head_from p (phase_after_byte p ph (get_or input at 0)) (drop (suc at) input)) =
      rw (drop-cons input at 0 l, y) (ahead_on at (head_from p (phase_after_byte p ph (get_or input at 0)) (drop (suc at) input))) in
      rw (add-one at) (sym q ∙ e)

  here : (ph : Phase) (at : ℕ) → ahead at (record { phase = ph; at = 0 }) ≡ record { phase = ph; at = at }
  here ph at = rw (add-zero at)

  -- no byte of a head
  pub head_over : (ph : Phase) (at : ℕ) (vs : List ℕ) → is_head ph ≡ false → record { phase = ph; at = at } ≡ ahead at (head_from p ph vs)
  head_over ph at [] n = sym (here ph at)
  head_over ph at (v ∷ vs) n = rw n (sym (here ph at))

-- ---- what the head brings back

-- one byte more
pub quiet_on : (out : List ℕ) (at : ℕ) → at < length out → set (replicate at 255 ++ drop at out) at 255 ≡ replicate (suc at) 255 ++ drop (suc at) out
quiet_on [] at h = absurd (omega arith)
quiet_on (x ∷ out) zero h = refl
quiet_on (x ∷ out) (suc at) h = ap (λ (l : List ℕ). 255 ∷ l) (quiet_on out at (omega arith))
