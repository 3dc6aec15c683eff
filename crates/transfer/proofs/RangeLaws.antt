-- The test of a phase's numbers passes exactly if they are in their ranges. Assumes nothing.
use Prim.Native.Nat.{◌^◌}
use mathlib.Core.Path.{◌≡◌, refl}
use mathlib.Core.Bool.{true, ◌&&◌}
use lib.Dec.{ltb, leb}
use borrow.Author.Tests.{ltb-true, leb-true, lt-ltb, le-leb}
use Rattle.parts.specs.declared.part.Part.{Part}
use Rattle.parts.proofs.Rows.{and_both}
use Rattle.transfer.specs.declared.phase.Field.{Field}
use Rattle.transfer.specs.declared.phase.Field.TheVariants.{Word, HighByte, LowByte, Data}
use Rattle.transfer.specs.declared.phase.Phase.{Phase}
use Rattle.transfer.specs.declared.phase.Phase.TheVariants.{Rest, Ignoring, Taking, Sending}
use Rattle.transfer.specs.Ranges.{FieldIn, PhaseIn, field_in, phase_in}

field_in_lem : (p : Part) (f : Field) → field_in p f ≡ true → FieldIn p f
field_in_lem p Word h = tt
field_in_lem p (HighByte a16) h = tt
field_in_lem p (LowByte a16 high) h = tt
field_in_lem p (Data a) h = ltb-true a p.size h

field_test : (p : Part) (f : Field) → FieldIn p f → field_in p f ≡ true
field_test p Word h = refl
field_test p (HighByte a16) h = refl
field_test p (LowByte a16 high) h = refl
field_test p (Data a) h = lt-ltb a p.size h

pub phase_in_lem : (p : Part) (ph : Phase) → phase_in p ph ≡ true → PhaseIn p ph
phase_in_lem p Rest h = tt
phase_in_lem p Ignoring h = tt
phase_in_lem p (Taking f n v) h =
    let a = and_both (field_in p f) (leb n 8 && ltb v (2 ^ n)) h in
    let b = and_both (leb n 8) (ltb v (2 ^ n)) a.1 in
    (field_in_lem p f a.0, leb-true n 8 b.0, ltb-true v (2 ^ n) b.1)
phase_in_lem p (Sending a n) h =
    let b = and_both (ltb a p.size) (leb n 8) h in
    (ltb-true a p.size b.0, leb-true n 8 b.1)

pub phase_test : (p : Part) (ph : Phase) → PhaseIn p ph → phase_in p ph ≡ true
phase_test p Rest h = refl
phase_test p Ignoring h = refl
phase_test p (Taking f n v) (g, l, b) = simp (field_test p f g, le-leb n 8 l, lt-ltb v (2 ^ n) b)
phase_test p (Sending a n) (b, l) = simp (lt-ltb a p.size b, le-leb n 8 l)
