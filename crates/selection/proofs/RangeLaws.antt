-- The ranges of a phase: the test says what the proposition says, and the bits of a field stay small. Assumes nothing.
use Prim.Native.Nat.{ℕ, ◌+◌, ◌^◌, ◌<◌, ◌≤◌}
use mathlib.Core.Path.{◌≡◌, refl}
use mathlib.Core.Bool.{Bool, true}
use native.Mathlib.Omega.{arith}
use lib.Dec.{ltb}
use borrow.Author.Tests.{ltb-true, leb-true, lt-ltb, le-leb}
use Rattle.parts.specs.declared.part.Part.{Part}
use Rattle.parts.specs.Table.{Fit}
use Rattle.parts.proofs.Rows.{and_both}
use Rattle.serial.specs.Bits.{shifted}
use Rattle.serial.proofs.BitLaws.{shifted_within, small}
use Rattle.selection.specs.declared.phase.Field.{Field}
use Rattle.selection.specs.declared.phase.Field.TheVariants.{Opcode, ReadAddress, FastAddress, WriteAddress, Dummy, Data, StatusByte}
use Rattle.selection.specs.declared.phase.Source.{Source}
use Rattle.selection.specs.declared.phase.Source.TheVariants.{Memory, Register, Identity}
use Rattle.selection.specs.declared.phase.Phase.{Phase}
use Rattle.selection.specs.declared.phase.Phase.TheVariants.{Rest, Ignoring, Taking, Showing, Waiting, Pending}
use Rattle.selection.specs.Phase.{width}
use Rattle.selection.specs.Ranges.{FieldIn, SourceIn, TakingIn, PhaseIn, field_in, source_in, phase_in}

-- ---- the test and the proposition

field_in_lem : (p : Part) (f : Field) → field_in p f ≡ true → FieldIn p f
field_in_lem p Opcode h = tt
field_in_lem p ReadAddress h = tt
field_in_lem p FastAddress h = tt
field_in_lem p WriteAddress h = tt
field_in_lem p (Dummy a) h = ltb-true a p.size h
field_in_lem p (Data a w) h = ltb-true a p.size h
field_in_lem p StatusByte h = tt

source_in_lem : (p : Part) (s : Source) → source_in p s ≡ true → SourceIn p s
source_in_lem p (Memory a) h = ltb-true a p.size h
source_in_lem p Register h = tt
source_in_lem p (Identity i) h = leb-true i 3 h

pub phase_in_lem : (p : Part) (ph : Phase) → phase_in p ph ≡ true → PhaseIn p ph
phase_in_lem p Rest h = tt
phase_in_lem p Ignoring h = tt
phase_in_lem p (Taking f n v) h =
    let a = and_both (field_in p f) _ h in
    let b = and_both (ltb n (width p f)) (ltb v (2 ^ n)) a.1 in
    record { field = field_in_lem p f a.0; short = ltb-true n (width p f) b.0; bits = ltb-true v (2 ^ n) b.1 }
phase_in_lem p (Showing s k) h =
    let a = and_both (source_in p s) (ltb k 8) h in
    record { source = source_in_lem p s a.0; bit = ltb-true k 8 a.1 }
phase_in_lem p (Waiting a) h = tt
phase_in_lem p (Pending v a) h =
    let b = and_both p.late (ltb a p.size) h in
    record { late = b.0; address = ltb-true a p.size b.1 }

field_test : (p : Part) (f : Field) → FieldIn p f → field_in p f ≡ true
field_test p Opcode h = refl
field_test p ReadAddress h = refl
field_test p FastAddress h = refl
field_test p WriteAddress h = refl
field_test p (Dummy a) h = lt-ltb a p.size h
field_test p (Data a w) h = lt-ltb a p.size h
field_test p StatusByte h = refl

source_test : (p : Part) (s : Source) → SourceIn p s → source_in p s ≡ true
source_test p (Memory a) h = lt-ltb a p.size h
source_test p Register h = refl
source_test p (Identity i) h = le-leb i 3 h

pub phase_test : (p : Part) (ph : Phase) → PhaseIn p ph → phase_in p ph ≡ true
phase_test p Rest h = refl
phase_test p Ignoring h = refl
phase_test p (Taking f n v) h = simp (field_test p f h.field, lt-ltb n (width p f) h.short, lt-ltb v (2 ^ n) h.bits)
phase_test p (Showing s k) h = simp (source_test p s h.source, lt-ltb k 8 h.bit)
phase_test p (Waiting a) h = refl
phase_test p (Pending v a) h = simp (h.late, lt-ltb a p.size h.address)

-- ---- the bits of a field

pub width_narrow : (p : Part) → Fit p → (f : Field) → width p f ≤ 24
width_narrow p fit Opcode = omega arith
width_narrow p fit ReadAddress = fit.narrow
width_narrow p fit FastAddress = fit.narrow
width_narrow p fit WriteAddress = fit.narrow
width_narrow p fit (Dummy a) = omega arith
width_narrow p fit (Data a w) = omega arith
width_narrow p fit StatusByte = omega arith

-- the bits of an unfinished field make a number below 2 ^ 24
pub taken_small : (p : Part) → Fit p → (f : Field) (n v : ℕ) → TakingIn p f n v → v < 16777216
taken_small p fit f n v h = small n 24 v (let s = h.short in omega (arith, width_narrow p fit f)) h.bits

-- the last bit of a field makes a number of the field's width
pub last_within : (p : Part) (f : Field) (n v : ℕ) (b : Bool) → TakingIn p f n v → width p f ≤ n + 1 → shifted v b < 2 ^ width p f
last_within p f n v b h l = small (n + 1) (width p f) (shifted v b) (let s = h.short in omega arith) (shifted_within n v b h.bits)
