-- What a counted fall shows, for two commands in plain words: RDSR the status byte, again and again, and READ the bytes from its
-- address up, rolled over; each after as many bits more as the fall has before it. Assumes nothing.
use Prim.Native.Nat.{ℕ, zero, suc, ◌+◌, ◌-◌, ◌/◌, ◌%◌, ◌^◌}
use mathlib.Core.Path.{◌≡◌, refl, ap, ◌∙◌}
use mathlib.Core.Bool.{Bool}
use mathlib.Core.List.{List, [], ◌∷◌, ◌++◌}
use native.Mathlib.Nat.{mod-add-mod}
use native.Mathlib.Omega.{arith}
use lib.ListN.{length, get_or, length-append}
use borrow.Author.Tests.{le-ltb}
use Rattle.parts.specs.declared.part.Part.{Part}
use Rattle.parts.specs.declared.status.Status.{Status}
use Rattle.parts.specs.Status.{status_byte}
use Rattle.selection.specs.declared.opcode.Command.{Command}
use Rattle.selection.specs.declared.opcode.Command.TheVariants.{RDSR, READ}
use Rattle.ledger.specs.Bits.{number, FieldBits, short, whole, put, field}
use Rattle.ledger.specs.SpiLedger.{Reading, partial, command, opcode_read, reading}
use Rattle.ledger.specs.SpiAnswers.{read_shows}
use Rattle.ledger.proofs.SpiShows.{Counted, counted}

-- the first bits of a list, as many as they are
pub field_of : (xs ys : List Bool) → field (length xs) (xs ++ ys) ≡ whole xs ys
field_of [] ys = refl
field_of (x ∷ xs) ys = ap (put x) (field_of xs ys)

-- a reading with more bits
abbrev extended : List Bool → Reading → Reading
extended ys partial = partial
extended ys (command k rest) = command k (rest ++ ys)

-- more bits go to the rest of a whole field
abbrev Extends : List Bool → FieldBits → FieldBits → Type 0
Extends ys (short xs) z = Unit {0}
Extends ys (whole xs rest) z = z ≡ whole xs (rest ++ ys)

extends_put : (ys : List Bool) (x : Bool) (y z : FieldBits) → Extends ys y z → Extends ys (put x y) (put x z)
extends_put ys x (short xs) z h = tt
extends_put ys x (whole xs rest) z h = ap (put x) h

extends : (r : ℕ) (bs ys : List Bool) → Extends ys (field r bs) (field r (bs ++ ys))
extends zero bs ys = refl
extends (suc r) [] ys = tt
extends (suc r) (x ∷ bs) ys = extends_put ys x (field r bs) (field r (bs ++ ys)) (extends r bs ys)

-- and to the rest of a command
pub reading_more : (p : Part) (bs : List Bool) (k : Command) (rest ys : List Bool) → reading p bs ≡ command k rest
    → reading p (bs ++ ys) ≡ command k (rest ++ ys)
reading_more p bs k rest ys q = by (field 8 bs) (extends 8 bs ys) q
  where
    by : (y : FieldBits) → Extends ys y (field 8 (bs ++ ys)) → opcode_read p y ≡ command k rest → reading p (bs ++ ys) ≡ command k (rest ++ ys)
    by (short xs) e h = let z : ◌≡◌ {A = ℕ} 0 1 = cc in absurd (omega arith)
    by (whole xs more) e h = rw e (ap (extended ys) h)

-- the bits of a command are eight and the rest
pub reading_length : (p : Part) (bs : List Bool) (k : Command) (rest : List Bool) → reading p bs ≡ command k rest → length bs ≡ 8 + length rest
reading_length p bs k rest q = by (field 8 bs) (counted 8 bs) q
  where
    by : (y : FieldBits) → Counted 8 bs y → opcode_read p y ≡ command k rest → length bs ≡ 8 + length rest
    by (short xs) c e = let z : ◌≡◌ {A = ℕ} 0 1 = cc in absurd (omega arith)
    by (whole xs more) c e = let z : more ≡ rest = cc in c ∙ ap (λ (l : List Bool). 8 + length l) z

module _ (p : Part) (st : Status) (m : List ℕ) (bs : List Bool) where
  -- n bits past the opcode of RDSR: bit 7 - (n mod 8) of the status byte
  pub rdsr_shown : (rest : List Bool) → reading p bs ≡ command RDSR rest
      → read_shows p st m (reading p bs) (length bs) ≡ status_byte st / 2 ^ (7 - length rest % 8) % 2
  rdsr_shown rest q =
      let d : 8 + length rest - 8 ≡ length rest = omega arith in
      rw (q, reading_length p bs RDSR rest q, le-ltb (8 + length rest) 8 (omega arith), d)

  -- n bits past the address of READ: bit 7 - (n mod 8) of the byte n div 8 addresses further, modulo the size
  pub read_shown : (address more : List Bool) → length address ≡ p.width → reading p bs ≡ command READ (address ++ more)
      → read_shows p st m (reading p bs) (length bs)
      ≡ get_or m ((number address + length more / 8) % p.size) 0 / 2 ^ (7 - length more % 8) % 2
  read_shown address more w q =
      let n : length bs ≡ 8 + p.width + length more =
      reading_length p bs READ (address ++ more) q ∙ simp length-append (omega arith) in
      let d : 8 + p.width + length more - (8 + p.width) ≡ length more = omega arith in
      let f : field p.width (address ++ more) ≡ whole address more = rw (← w) (field_of address more) in
      rw (q, n, le-ltb (8 + p.width + length more) (8 + p.width) (omega arith), d, f, mod-add-mod)
