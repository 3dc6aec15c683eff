-- The bits of an SPI part's field or byte apart from its phase, which is how the loop keeps them: most rises change nothing else. A data
-- byte that waits is kept as one whose eight bits are in. These definitions only say how the code takes such rises.
use Rattle.std.specs.Prelude.{ℕ, ◌-◌, ◌<◌, Bool, true, cond, eqb, Option, Some, None}
use Rattle.parts.specs.declared.part.Part.{Part}
use Rattle.serial.specs.Bits.{shifted}
use Rattle.selection.specs.declared.phase.Field.{Field}
use Rattle.selection.specs.declared.phase.Field.TheVariants.{Opcode, ReadAddress, FastAddress, WriteAddress, Dummy, Data, StatusByte}
use Rattle.selection.specs.declared.phase.Phase.{Phase}
use Rattle.selection.specs.declared.phase.Phase.TheVariants.{Rest, Ignoring, Taking, Showing, Waiting, Pending}

-- the address of a data byte of WRITE that comes in
abbrev pub field_coming : Field → Option ℕ
field_coming Opcode = None
field_coming ReadAddress = None
field_coming FastAddress = None
field_coming WriteAddress = None
field_coming (Dummy a) = None
field_coming (Data a w) = Some a
field_coming StatusByte = None

abbrev pub coming_of : Phase → Option ℕ
coming_of Rest = None
coming_of Ignoring = None
coming_of (Taking f n v) = field_coming f
coming_of (Showing s k) = None
coming_of (Waiting a) = None
coming_of (Pending v a) = None

-- how many bits are in or have been shown
abbrev pub bits_of : Phase → ℕ
bits_of Rest = 0
bits_of Ignoring = 0
bits_of (Taking f n v) = n
bits_of (Showing s k) = k
bits_of (Waiting a) = 0
bits_of (Pending v a) = 8

-- the number that those that are in make
abbrev pub value_of : Phase → ℕ
value_of Rest = 0
value_of Ignoring = 0
value_of (Taking f n v) = v
value_of (Showing s k) = 0
value_of (Waiting a) = 0
value_of (Pending v a) = v

-- a data byte that waits is a byte
abbrev pub ByteIn : Phase → Type 0
ByteIn Rest = Unit {0}
ByteIn Ignoring = Unit {0}
ByteIn (Taking f n v) = Unit {0}
ByteIn (Showing s k) = Unit {0}
ByteIn (Waiting a) = Unit {0}
ByteIn (Pending v a) = v < 256

-- the phase that is kept beside them
abbrev pub kept_of : Phase → Phase
kept_of Rest = Rest
kept_of Ignoring = Ignoring
kept_of (Taking f n v) = Taking f n v
kept_of (Showing s k) = Showing s k
kept_of (Waiting a) = Waiting a
kept_of (Pending v a) = Taking (Data a true) 0 0

-- how many bits of a field come before the one that does more than add itself: the last one, but on a part that stores late the first of
-- the next data byte
abbrev pub early_in : Part → Field → ℕ
early_in p Opcode = 7
early_in p ReadAddress = p.width - 1
early_in p FastAddress = p.width - 1
early_in p WriteAddress = p.width - 1
early_in p (Dummy a) = 7
early_in p (Data a w) = cond p.late 8 7
early_in p StatusByte = 7

-- of a phase that is kept. One without bits stays as it is at every rise, so any number does
abbrev pub early_of : Part → Phase → ℕ
early_of p Rest = 7
early_of p Ignoring = 7
early_of p (Taking f n v) = early_in p f
early_of p (Showing s k) = 7
early_of p (Waiting a) = 7
early_of p (Pending v a) = 0

-- n bits of a field, which make v: a data byte with eight waits
abbrev pub taken_bits : Field → ℕ → ℕ → Phase
taken_bits Opcode n v = Taking Opcode n v
taken_bits ReadAddress n v = Taking ReadAddress n v
taken_bits FastAddress n v = Taking FastAddress n v
taken_bits WriteAddress n v = Taking WriteAddress n v
taken_bits (Dummy a) n v = Taking (Dummy a) n v
taken_bits (Data a w) n v = cond (eqb n 8) (Pending v a) (Taking (Data a w) n v)
taken_bits StatusByte n v = Taking StatusByte n v

-- the phase with n bits, which make v, in the place of its own
abbrev pub with_bits : Phase → ℕ → ℕ → Phase
with_bits Rest n v = Rest
with_bits Ignoring n v = Ignoring
with_bits (Taking f m u) n v = taken_bits f n v
with_bits (Showing s k) n v = Showing s n
with_bits (Waiting a) n v = Waiting a
with_bits (Pending u a) n v = Pending u a

-- the bits that a phase has after a rise that does more than add one: none, but after a data byte that waited the first of the next one
abbrev pub next_bits : Phase → ℕ
next_bits Rest = 0
next_bits Ignoring = 0
next_bits (Taking f n v) = 0
next_bits (Showing s k) = 0
next_bits (Waiting a) = 0
next_bits (Pending v a) = 1

abbrev pub next_value : Phase → Bool → ℕ
next_value Rest b = 0
next_value Ignoring b = 0
next_value (Taking f n v) b = 0
next_value (Showing s k) b = 0
next_value (Waiting a) b = 0
next_value (Pending v a) b = shifted 0 b
