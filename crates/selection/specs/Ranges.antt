-- What the numbers of a phase may be: as a proposition, and as the test of the same.
use Rattle.std.specs.Prelude.{ℕ, ◌^◌, ◌<◌, ◌≤◌, ◌≡◌, Bool, true, ◌&&◌, ltb, leb}
use Rattle.parts.specs.declared.part.Part.{Part}
use Rattle.selection.specs.declared.phase.Field.{Field}
use Rattle.selection.specs.declared.phase.Field.TheVariants.{Opcode, ReadAddress, FastAddress, WriteAddress, Dummy, Data, StatusByte}
use Rattle.selection.specs.declared.phase.Source.{Source}
use Rattle.selection.specs.declared.phase.Source.TheVariants.{Memory, Register, Identity}
use Rattle.selection.specs.declared.phase.Phase.{Phase}
use Rattle.selection.specs.declared.phase.Phase.TheVariants.{Rest, Ignoring, Taking, Showing, Waiting, Pending}
use Rattle.selection.specs.Phase.{width}

-- an address lies within the part
abbrev pub FieldIn : Part → Field → Type 0
FieldIn p Opcode = Unit {0}
FieldIn p ReadAddress = Unit {0}
FieldIn p FastAddress = Unit {0}
FieldIn p WriteAddress = Unit {0}
FieldIn p (Dummy a) = a < p.size
FieldIn p (Data a w) = a < p.size
FieldIn p StatusByte = Unit {0}

abbrev pub SourceIn : Part → Source → Type 0
SourceIn p (Memory a) = a < p.size
SourceIn p Register = Unit {0}
SourceIn p (Identity i) = i ≤ 3

-- a field is short of its width, and its bits make a number of as many bits
pub record TakingIn (p : Part) (f : Field) (n v : ℕ) : Type 0 where
  pub field : FieldIn p f
  pub short : n < width p f
  pub bits : v < 2 ^ n

-- a byte has eight bits
pub record ShowingIn (p : Part) (s : Source) (k : ℕ) : Type 0 where
  pub source : SourceIn p s
  pub bit : k < 8

-- a data byte waits only on a part that stores late, for an address within the part
pub record PendingIn (p : Part) (a : ℕ) : Type 0 where
  pub late : p.late ≡ true
  pub address : a < p.size

abbrev pub PhaseIn : Part → Phase → Type 0
PhaseIn p Rest = Unit {0}
PhaseIn p Ignoring = Unit {0}
PhaseIn p (Taking f n v) = TakingIn p f n v
PhaseIn p (Showing s k) = ShowingIn p s k
PhaseIn p (Waiting a) = Unit {0}
PhaseIn p (Pending v a) = PendingIn p a

abbrev pub field_in : Part → Field → Bool
field_in p Opcode = true
field_in p ReadAddress = true
field_in p FastAddress = true
field_in p WriteAddress = true
field_in p (Dummy a) = ltb a p.size
field_in p (Data a w) = ltb a p.size
field_in p StatusByte = true

abbrev pub source_in : Part → Source → Bool
source_in p (Memory a) = ltb a p.size
source_in p Register = true
source_in p (Identity i) = leb i 3

abbrev pub phase_in : Part → Phase → Bool
phase_in p Rest = true
phase_in p Ignoring = true
phase_in p (Taking f n v) = field_in p f && (ltb n (width p f) && ltb v (2 ^ n))
phase_in p (Showing s k) = source_in p s && ltb k 8
phase_in p (Waiting a) = true
phase_in p (Pending v a) = p.late && ltb a p.size
