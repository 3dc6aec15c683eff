-- What the numbers of a phase and of the address buffer may be: as a proposition, and as the test of the same.
use Rattle.std.specs.Prelude.{ℕ, ◌^◌, ◌<◌, ◌≤◌, Bool, true, ◌&&◌, ltb, leb}
use Rattle.parts.specs.declared.part.Part.{Part}
use Rattle.parts.specs.Table.{Fit}
use Rattle.transfer.specs.declared.buffer.AddressBuffer.{AddressBuffer}
use Rattle.transfer.specs.declared.phase.Field.{Field}
use Rattle.transfer.specs.declared.phase.Field.TheVariants.{Word, HighByte, LowByte, Data}
use Rattle.transfer.specs.declared.phase.Phase.{Phase}
use Rattle.transfer.specs.declared.phase.Phase.TheVariants.{Rest, Ignoring, Taking, Sending}

-- an address lies within the part
abbrev pub FieldIn : Part → Field → Type 0
FieldIn p Word = Unit {0}
FieldIn p (HighByte a16) = Unit {0}
FieldIn p (LowByte a16 high) = Unit {0}
FieldIn p (Data a) = a < p.size

-- at most eight of nine rises are in, and the bits make a number of as many bits
abbrev pub PhaseIn : Part → Phase → Type 0
PhaseIn p Rest = Unit {0}
PhaseIn p Ignoring = Unit {0}
PhaseIn p (Taking f n v) = FieldIn p f × (n ≤ 8) × (v < 2 ^ n)
PhaseIn p (Sending a n) = (a < p.size) × (n ≤ 8)

-- constants that fit, address pins that the part can have, and a buffer that holds an address of it
pub record Placed (p : Part) (pins : ℕ) (b : AddressBuffer) : Type 0 where
  pub fit : Fit p
  pub wired : pins < p.pins
  pub buffered : b.address < p.size

abbrev pub field_in : Part → Field → Bool
field_in p Word = true
field_in p (HighByte a16) = true
field_in p (LowByte a16 high) = true
field_in p (Data a) = ltb a p.size

abbrev pub phase_in : Part → Phase → Bool
phase_in p Rest = true
phase_in p Ignoring = true
phase_in p (Taking f n v) = field_in p f && (leb n 8 && ltb v (2 ^ n))
phase_in p (Sending a n) = ltb a p.size && leb n 8
