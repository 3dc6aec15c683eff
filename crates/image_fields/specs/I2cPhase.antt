-- The phase of an I2C part as fields, with tags of its own: 1 takes bits in, 2 sends them.
use Rattle.std.specs.Prelude.{ℕ, ◌*◌, Bool, cond, eqb}
use Rattle.parts.specs.Status.{bit}
use Rattle.transfer.specs.declared.phase.Field.{Field}
use Rattle.transfer.specs.declared.phase.Field.TheVariants.{Word, HighByte, LowByte, Data}
use Rattle.transfer.specs.declared.phase.Phase.{Phase}
use Rattle.transfer.specs.declared.phase.Phase.TheVariants.{Rest, Ignoring, Taking, Sending}
use Rattle.image_fields.specs.declared.fields.PhaseFields.{PhaseFields}
use Rattle.image_fields.specs.Fields.{phase_fields, only_tag}

-- ---- from a phase

-- A16 stands where it has its place in an address
abbrev pub a16_address : Bool → ℕ
a16_address a16 = 65536 * bit a16

-- n rises of a byte are in, whose bits make v
abbrev pub taking_fields : Field → ℕ → ℕ → PhaseFields
taking_fields Word n v = phase_fields 0x18 n v 0 0
taking_fields (HighByte a16) n v = phase_fields 0x19 n v (a16_address a16) 0
taking_fields (LowByte a16 high) n v = phase_fields 0x1a n v (a16_address a16) high
taking_fields (Data a) n v = phase_fields 0x1b n v a 0

abbrev pub fields_of : Phase → PhaseFields
fields_of Rest = only_tag 0x00
fields_of Ignoring = only_tag 0x01
fields_of (Taking f n v) = taking_fields f n v
fields_of (Sending a n) = phase_fields 0x28 n 0 a 0

-- ---- and back

abbrev pub a16_in : PhaseFields → Bool
a16_in x = eqb x.address 65536

abbrev pub taking_in : Field → PhaseFields → Phase
taking_in f x = Taking f x.count x.value

-- a tag of no phase reads as that of a part at rest, whose fields are others: such an image is not taken
unfoldable pub phase_in : PhaseFields → Phase
phase_in x =
    cond (eqb x.tag 0x00) Rest
    (cond (eqb x.tag 0x01) Ignoring
    (cond (eqb x.tag 0x18) (taking_in Word x)
    (cond (eqb x.tag 0x19) (taking_in (HighByte (a16_in x)) x)
    (cond (eqb x.tag 0x1a) (taking_in (LowByte (a16_in x) x.detail) x)
    (cond (eqb x.tag 0x1b) (taking_in (Data x.address) x)
    (cond (eqb x.tag 0x28) (Sending x.address x.count) Rest))))))
