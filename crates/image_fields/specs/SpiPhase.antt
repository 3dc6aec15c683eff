-- The phase of an SPI part as fields. The tag's first digit tells what the part does: 1 takes bits in, 2 shows them, 3 waits for CS# to
-- rise, and with a data byte yet to be stored for that or the next bit.
use Rattle.std.specs.Prelude.{ℕ, cond, eqb}
use Rattle.parts.specs.Status.{bit}
use Rattle.selection.specs.declared.phase.Field.{Field}
use Rattle.selection.specs.declared.phase.Field.TheVariants.{Opcode, ReadAddress, FastAddress, WriteAddress, Dummy, Data, StatusByte}
use Rattle.selection.specs.declared.phase.Source.{Source}
use Rattle.selection.specs.declared.phase.Source.TheVariants.{Memory, Register, Identity}
use Rattle.selection.specs.declared.phase.Action.{Action}
use Rattle.selection.specs.declared.phase.Action.TheVariants.{SetLatch, ClearLatch, FallAsleep, WriteStatus}
use Rattle.selection.specs.declared.phase.Phase.{Phase}
use Rattle.selection.specs.declared.phase.Phase.TheVariants.{Rest, Ignoring, Taking, Showing, Waiting, Pending}
use Rattle.image_fields.specs.declared.fields.PhaseFields.{PhaseFields}
use Rattle.image_fields.specs.Fields.{phase_fields, only_tag}

-- ---- from a phase

-- n bits of a field are in, which make v
abbrev pub taking_fields : Field → ℕ → ℕ → PhaseFields
taking_fields Opcode n v = phase_fields 0x10 n v 0 0
taking_fields ReadAddress n v = phase_fields 0x11 n v 0 0
taking_fields FastAddress n v = phase_fields 0x12 n v 0 0
taking_fields WriteAddress n v = phase_fields 0x13 n v 0 0
taking_fields (Dummy a) n v = phase_fields 0x14 n v a 0
taking_fields (Data a whole) n v = phase_fields 0x15 n v a (bit whole)
taking_fields StatusByte n v = phase_fields 0x16 n v 0 0

-- k bits of a byte have been shown
abbrev pub showing_fields : Source → ℕ → PhaseFields
showing_fields (Memory a) k = phase_fields 0x20 k 0 a 0
showing_fields Register k = phase_fields 0x21 k 0 0 0
showing_fields (Identity i) k = phase_fields 0x22 k 0 0 i

abbrev pub waiting_fields : Action → PhaseFields
waiting_fields SetLatch = only_tag 0x30
waiting_fields ClearLatch = only_tag 0x31
waiting_fields FallAsleep = only_tag 0x32
waiting_fields (WriteStatus v) = phase_fields 0x33 0 0 0 v

abbrev pub fields_of : Phase → PhaseFields
fields_of Rest = only_tag 0x00
fields_of Ignoring = only_tag 0x01
fields_of (Taking f n v) = taking_fields f n v
fields_of (Showing s k) = showing_fields s k
fields_of (Waiting a) = waiting_fields a
fields_of (Pending v a) = phase_fields 0x34 0 0 a v

-- ---- and back

abbrev pub taking_in : Field → PhaseFields → Phase
taking_in f x = Taking f x.count x.value

abbrev pub showing_in : Source → PhaseFields → Phase
showing_in s x = Showing s x.count

-- a tag of no phase reads as that of a part at rest, whose fields are others: such an image is not taken
unfoldable pub phase_in : PhaseFields → Phase
phase_in x =
    cond (eqb x.tag 0x00) Rest
    (cond (eqb x.tag 0x01) Ignoring
    (cond (eqb x.tag 0x10) (taking_in Opcode x)
    (cond (eqb x.tag 0x11) (taking_in ReadAddress x)
    (cond (eqb x.tag 0x12) (taking_in FastAddress x)
    (cond (eqb x.tag 0x13) (taking_in WriteAddress x)
    (cond (eqb x.tag 0x14) (taking_in (Dummy x.address) x)
    (cond (eqb x.tag 0x15) (taking_in (Data x.address (eqb x.detail 1)) x)
    (cond (eqb x.tag 0x16) (taking_in StatusByte x)
    (cond (eqb x.tag 0x20) (showing_in (Memory x.address) x)
    (cond (eqb x.tag 0x21) (showing_in Register x)
    (cond (eqb x.tag 0x22) (showing_in (Identity x.detail) x)
    (cond (eqb x.tag 0x30) (Waiting SetLatch)
    (cond (eqb x.tag 0x31) (Waiting ClearLatch)
    (cond (eqb x.tag 0x32) (Waiting FallAsleep)
    (cond (eqb x.tag 0x33) (Waiting (WriteStatus x.detail))
    (cond (eqb x.tag 0x34) (Pending x.detail x.address) Rest))))))))))))))))
