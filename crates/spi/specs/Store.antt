-- What WRITE stores: with WEL set, a data byte, except where block protection covers its address. It is stored at the rise of its eighth
-- bit; on a part that stores late at the next counted rise or as CS# rises, whichever comes first (document 02, ask 6; sheet 000).
use Rattle.std.specs.Prelude.{ℕ, Bool, cond, ◌&&◌, ltb, None, Option}
use Rattle.parts.specs.declared.part.Part.{Part}
use Rattle.parts.specs.declared.status.Status.{Status}
use Rattle.parts.specs.Status.{protected_start}
use Rattle.serial.specs.Write.{write_at}
use Rattle.serial.specs.declared.write.Write.{Write}
use Rattle.serial.specs.Bits.{shifted}
use Rattle.selection.specs.declared.phase.Field.{Field}
use Rattle.selection.specs.declared.phase.Field.TheVariants.{Opcode, ReadAddress, FastAddress, WriteAddress, Dummy, Data, StatusByte}
use Rattle.selection.specs.declared.phase.Phase.{Phase}
use Rattle.selection.specs.declared.phase.Phase.TheVariants.{Rest, Ignoring, Taking, Showing, Waiting, Pending}

-- a whole data byte v for the address a: written with WEL set and below the protected start
abbrev pub permitted : Part → Status → ℕ → ℕ → Option Write
permitted p st a v = cond (st.wel && ltb a (protected_start st p)) (write_at a v) None

-- a finished data byte: a part that stores late writes nothing yet
abbrev pub finished_write : Part → Status → ℕ → ℕ → Option Write
finished_write p st a v = cond p.late None (permitted p st a v)

-- a data byte for the address a, of which n bits are in and make v, gets the bit b
abbrev pub data_write : Part → Status → ℕ → ℕ → ℕ → Bool → Option Write
data_write p st a n v b = cond (ltb n 7) None (finished_write p st a (shifted v b))

abbrev pub field_write : Part → Status → Field → ℕ → ℕ → Bool → Option Write
field_write p st Opcode n v b = None
field_write p st ReadAddress n v b = None
field_write p st FastAddress n v b = None
field_write p st WriteAddress n v b = None
field_write p st (Dummy a) n v b = None
field_write p st (Data a w) n v b = data_write p st a n v b
field_write p st StatusByte n v b = None

-- what a counted rise with the bit b writes. A data byte that waits is written as the next one begins; WEL and block protection are as
-- they were when it was finished, since only the end of a selection changes them
abbrev pub rise_write : Part → Status → Phase → Bool → Option Write
rise_write p st Rest b = None
rise_write p st Ignoring b = None
rise_write p st (Taking f n v) b = field_write p st f n v b
rise_write p st (Showing s k) b = None
rise_write p st (Waiting a) b = None
rise_write p st (Pending v a) b = permitted p st a v

-- what CS# rising writes: a data byte that waits
abbrev pub end_write : Part → Status → Phase → Option Write
end_write p st Rest = None
end_write p st Ignoring = None
end_write p st (Taking f n v) = None
end_write p st (Showing s k) = None
end_write p st (Waiting a) = None
end_write p st (Pending v a) = permitted p st a v
