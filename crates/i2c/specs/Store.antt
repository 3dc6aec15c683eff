-- What a rise of SCL writes: with WP low in its sample, the ninth rise of a data byte stores it. If WP is high there the byte is lost,
-- though acknowledged (own choice).
use Rattle.std.specs.Prelude.{ℕ, Bool, cond, ltb, None, Option}
use Rattle.serial.specs.Write.{write_at}
use Rattle.serial.specs.declared.write.Write.{Write}
use Rattle.transfer.specs.declared.phase.Field.{Field}
use Rattle.transfer.specs.declared.phase.Field.TheVariants.{Word, HighByte, LowByte, Data}
use Rattle.transfer.specs.declared.phase.Phase.{Phase}
use Rattle.transfer.specs.declared.phase.Phase.TheVariants.{Rest, Ignoring, Taking, Sending}

-- the ninth rise of a byte that came in as v
abbrev pub field_write : Field → ℕ → Bool → Option Write
field_write Word v wp = None
field_write (HighByte a16) v wp = None
field_write (LowByte a16 high) v wp = None
field_write (Data a) v wp = cond wp None (write_at a v)

-- what a rise of SCL writes at a sample with WP at wp
abbrev pub rise_write : Phase → Bool → Option Write
rise_write Rest wp = None
rise_write Ignoring wp = None
rise_write (Taking f n v) wp = cond (ltb n 8) None (field_write f v wp)
rise_write (Sending a n) wp = None
