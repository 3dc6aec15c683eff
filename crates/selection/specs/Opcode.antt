-- Which command an opcode is on a part. One that the part lacks is Unknown, and what is left of the selection is ignored.
use Rattle.std.specs.Prelude.{ℕ, cond, eqb}
use Rattle.parts.specs.declared.part.Part.{Part}
use Rattle.selection.specs.declared.opcode.Command.{Command}
use Rattle.selection.specs.declared.opcode.Command.TheVariants.{WREN, WRDI, RDSR, WRSR, READ, WRITE, FSTRD, RDID, SLEEP, Unknown}

unfoldable pub command_of : Part → ℕ → Command
command_of p k =
    cond (eqb k 0x06) WREN
    (cond (eqb k 0x04) WRDI
    (cond (eqb k 0x05) RDSR
    (cond (eqb k 0x01) WRSR
    (cond (eqb k 0x03) READ
    (cond (eqb k 0x02) WRITE
    (cond (eqb k 0x0b) (cond p.fstrd FSTRD Unknown)
    (cond (eqb k 0x9f) (cond p.rdid RDID Unknown)
    (cond (eqb k 0xb9) (cond p.sleep SLEEP Unknown)
    Unknown))))))))
