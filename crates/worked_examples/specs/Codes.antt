-- The opcodes of the SPI parts as their sheets list them: what each of the 256 codes is, so that no code is one command more.
use Rattle.std.specs.Prelude.{ℕ, ◌≡◌, cond, List, [], ◌∷◌, ◌++◌, map, eqb, get_or}
use Rattle.parts.specs.Table.{part_of}
use Rattle.selection.specs.declared.opcode.Command.{Command}
use Rattle.selection.specs.declared.opcode.Command.TheVariants.{WREN, WRDI, RDSR, WRSR, READ, WRITE, FSTRD, RDID, SLEEP, Unknown}
use Rattle.selection.specs.Opcode.{command_of}
use Rattle.worked_examples.specs.Refusals.{up_from}

pub record Code : Type 0 where
  pub code : ℕ
  pub command : Command

abbrev pub is : ℕ → Command → Code
is k c = record { code = k; command = c }

abbrev pub six : List Code
six = is 0x01 WRSR ∷ is 0x02 WRITE ∷ is 0x03 READ ∷ is 0x04 WRDI ∷ is 0x05 RDSR ∷ is 0x06 WREN ∷ []

-- of part 0, 1 or 2
abbrev pub codes_of : ℕ → List Code
codes_of part = get_or (six ∷ (six ++ (is 0x0b FSTRD ∷ is 0x9f RDID ∷ is 0xb9 SLEEP ∷ [])) ∷ (six ++ (is 0x9f RDID ∷ [])) ∷ []) part []

-- a code that is not listed is none that the part has
abbrev pub listed : List Code → ℕ → Command
listed [] k = Unknown
listed (c ∷ cs) k = cond (eqb k c.code) c.command (listed cs k)

abbrev pub Coded : ℕ → Type 0
Coded part = map (command_of (part_of part)) (up_from 0 256) ≡ map (listed (codes_of part)) (up_from 0 256)
