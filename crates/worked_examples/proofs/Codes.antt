-- Every code is the command that the sheets list for it. Computed. Assumes nothing.
use mathlib.Core.Path.{refl}
use Rattle.selection.specs.Opcode.{command_of}
use Rattle.worked_examples.specs.Codes.{Coded}

pub opcodes : Coded 0 × (Coded 1 × Coded 2)
unfolding command_of
opcodes = (refl, (refl, refl))
