-- The bytes of a selection before its data: opcode, address, the dummy byte of FSTRD, the data byte of WRSR.
use Rattle.std.specs.Prelude.{ℕ, ◌+◌, ◌%◌, ◌≡◌, Bool, true, false, cond, List, [], ◌∷◌}
use Rattle.parts.specs.declared.part.Part.{Part}
use Rattle.parts.specs.Table.{Fit}
use Rattle.selection.specs.declared.phase.Field.{Field}
use Rattle.selection.specs.declared.phase.Field.TheVariants.{Opcode, ReadAddress, FastAddress, WriteAddress, Dummy, Data, StatusByte}
use Rattle.selection.specs.declared.phase.Phase.{Phase}
use Rattle.selection.specs.declared.phase.Phase.TheVariants.{Rest, Ignoring, Taking, Showing, Waiting, Pending}
use Rattle.selection.specs.Ranges.{PhaseIn}
use Rattle.byte_path.specs.declared.head.Head.{Head}
use Rattle.byte_path.specs.ByBytes.{AtBorder, phase_after_byte}

-- a field that waits for such a byte
abbrev pub head_field : Field → Bool
head_field Opcode = true
head_field ReadAddress = true
head_field FastAddress = true
head_field WriteAddress = true
head_field (Dummy a) = true
head_field (Data a w) = false
head_field StatusByte = true

abbrev pub is_head : Phase → Bool
is_head Rest = false
is_head Ignoring = false
is_head (Taking f n v) = head_field f
is_head (Showing s k) = false
is_head (Waiting a) = false
is_head (Pending w a) = false

-- n bytes more before it
abbrev pub ahead : ℕ → Head → Head
ahead n h = record { phase = h.phase; at = n + h.at }

-- the phase in which the head has been taken, and how many bytes it had
abbrev pub head_from : Part → Phase → List ℕ → Head
head_from p ph [] = record { phase = ph; at = 0 }
head_from p ph (v ∷ vs) = cond (is_head ph) (ahead 1 (head_from p (phase_after_byte p ph v) vs)) (record { phase = ph; at = 0 })

-- a part whose addresses have whole bytes, and a phase in its ranges at a byte's border
pub record Bordered (p : Part) (ph : Phase) : Type 0 where
  pub fit : Fit p
  pub bytewise : p.width % 8 ≡ 0
  pub border : AtBorder p ph
  pub inside : PhaseIn p ph
