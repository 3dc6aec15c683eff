-- What the bytes after the head do, by their number: what they bring back, what they store, and the phase in which CS# then rises.
use Rattle.std.specs.Prelude.{ℕ, zero, suc, ◌+◌, Bool, true, cond, List, [], ◌∷◌, ltb, get_or, replicate}
use Rattle.parts.specs.declared.answer.Answer.TheVariants.{HighZ}
use Rattle.parts.specs.declared.part.Part.{Part}
use Rattle.parts.specs.declared.status.Status.{Status}
use Rattle.parts.specs.Status.{protected_start}
use Rattle.rolled_write.specs.Written.{written_from}
use Rattle.selection.specs.declared.phase.Field.{Field}
use Rattle.selection.specs.declared.phase.Field.TheVariants.{Opcode, ReadAddress, FastAddress, WriteAddress, Dummy, Data, StatusByte}
use Rattle.selection.specs.declared.phase.Phase.{Phase}
use Rattle.selection.specs.declared.phase.Phase.TheVariants.{Rest, Ignoring, Taking, Showing, Waiting, Pending}
use Rattle.selection.specs.declared.phase.Source.{Source}
use Rattle.selection.specs.Phase.{next_source}
use Rattle.spi_status.specs.Deselect.{status_after, asleep_after}
use Rattle.chip.specs.declared.model.BusState.TheVariants.{SpiOn}
use Rattle.chip.specs.declared.model.Model.{Model}
use Rattle.chip.specs.Model.{model_of}
use Rattle.byte_path.specs.PinPath.{Back}
use Rattle.byte_path.specs.ByBytes.{undriven, source_back, end_levels}

-- n bytes of what is shown
abbrev pub shown_from : Part → Status → List ℕ → Source → ℕ → List Back
shown_from p st m s zero = []
shown_from p st m s (suc n) = source_back p st m s ∷ shown_from p st m (next_source p s) n

abbrev pub rest_back : Part → Status → List ℕ → Phase → ℕ → List Back
rest_back p st m Rest n = replicate n undriven
rest_back p st m Ignoring n = replicate n undriven
rest_back p st m (Taking f k v) n = replicate n undriven
rest_back p st m (Showing s k) n = shown_from p st m s n
rest_back p st m (Waiting a) n = replicate n undriven
rest_back p st m (Pending w a) n = replicate n undriven

-- an identity from byte number i on; past its third byte nothing is driven
abbrev pub identity_from : List ℕ → ℕ → ℕ → List ℕ
identity_from id i zero = []
identity_from id i (suc n) = cond (ltb i 3) (get_or id i 0) 255 ∷ identity_from id (cond (ltb i 3) (i + 1) i) n

-- data bytes of WRITE are stored if WEL is set: all of them, since CS# rises after the last
abbrev pub field_memory : Part → Status → List ℕ → Field → List ℕ → List ℕ
field_memory p st m Opcode vs = m
field_memory p st m ReadAddress vs = m
field_memory p st m FastAddress vs = m
field_memory p st m WriteAddress vs = m
field_memory p st m (Dummy a) vs = m
field_memory p st m (Data a w) vs = cond st.wel (written_from (protected_start st p) m a vs) m
field_memory p st m StatusByte vs = m

abbrev pub rest_memory : Part → Status → List ℕ → Phase → List ℕ → List ℕ
rest_memory p st m Rest vs = m
rest_memory p st m Ignoring vs = m
rest_memory p st m (Taking f k v) vs = field_memory p st m f vs
rest_memory p st m (Showing s k) vs = m
rest_memory p st m (Waiting a) vs = m
-- impossible: no head ends with a data byte that waits
rest_memory p st m (Pending w a) vs = m

-- for what CS# rising does it only counts whether WRITE had a data byte
abbrev pub field_end : Field → Bool → Field
field_end Opcode some = Opcode
field_end ReadAddress some = ReadAddress
field_end FastAddress some = FastAddress
field_end WriteAddress some = WriteAddress
field_end (Dummy a) some = Dummy a
field_end (Data a w) some = Data a (cond some true w)
field_end StatusByte some = StatusByte

abbrev pub phase_end : Phase → Bool → Phase
phase_end Rest some = Rest
phase_end Ignoring some = Ignoring
phase_end (Taking f n v) some = Taking (field_end f some) n v
phase_end (Showing s k) some = Showing s k
phase_end (Waiting a) some = Waiting a
phase_end (Pending w a) some = Pending w a

-- the state after CS# has risen in a phase
abbrev pub ended_model : Model → Bool → Bool → Phase → Bool → Model
ended_model s wp z ph si =
    model_of s.part s.pins (status_after s.status wp ph)
    (SpiOn (record { last = end_levels si wp; asleep = asleep_after z ph; shown = HighZ; phase = Rest }))
