-- What an SPI part answers, by document 01's sentences on the open selection: read off the accepted events, the ledger's memory and
-- the ledger's status register. Histories have the latest first.
use Rattle.std.specs.Prelude.{ℕ, ◌+◌, ◌-◌, ◌/◌, ◌%◌, ◌^◌, Bool, cond, List, [], ◌∷◌, ltb, length, get_or}
use Rattle.parts.specs.declared.part.Part.{Part}
use Rattle.parts.specs.declared.status.Status.{Status}
use Rattle.parts.specs.Status.{status_byte}
use Rattle.trace.specs.declared.event.Event.{Event}
use Rattle.trace.specs.declared.event.Event.TheVariants.{SpiPowerOn, I2cPowerOn, PowerOff, Sample, Expected}
use Rattle.selection.specs.declared.edge.Edge.{Edge}
use Rattle.selection.specs.declared.edge.Edge.TheVariants.{Select, Deselect, Rise, Fall, Quiet}
use Rattle.selection.specs.declared.levels.Levels.{Levels}
use Rattle.selection.specs.declared.opcode.Command.{Command}
use Rattle.selection.specs.declared.opcode.Command.TheVariants.{WREN, WRDI, RDSR, WRSR, READ, WRITE, FSTRD, RDID, SLEEP, Unknown}
use Rattle.selection.specs.Edge.{edge_of}
use Rattle.selection.specs.Levels.{levels_of}
use Rattle.ledger.specs.Stores.{stored}
use Rattle.ledger.specs.History.{Entry}
use Rattle.ledger.specs.SpiLedger.{unended, ended, Item, power_on, power_off, selection, last_sample, items, Reading, partial, command, reading, data_address, asleep, without_ignored, enabled, SavedBits, register, bits, writes}

-- ---- the last counted fall of the open selection

-- none yet, or one after counted rises with these bits: after n rises, n being their number
pub data LastFall : Type 0 where
  no_fall : LastFall
  after_rises : List Bool → LastFall

-- a counted fall comes after the bits of the selection that has not ended. It counts as none in a selection that is ignored, after a
-- whole SLEEP, or where CS# has not fallen since power on
abbrev pub fall_in : Part → List Item → LastFall
fall_in p [] = no_fall
fall_in p (power_on ∷ is) = no_fall
fall_in p (power_off ∷ is) = no_fall
fall_in p (selection bs unended ∷ is) = cond (asleep p is) no_fall (after_rises bs)
fall_in p (selection bs (ended wp) ∷ is) = no_fall

-- CS# falling and rising forget the last one; a counted rise and samples without an edge that counts keep it
abbrev pub fall_on : Edge → Part → List Item → LastFall → LastFall
fall_on Select p is f = no_fall
fall_on Deselect p is f = no_fall
fall_on (Rise b) p is f = f
fall_on Fall p is f = fall_in p is
fall_on Quiet p is f = f

-- power on and power off forget it too; an expected answer keeps it
abbrev pub fall_after : Event → Part → Levels → List Item → LastFall → LastFall
fall_after (SpiPowerOn x) p l is f = no_fall
fall_after (I2cPowerOn x a) p l is f = f
fall_after PowerOff p l is f = no_fall
fall_after (Sample x) p l is f = fall_on (edge_of l (levels_of x)) p is f
fall_after (Expected v) p l is f = f

-- of a history
abbrev pub last_fall : Part → List Entry → LastFall
last_fall p [] = no_fall
last_fall p (e ∷ h) = fall_after e.event p (last_sample h) (items h) (last_fall p h)

-- ---- what a command shows

-- no byte, or this one
pub data Output : Type 0 where
  nothing : Output
  byte : ℕ → Output

-- h, the rises before the output: the opcode, for READ the address too, and for FSTRD one byte more, which is 40 on part 1, the one
-- part that has it. The other commands show nothing, whatever their number here
abbrev pub output_from : Part → Command → ℕ
output_from p WREN = 8
output_from p WRDI = 8
output_from p RDSR = 8
output_from p WRSR = 8
output_from p READ = 8 + p.width
output_from p WRITE = 8
output_from p FSTRD = 8 + p.width + 8
output_from p RDID = 8
output_from p SLEEP = 8
output_from p Unknown = 8

-- byte number i of a command whose opcode is followed by the bits rest: RDSR has the status register each time, READ and FSTRD the
-- byte i addresses further, modulo the size, RDID the identity, which ends with its third byte (own choice)
abbrev pub output : Part → Status → List ℕ → Command → List Bool → ℕ → Output
output p st m WREN rest i = nothing
output p st m WRDI rest i = nothing
output p st m RDSR rest i = byte (status_byte st)
output p st m WRSR rest i = nothing
output p st m READ rest i = byte (get_or m ((data_address p rest + i) % p.size) 0)
output p st m WRITE rest i = nothing
output p st m FSTRD rest i = byte (get_or m ((data_address p rest + i) % p.size) 0)
output p st m RDID rest i = cond (ltb i 3) (byte (get_or p.identity i 0)) nothing
output p st m SLEEP rest i = nothing
output p st m Unknown rest i = nothing

-- the answer that shows bit 7 - k of a byte: the bit itself, or 2
abbrev pub bit_shown : Output → ℕ → ℕ
bit_shown nothing k = 2
bit_shown (byte v) k = v / 2 ^ (7 - k) % 2

-- n counted rises before the fall, of which h were no output: n - h, divided by 8, is the number of the byte shown, and the
-- remainder counts its bits from the top; nothing is shown before, nor while the opcode is not whole
abbrev pub read_shows : Part → Status → List ℕ → Reading → ℕ → ℕ
read_shows p st m partial n = 2
read_shows p st m (command k rest) n =
    cond (ltb n (output_from p k)) 2
    (bit_shown (output p st m k rest ((n - output_from p k) / 8)) ((n - output_from p k) % 8))

-- what a last counted fall shows, with this status register and this memory
abbrev pub fall_shows : Part → Status → List ℕ → LastFall → ℕ
fall_shows p st m no_fall = 2
fall_shows p st m (after_rises bs) = read_shows p st m (reading p bs) (length bs)

-- ---- the answer

-- nothing is driven while the part is unselected or held; a hold does not change what is shown after it
abbrev pub unless_held : Levels → ℕ → ℕ
unless_held l a = cond l.cs 2 (cond l.hold a 2)

-- the ledger's memory and status register
abbrev pub memory_now : Part → SavedBits → List ℕ → List Entry → List ℕ
memory_now p made first h = stored first (writes p made (without_ignored p (items h)))

abbrev pub register_now : Part → SavedBits → List Entry → Status
register_now p made h = register (bits p made (without_ignored p (items h))) (enabled p (without_ignored p (items h)))

-- the answer of the latest event of a history, for a part made with these bits and a first memory. Without power there is no sample,
-- which counts as CS# 1
abbrev pub spi_answer : Part → SavedBits → List ℕ → List Entry → ℕ
spi_answer p made first h =
    unless_held (last_sample h) (fall_shows p (register_now p made h) (memory_now p made first h) (last_fall p h))
