-- The ledger of an SPI part: permitted writes and status writes, read off the accepted events by selections.
-- Histories and lists of items have the latest first.
use Rattle.std.specs.Prelude.{ℕ, ◌/◌, ◌%◌, Bool, true, false, cond, not, ◌&&◌, List, [], ◌∷◌, ◌++◌, eqb, ltb}
use Rattle.parts.specs.declared.part.Part.{Part}
use Rattle.parts.specs.declared.status.Status.{Status}
use Rattle.parts.specs.Status.{protected_start}
use Rattle.serial.specs.Address.{next_address}
use Rattle.trace.specs.declared.event.Event.{Event}
use Rattle.trace.specs.declared.event.Event.TheVariants.{SpiPowerOn, I2cPowerOn, PowerOff, Sample, Expected}
use Rattle.selection.specs.declared.edge.Edge.{Edge}
use Rattle.selection.specs.declared.edge.Edge.TheVariants.{Select, Deselect, Rise, Fall, Quiet}
use Rattle.selection.specs.declared.levels.Levels.{Levels}
use Rattle.selection.specs.declared.opcode.Command.{Command}
use Rattle.selection.specs.declared.opcode.Command.TheVariants.{WREN, WRDI, RDSR, WRSR, READ, WRITE, FSTRD, RDID, SLEEP, Unknown}
use Rattle.selection.specs.Edge.{edge_of}
use Rattle.selection.specs.Levels.{levels_of}
use Rattle.selection.specs.Opcode.{command_of}
use Rattle.ledger.specs.Bits.{number, FieldBits, short, whole, field, bytes}
use Rattle.ledger.specs.Stores.{Store}
use Rattle.ledger.specs.History.{Entry}

-- ---- selections

-- CS# has not risen yet, or has risen at a sample with this WP#
pub data End : Type 0 where
  unended : End
  ended : Bool → End

-- power on, power off, and a selection with the bits of its counted rises
pub data Item : Type 0 where
  power_on : Item
  power_off : Item
  selection : List Bool → End → Item

-- a counted rise adds a bit to the open selection; there is none if CS# has been 0 since power on
abbrev pub with_bit : Bool → List Item → List Item
with_bit b [] = []
with_bit b (power_on ∷ is) = power_on ∷ is
with_bit b (power_off ∷ is) = power_off ∷ is
with_bit b (selection bs unended ∷ is) = selection (bs ++ (b ∷ [])) unended ∷ is
with_bit b (selection bs (ended w) ∷ is) = selection bs (ended w) ∷ is

-- CS# rises at a sample with this WP#
abbrev pub closed : Bool → List Item → List Item
closed wp [] = []
closed wp (power_on ∷ is) = power_on ∷ is
closed wp (power_off ∷ is) = power_off ∷ is
closed wp (selection bs unended ∷ is) = selection bs (ended wp) ∷ is
closed wp (selection bs (ended w) ∷ is) = selection bs (ended w) ∷ is

-- what an edge adds: CS# falling opens a selection and rising ends it, a counted rise is a bit
abbrev pub items_on_edge : Edge → Bool → List Item → List Item
items_on_edge Select wp is = selection [] unended ∷ is
items_on_edge Deselect wp is = closed wp is
items_on_edge (Rise b) wp is = with_bit b is
items_on_edge Fall wp is = is
items_on_edge Quiet wp is = is

-- before power on there is no sample; CS# 1 stands for that
abbrev pub no_sample : Levels
no_sample = record { cs = true; sck = false; si = false; wp = false; hold = false }

abbrev pub last_after : Event → Levels → Levels
last_after (SpiPowerOn x) l = levels_of x
last_after (I2cPowerOn x a) l = l
last_after PowerOff l = no_sample
last_after (Sample x) l = levels_of x
last_after (Expected v) l = l

abbrev pub items_after : Event → Levels → List Item → List Item
items_after (SpiPowerOn x) l is = power_on ∷ is
items_after (I2cPowerOn x a) l is = is
items_after PowerOff l is = power_off ∷ is
items_after (Sample x) l is = items_on_edge (edge_of l (levels_of x)) (levels_of x).wp is
items_after (Expected v) l is = is

-- the levels of the last sample of a history
abbrev pub last_sample : List Entry → Levels
last_sample [] = no_sample
last_sample (e ∷ h) = last_after e.event (last_sample h)

-- the items of a history
abbrev pub items : List Entry → List Item
items [] = []
items (e ∷ h) = items_after e.event (last_sample h) (items h)

-- ---- what the bits of a selection say

-- no whole opcode yet, or a command and the bits after its opcode
pub data Reading : Type 0 where
  partial : Reading
  command : Command → List Bool → Reading

abbrev pub opcode_read : Part → FieldBits → Reading
opcode_read p (short xs) = partial
opcode_read p (whole xs rest) = command (command_of p (number xs)) rest

abbrev pub reading : Part → List Bool → Reading
reading p bs = opcode_read p (field 8 bs)

-- the bits after a whole address, of which there are none if the address is not whole
abbrev pub after_address : FieldBits → List Bool
after_address (short xs) = []
after_address (whole xs rest) = rest

-- the address of a command; it counts modulo the size
abbrev pub address_in : Part → FieldBits → ℕ
address_in p (short xs) = 0
address_in p (whole xs rest) = number xs % p.size

-- all but the last of a list of bits
abbrev pub all_but_last : List Bool → List Bool
all_but_last [] = []
all_but_last (b ∷ []) = []
all_but_last (b ∷ c ∷ bs) = b ∷ all_but_last (c ∷ bs)

-- the data bits of a WRITE among which its whole bytes are. On a part that stores late a byte is whole only once it has been followed, by
-- another counted rise or by CS# rising (document 02, ask 6): while CS# has not risen, the last bit makes no byte whole
abbrev pub followed_bits : Part → End → List Bool → List Bool
followed_bits p unended bs = cond p.late (all_but_last bs) bs
followed_bits p (ended wp) bs = bs

-- the whole data bytes of WRITE, whose address comes first, and where they begin
abbrev pub data_bytes : Part → End → List Bool → List ℕ
data_bytes p x rest = bytes (followed_bits p x (after_address (field p.width rest)))

abbrev pub data_address : Part → List Bool → ℕ
data_address p rest = address_in p (field p.width rest)

-- ---- sleep: after a whole SLEEP the next selection of the same power on is ignored, and left out here

abbrev pub sleep_command : Command → Bool
sleep_command WREN = false
sleep_command WRDI = false
sleep_command RDSR = false
sleep_command WRSR = false
sleep_command READ = false
sleep_command WRITE = false
sleep_command FSTRD = false
sleep_command RDID = false
sleep_command SLEEP = true
sleep_command Unknown = false

abbrev pub is_sleep : Reading → Bool
is_sleep partial = false
is_sleep (command k rest) = sleep_command k

abbrev pub asleep : Part → List Item → Bool
asleep p [] = false
asleep p (power_on ∷ is) = false
asleep p (power_off ∷ is) = false
asleep p (selection bs unended ∷ is) = asleep p is
asleep p (selection bs (ended wp) ∷ is) = cond (asleep p is) false (is_sleep (reading p bs))

-- the items without the selections that a sleeping part ignores
abbrev pub without_ignored : Part → List Item → List Item
without_ignored p [] = []
without_ignored p (power_on ∷ is) = power_on ∷ without_ignored p is
without_ignored p (power_off ∷ is) = power_off ∷ without_ignored p is
without_ignored p (selection bs e ∷ is) = cond (asleep p is) (without_ignored p is) (selection bs e ∷ without_ignored p is)

-- ---- the enable: set by a whole WREN; ended by a whole WRDI, by power, and by a WRITE or WRSR that had a whole data byte

abbrev pub unless_any : List ℕ → Bool → Bool
unless_any [] e = e
unless_any (v ∷ vs) e = false

-- after a selection with this end
abbrev pub enable_after : Part → End → Reading → Bool → Bool
enable_after p x partial e = e
enable_after p x (command WREN rest) e = true
enable_after p x (command WRDI rest) e = false
enable_after p x (command RDSR rest) e = e
enable_after p x (command WRSR rest) e = unless_any (bytes rest) e
enable_after p x (command READ rest) e = e
enable_after p x (command WRITE rest) e = unless_any (data_bytes p x rest) e
enable_after p x (command FSTRD rest) e = e
enable_after p x (command RDID rest) e = e
enable_after p x (command SLEEP rest) e = e
enable_after p x (command Unknown rest) e = e

abbrev pub enabled : Part → List Item → Bool
enabled p [] = false
enabled p (power_on ∷ is) = false
enabled p (power_off ∷ is) = false
enabled p (selection bs unended ∷ is) = enabled p is
enabled p (selection bs (ended wp) ∷ is) = enable_after p (ended wp) (reading p bs) (enabled p is)

-- ---- the saved bits: those of the last permitted status write, or those made

pub record SavedBits : Type 0 where
  pub srwd : Bool
  pub bp1 : Bool
  pub bp0 : Bool

abbrev pub zero_bits : SavedBits
zero_bits = record { srwd = false; bp1 = false; bp0 = false }

-- bits 7, 3 and 2 of a byte
abbrev pub bits_in : ℕ → SavedBits
bits_in v = record { srwd = eqb (v / 128 % 2) 1; bp1 = eqb (v / 8 % 2) 1; bp0 = eqb (v / 4 % 2) 1 }

-- the status register that has these bits and this WEL
abbrev pub register : SavedBits → Bool → Status
register b e = record { srwd = b.srwd; bp1 = b.bp1; bp0 = b.bp0; wel = e }

-- an ended WRSR with the enable and a whole data byte writes bits 7, 3 and 2 of its first one; SRWD in the ledger together with WP#
-- low at the end bars it
abbrev pub status_write : List ℕ → Bool → Bool → SavedBits → SavedBits
status_write [] e wp b = b
status_write (v ∷ vs) e wp b = cond (e && not (b.srwd && not wp)) (bits_in v) b

abbrev pub bits_after : Reading → Bool → Bool → SavedBits → SavedBits
bits_after partial e wp b = b
bits_after (command WREN rest) e wp b = b
bits_after (command WRDI rest) e wp b = b
bits_after (command RDSR rest) e wp b = b
bits_after (command WRSR rest) e wp b = status_write (bytes rest) e wp b
bits_after (command READ rest) e wp b = b
bits_after (command WRITE rest) e wp b = b
bits_after (command FSTRD rest) e wp b = b
bits_after (command RDID rest) e wp b = b
bits_after (command SLEEP rest) e wp b = b
bits_after (command Unknown rest) e wp b = b

-- power off zeroes the bits of a part that does not save them
abbrev pub kept_bits : Part → SavedBits → SavedBits
kept_bits p b = cond p.saved b zero_bits

abbrev pub bits : Part → SavedBits → List Item → SavedBits
bits p made [] = made
bits p made (power_on ∷ is) = bits p made is
bits p made (power_off ∷ is) = kept_bits p (bits p made is)
bits p made (selection bs unended ∷ is) = bits p made is
bits p made (selection bs (ended wp) ∷ is) = bits_after (reading p bs) (enabled p is) wp (bits p made is)

-- ---- the memory writes

-- data bytes from address a on, each one address further and at 0 after the top: a permitted write is one below the protected start
abbrev pub placed : Part → SavedBits → ℕ → List ℕ → List Store
placed p b a [] = []
placed p b a (v ∷ vs) =
    cond (ltb a (protected_start (register b false) p)) (record { address = a; value = v } ∷ placed p b (next_address p.size a) vs)
    (placed p b (next_address p.size a) vs)

-- those of a selection with this end
abbrev pub stores : Part → SavedBits → End → Reading → List Store
stores p b x partial = []
stores p b x (command WREN rest) = []
stores p b x (command WRDI rest) = []
stores p b x (command RDSR rest) = []
stores p b x (command WRSR rest) = []
stores p b x (command READ rest) = []
stores p b x (command WRITE rest) = placed p b (data_address p rest) (data_bytes p x rest)
stores p b x (command FSTRD rest) = []
stores p b x (command RDID rest) = []
stores p b x (command SLEEP rest) = []
stores p b x (command Unknown rest) = []

-- all permitted writes of the items, the first first: those of WRITEs with enable
abbrev pub writes : Part → SavedBits → List Item → List Store
writes p made [] = []
writes p made (power_on ∷ is) = writes p made is
writes p made (power_off ∷ is) = writes p made is
writes p made (selection bs e ∷ is) = writes p made is ++ cond (enabled p is) (stores p (bits p made is) e (reading p bs)) []
