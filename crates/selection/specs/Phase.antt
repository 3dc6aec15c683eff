-- What a part waits for, and what a counted rise makes of it.
use Rattle.std.specs.Prelude.{ℕ, ◌+◌, ◌%◌, Bool, true, false, cond, ltb}
use Rattle.parts.specs.declared.part.Part.{Part}
use Rattle.serial.specs.Bits.{shifted}
use Rattle.serial.specs.Address.{next_address}
use Rattle.selection.specs.declared.opcode.Command.{Command}
use Rattle.selection.specs.declared.opcode.Command.TheVariants.{WREN, WRDI, RDSR, WRSR, READ, WRITE, FSTRD, RDID, SLEEP, Unknown}
use Rattle.selection.specs.declared.phase.Field.{Field}
use Rattle.selection.specs.declared.phase.Field.TheVariants.{Opcode, ReadAddress, FastAddress, WriteAddress, Dummy, Data, StatusByte}
use Rattle.selection.specs.declared.phase.Source.{Source}
use Rattle.selection.specs.declared.phase.Source.TheVariants.{Memory, Register, Identity}
use Rattle.selection.specs.declared.phase.Action.TheVariants.{SetLatch, ClearLatch, FallAsleep, WriteStatus}
use Rattle.selection.specs.declared.phase.Phase.{Phase}
use Rattle.selection.specs.declared.phase.Phase.TheVariants.{Rest, Ignoring, Taking, Showing, Waiting, Pending}
use Rattle.selection.specs.Opcode.{command_of}

-- how many bits a field has: opcode, dummy and data eight each, an address as many as the part's table says
abbrev pub width : Part → Field → ℕ
width p Opcode = 8
width p ReadAddress = p.width
width p FastAddress = p.width
width p WriteAddress = p.width
width p (Dummy a) = 8
width p (Data a w) = 8
width p StatusByte = 8

-- the phase after a whole opcode. RDSR and RDID take in nothing more, so their output begins with the next counted fall
abbrev pub phase_after_opcode : Command → Phase
phase_after_opcode WREN = Waiting SetLatch
phase_after_opcode WRDI = Waiting ClearLatch
phase_after_opcode RDSR = Showing Register 0
phase_after_opcode WRSR = Taking StatusByte 0 0
phase_after_opcode READ = Taking ReadAddress 0 0
phase_after_opcode WRITE = Taking WriteAddress 0 0
phase_after_opcode FSTRD = Taking FastAddress 0 0
phase_after_opcode RDID = Showing (Identity 0) 0
phase_after_opcode SLEEP = Waiting FallAsleep
phase_after_opcode Unknown = Ignoring

-- the data byte that follows one at the address a: stored or not, a data byte of WRITE moves the address one up, and from the top to 0
abbrev pub data_after : Part → ℕ → Field
data_after p a = Data (next_address p.size a) true

-- the phase after the last bit of a data byte v of WRITE: on a part that stores late it waits, on any other the next one begins
abbrev pub phase_after_data : Part → ℕ → ℕ → Phase
phase_after_data p a v = cond p.late (Pending v a) (Taking (data_after p a) 0 0)

-- the phase after the last bit of a field, whose bits make v. READ shows from its address on, FSTRD after eight bits more of any
-- level. Addresses are taken modulo the size
abbrev pub phase_after_field : Part → Field → ℕ → Phase
phase_after_field p Opcode v = phase_after_opcode (command_of p v)
phase_after_field p ReadAddress v = Showing (Memory (v % p.size)) 0
phase_after_field p FastAddress v = Taking (Dummy (v % p.size)) 0 0
phase_after_field p WriteAddress v = Taking (Data (v % p.size) false) 0 0
phase_after_field p (Dummy a) v = Showing (Memory a) 0
phase_after_field p (Data a w) v = phase_after_data p a v
phase_after_field p StatusByte v = Waiting (WriteStatus v)

-- what is shown after the last bit of a byte: of the memory the next one, after the top the one at 0; the register again; the next of
-- three identity bytes, where 3 says that they are over
abbrev pub next_source : Part → Source → Source
next_source p (Memory a) = Memory (next_address p.size a)
next_source p Register = Register
next_source p (Identity i) = cond (ltb i 3) (Identity (i + 1)) (Identity i)

-- one bit more of a field
abbrev pub after_taken : Part → Field → ℕ → ℕ → Bool → Phase
after_taken p f n v b = cond (ltb (n + 1) (width p f)) (Taking f (n + 1) (shifted v b)) (phase_after_field p f (shifted v b))

-- one bit further in what is shown
abbrev pub after_shown : Part → Source → ℕ → Phase
after_shown p s k = cond (ltb k 7) (Showing s (k + 1)) (Showing (next_source p s) 0)

-- the phase after a counted rise with the bit b. Bits after WREN, WRDI, SLEEP and WRSR's first data byte are ignored; after a data byte
-- that waits, the bit is the first of the next one
abbrev pub after_rise : Part → Phase → Bool → Phase
after_rise p Rest b = Rest
after_rise p Ignoring b = Ignoring
after_rise p (Taking f n v) b = after_taken p f n v b
after_rise p (Showing s k) b = after_shown p s k
after_rise p (Waiting a) b = Waiting a
after_rise p (Pending v a) b = after_taken p (data_after p a) 0 0 b
