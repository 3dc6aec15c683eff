-- What an I2C part answers, read off the accepted events by starts: it pulls while it acknowledges a byte and while it shows a 0 of
-- a byte that it sends. Histories have the latest first.
use Rattle.std.specs.Prelude.{ℕ, ◌≡◌, Bool, true, false, cond, not, ◌&&◌, List, [], ◌∷◌, eqb, ltb, length, get_or}
use Rattle.parts.specs.declared.part.Part.{Part}
use Rattle.serial.specs.Address.{next_address}
use Rattle.serial.specs.Bits.{bit_at}
use Rattle.trace.specs.declared.event.Event.{Event}
use Rattle.trace.specs.declared.event.Event.TheVariants.{SpiPowerOn, I2cPowerOn, PowerOff, Sample, Expected}
use Rattle.transfer.specs.declared.buffer.AddressBuffer.{AddressBuffer}
use Rattle.transfer.specs.declared.edge.Edge.{Edge}
use Rattle.transfer.specs.declared.edge.Edge.TheVariants.{Start, Stop, Rise, Fall, Quiet}
use Rattle.transfer.specs.declared.word.DeviceWord.{DeviceWord}
use Rattle.transfer.specs.declared.word.DeviceWord.TheVariants.{ReadWord, WriteWord, OtherWord}
use Rattle.transfer.specs.Buffer.{read_address}
use Rattle.transfer.specs.Levels.{levels_of}
use Rattle.i2c.specs.Pull.{ours}
use Rattle.ledger.specs.Word.{word_in, address_after}
use Rattle.ledger.specs.Stores.{stored}
use Rattle.ledger.specs.History.{Entry}
use Rattle.ledger.specs.I2cLedger.{Clock, Byte, bytes, unfinished, Item, idle, span, Wires, wires_at, edge_between, last_wires, items, writes}

-- ---- the address buffer, over the whole bytes of a span

abbrev pub unused_at : ℕ → AddressBuffer
unused_at a = record { address = a; used = false }

abbrev pub used_at : ℕ → AddressBuffer
used_at a = record { address = a; used = true }

-- data bytes that come in from address a on: after each the buffer holds the address of that byte as used, whether the byte was
-- stored or dropped
abbrev pub taken_buffer : Part → AddressBuffer → ℕ → List Byte → AddressBuffer
taken_buffer p b a [] = b
taken_buffer p b a (v ∷ vs) = taken_buffer p (used_at a) (next_address p.size a) vs

-- after a write word: the second address byte sets the buffer, unused, and data bytes follow
abbrev pub written_buffer : Part → AddressBuffer → Bool → List Byte → AddressBuffer
written_buffer p b a16 [] = b
written_buffer p b a16 (high ∷ []) = b
written_buffer p b a16 (high ∷ low ∷ vs) =
    taken_buffer p (unused_at (address_after p a16 high.bits low.bits)) (address_after p a16 high.bits low.bits) vs

-- bytes that go out from address a on: after each the buffer holds its address as used; the first that the master does not
-- acknowledge is the last
abbrev pub sent_buffer : Part → AddressBuffer → ℕ → List Byte → AddressBuffer
sent_buffer p b a [] = b
sent_buffer p b a (v ∷ vs) = cond v.ninth (used_at a) (sent_buffer p (used_at a) (next_address p.size a) vs)

-- a read word begins at the buffer's address, bit 16 replaced first, plus one and rolled over if used
abbrev pub word_buffer : Part → AddressBuffer → DeviceWord → List Byte → AddressBuffer
word_buffer p b (ReadWord a16) vs = sent_buffer p b (read_address p b a16) vs
word_buffer p b (WriteWord a16) vs = written_buffer p b a16 vs
word_buffer p b OtherWord vs = b

-- from the buffer b at the START
abbrev pub span_buffer : Part → ℕ → AddressBuffer → List Byte → AddressBuffer
span_buffer p pins b [] = b
span_buffer p pins b (word ∷ vs) = word_buffer p b (word_in p pins word.bits) vs

-- ---- what the part does after a fall of SCL, by the whole bytes before it and the lines of the byte begun

-- eight rises of the byte are over: the ninth clock acknowledges
abbrev pub eighth : List Bool → Bool
eighth bs = eqb (length bs) 8

-- a byte that goes out shows bit 7 - k after k of its rises, k below 8, and pulls at a 0
abbrev pub shows_low : ℕ → List Bool → Bool
shows_low v bs = ltb (length bs) 8 && not (bit_at v (length bs))

-- bytes of the memory m go out from address a up, rolled over, as long as the lines at the ninth rises are low
abbrev pub sends_low : Part → List ℕ → ℕ → List Byte → List Bool → Bool
sends_low p m a [] bs = shows_low (get_or m a 0) bs
sends_low p m a (v ∷ vs) bs = cond v.ninth false (sends_low p m (next_address p.size a) vs bs)

-- the master acknowledged each of the bytes that went out, and so asked for the next one
abbrev pub AllAcknowledged : List Byte → Type 0
AllAcknowledged [] = Unit {0}
AllAcknowledged (v ∷ vs) = (v.ninth ≡ false) × AllAcknowledged vs

-- after a read word bytes go out; after a write word every byte is acknowledged; after another word nothing
abbrev pub word_pulls : Part → List ℕ → AddressBuffer → DeviceWord → List Byte → List Bool → Bool
word_pulls p m b (ReadWord a16) vs bs = sends_low p m (read_address p b a16) vs bs
word_pulls p m b (WriteWord a16) vs bs = eighth bs
word_pulls p m b OtherWord vs bs = false

-- an own word is acknowledged; b is the buffer at the START
abbrev pub span_pulls : Part → ℕ → List ℕ → AddressBuffer → List Byte → List Bool → Bool
span_pulls p pins m b [] bs = eighth bs && ours (word_in p pins bs)
span_pulls p pins m b (word ∷ vs) bs = word_pulls p m b (word_in p pins word.bits) vs bs

-- ---- over a history

-- the buffer that an open span has left so far, b being the one at its START
abbrev pub open_buffer : Part → ℕ → AddressBuffer → List Item → AddressBuffer
open_buffer p pins b [] = b
open_buffer p pins b (idle ∷ is) = b
open_buffer p pins b (span ks ∷ is) = span_buffer p pins b (bytes ks)

-- START and STOP begin with the buffer that was left
abbrev pub carried : Edge → Part → ℕ → AddressBuffer → List Item → AddressBuffer
carried Start p pins b is = open_buffer p pins b is
carried Stop p pins b is = open_buffer p pins b is
carried (Rise line) p pins b is = b
carried Fall p pins b is = b
carried Quiet p pins b is = b

abbrev pub before_after : Event → ℕ → Wires → Part → ℕ → AddressBuffer → List Item → AddressBuffer
before_after (SpiPowerOn x) answer w p pins b is = b
before_after (I2cPowerOn x a) answer w p pins b is = unused_at a
before_after PowerOff answer w p pins b is = b
before_after (Sample x) answer w p pins b is = carried (edge_between w (wires_at (levels_of x) answer)) p pins b is
before_after (Expected v) answer w p pins b is = b

-- the address buffer at the last START, STOP or power on; at power on "start address, unused"
abbrev pub buffer_before : Part → ℕ → List Entry → AddressBuffer
buffer_before p pins [] = unused_at 0
buffer_before p pins (e ∷ h) = before_after e.event e.answer (last_wires h) p pins (buffer_before p pins h) (items h)

-- the address buffer now
abbrev pub buffer_of : Part → ℕ → List Entry → AddressBuffer
buffer_of p pins h = open_buffer p pins (buffer_before p pins h) (items h)

-- the rises of the open span that came before its last fall of SCL, if it has one
pub data LastFall : Type 0 where
  no_fall : LastFall
  after_rises : List Clock → LastFall

abbrev pub fall_in : List Item → LastFall
fall_in [] = no_fall
fall_in (idle ∷ is) = no_fall
fall_in (span ks ∷ is) = after_rises ks

-- a fall of SCL decides the pull anew; START and STOP end it
abbrev pub fall_on : Edge → List Item → LastFall → LastFall
fall_on Start is f = no_fall
fall_on Stop is f = no_fall
fall_on (Rise line) is f = f
fall_on Fall is f = fall_in is
fall_on Quiet is f = f

abbrev pub fall_after : Event → ℕ → Wires → List Item → LastFall → LastFall
fall_after (SpiPowerOn x) answer w is f = f
fall_after (I2cPowerOn x a) answer w is f = no_fall
fall_after PowerOff answer w is f = no_fall
fall_after (Sample x) answer w is f = fall_on (edge_between w (wires_at (levels_of x) answer)) is f
fall_after (Expected v) answer w is f = f

abbrev pub last_fall : List Entry → LastFall
last_fall [] = no_fall
last_fall (e ∷ h) = fall_after e.event e.answer (last_wires h) (items h) (last_fall h)

-- whether the part pulls since that fall, with the memory m and the buffer b at the START
abbrev pub pulls_since : Part → ℕ → List ℕ → AddressBuffer → LastFall → Bool
pulls_since p pins m b no_fall = false
pulls_since p pins m b (after_rises ks) = span_pulls p pins m b (bytes ks) (unfinished ks)

-- the ledger's memory
abbrev pub memory_now : Part → ℕ → List ℕ → List Entry → List ℕ
memory_now p pins first h = stored first (writes p pins (items h))

abbrev pub pulls : Part → ℕ → List ℕ → List Entry → Bool
pulls p pins first h = pulls_since p pins (memory_now p pins first h) (buffer_before p pins h) (last_fall h)

-- the answer is 0 (low) or 2 (nothing driven)
abbrev pub pull_answer : Bool → ℕ
pull_answer true = 0
pull_answer false = 2

-- the answer of the last event
abbrev pub present_answer : List Entry → ℕ
present_answer [] = 2
present_answer (e ∷ h) = e.answer

-- what the last event of a history answers. Its own answer is not looked at: the pull changes on SCL falls, so that START, STOP and
-- the bit of a rise are those of the line with the pull from before
abbrev pub i2c_answer : Part → ℕ → List ℕ → List Entry → ℕ
i2c_answer p pins first [] = 2
i2c_answer p pins first (e ∷ h) = pull_answer (pulls p pins first (record { event = e.event; answer = present_answer h } ∷ h))
