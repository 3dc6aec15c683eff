-- The ledger of an I2C part: permitted writes, read off the accepted events and their answers by starts.
-- Histories and lists of items have the latest first.
use Rattle.std.specs.Prelude.{ℕ, Bool, false, cond, not, ◌&&◌, List, [], ◌∷◌, ◌++◌, map, eqb}
use Rattle.parts.specs.declared.part.Part.{Part}
use Rattle.serial.specs.Address.{next_address}
use Rattle.trace.specs.declared.event.Event.{Event}
use Rattle.trace.specs.declared.event.Event.TheVariants.{SpiPowerOn, I2cPowerOn, PowerOff, Sample, Expected}
use Rattle.transfer.specs.declared.edge.Edge.{Edge}
use Rattle.transfer.specs.declared.edge.Edge.TheVariants.{Start, Stop, Rise, Fall, Quiet}
use Rattle.transfer.specs.declared.levels.Levels.{Levels}
use Rattle.transfer.specs.declared.word.DeviceWord.{DeviceWord}
use Rattle.transfer.specs.declared.word.DeviceWord.TheVariants.{ReadWord, WriteWord, OtherWord}
use Rattle.transfer.specs.Edge.{edge_on}
use Rattle.transfer.specs.Levels.{levels_of}
use Rattle.ledger.specs.Groups.{Group, Groups, groups}
use Rattle.ledger.specs.Bits.{number}
use Rattle.ledger.specs.Word.{word_in, address_after}
use Rattle.ledger.specs.Stores.{Store}
use Rattle.ledger.specs.History.{Entry}

-- ---- spans from a START

-- a rise of SCL: the line, and WP in that sample
pub record Clock : Type 0 where
  pub line : Bool
  pub wp : Bool

-- a span, which a START begins and a START, a STOP or a power off ends, with its rises of SCL; and the time in which no span is
-- open
pub data Item : Type 0 where
  idle : Item
  span : List Clock → Item

abbrev pub with_clock : Clock → List Item → List Item
with_clock k [] = []
with_clock k (idle ∷ is) = idle ∷ is
with_clock k (span ks ∷ is) = span (ks ++ (k ∷ [])) ∷ is

abbrev pub items_on_edge : Edge → Bool → List Item → List Item
items_on_edge Start wp is = span [] ∷ is
items_on_edge Stop wp is = idle ∷ is
items_on_edge (Rise line) wp is = with_clock (record { line = line; wp = wp }) is
items_on_edge Fall wp is = is
items_on_edge Quiet wp is = is

-- SCL, the line and WP at a sample
pub record Wires : Type 0 where
  pub scl : Bool
  pub line : Bool
  pub wp : Bool

-- the line is high only if others leave SDA high and the part does not answer 0
abbrev pub wires_at : Levels → ℕ → Wires
wires_at l answer = record { scl = l.scl; line = l.sda && not (eqb answer 0); wp = l.wp }

-- before power on there is no sample
abbrev pub no_wires : Wires
no_wires = record { scl = false; line = false; wp = false }

abbrev pub wires_after : Event → ℕ → Wires → Wires
wires_after (SpiPowerOn x) answer w = w
wires_after (I2cPowerOn x a) answer w = wires_at (levels_of x) answer
wires_after PowerOff answer w = no_wires
wires_after (Sample x) answer w = wires_at (levels_of x) answer
wires_after (Expected v) answer w = w

abbrev pub edge_between : Wires → Wires → Edge
edge_between a b = edge_on a.scl b.scl a.line b.line

-- at power on no span is open, whatever the line does
abbrev pub items_after : Event → ℕ → Wires → List Item → List Item
items_after (SpiPowerOn x) answer w is = is
items_after (I2cPowerOn x a) answer w is = idle ∷ is
items_after PowerOff answer w is = idle ∷ is
items_after (Sample x) answer w is = items_on_edge (edge_between w (wires_at (levels_of x) answer)) (levels_of x).wp is
items_after (Expected v) answer w is = is

-- the wires at the last sample of a history
abbrev pub last_wires : List Entry → Wires
last_wires [] = no_wires
last_wires (e ∷ h) = wires_after e.event e.answer (last_wires h)

-- the items of a history
abbrev pub items : List Entry → List Item
items [] = []
items (e ∷ h) = items_after e.event e.answer (last_wires h) (items h)

-- ---- what the rises of a span say

-- a whole byte: the lines at its first eight rises, and line and WP at its ninth
pub record Byte : Type 0 where
  pub bits : List Bool
  pub ninth : Bool
  pub wp : Bool

abbrev pub value : Byte → ℕ
value v = number v.bits

abbrev pub line_at : Clock → Bool
line_at k = k.line

abbrev pub nine_rises : Group Clock → Byte
nine_rises g = record { bits = map line_at g.front; ninth = g.last.line; wp = g.last.wp }

-- the rises of a span by nines: eight bits and the acknowledge
abbrev pub rises_in : List Clock → Groups Clock
rises_in ks = groups 8 ks

abbrev pub bytes : List Clock → List Byte
bytes ks = map nine_rises (rises_in ks).whole

-- the lines at the rises after the last whole byte, at most eight
abbrev pub unfinished : List Clock → List Bool
unfinished ks = map line_at (rises_in ks).left

-- data bytes from address a on, each one address further and at 0 after the top: a permitted write is one whose ninth rise has WP
-- low
abbrev pub placed : Part → ℕ → List Byte → List Store
placed p a [] = []
placed p a (v ∷ vs) = cond v.wp (placed p (next_address p.size a) vs) (record { address = a; value = value v } ∷ placed p (next_address p.size a) vs)

-- after the part's own write word: two bytes make the address, and the rest is data
abbrev pub written : Part → Bool → List Byte → List Store
written p a16 [] = []
written p a16 (high ∷ []) = []
written p a16 (high ∷ low ∷ rest) = placed p (address_after p a16 high.bits low.bits) rest

abbrev pub by_word : Part → DeviceWord → List Byte → List Store
by_word p (ReadWord a16) rest = []
by_word p (WriteWord a16) rest = written p a16 rest
by_word p OtherWord rest = []

abbrev pub stores : Part → ℕ → List Byte → List Store
stores p pins [] = []
stores p pins (word ∷ rest) = by_word p (word_in p pins word.bits) rest

-- all permitted writes of the items, the first first
abbrev pub writes : Part → ℕ → List Item → List Store
writes p pins [] = []
writes p pins (idle ∷ is) = writes p pins is
writes p pins (span ks ∷ is) = writes p pins is ++ stores p pins (bytes ks)
