-- What a host reads bit by bit and byte by byte on an SPI part, in plain words: clocks after a list of events, the byte that eight of them
-- show, and that it is the ledger's.
use Rattle.std.specs.Prelude.{ℕ, zero, suc, ◌+◌, ◌-◌, ◌*◌, ◌/◌, ◌%◌, ◌^◌, ◌<◌, ◌≡◌, Bool, true, false, List, [], ◌∷◌, ◌++◌, length, get_or}
use Rattle.parts.specs.declared.part.Part.{Part}
use Rattle.parts.specs.declared.status.Status.{Status}
use Rattle.parts.specs.Status.{status_byte}
use Rattle.parts.specs.Table.{is_spi, part_of}
use Rattle.selection.specs.declared.opcode.Command.TheVariants.{RDSR, READ}
use Rattle.chip.specs.declared.model.Model.{Model}
use Rattle.ledger.specs.Bits.{number}
use Rattle.ledger.specs.SpiLedger.{unended, Item, selection, last_sample, items, command, reading, asleep}
use Rattle.ledger.specs.SpiAnswers.{memory_now, register_now}
use Rattle.promise.specs.Lists.{Observed}
use Rattle.promise.specs.Ledger.{saved_in}
use Rattle.promise.specs.Promise.{made_by, history_of}
use Rattle.promise.specs.SpiAnswers.{observed_after}

-- a sample x; SCK falls and rises with CS# 0, SI 0, WP# 1 and HOLD# 1
abbrev pub sample : ℕ → List ℕ
sample x = 4 ∷ x ∷ []

abbrev pub fall : List ℕ
fall = sample 24

abbrev pub rise : List ℕ
rise = sample 26

-- n clocks
abbrev pub clocks : ℕ → List (List ℕ)
clocks zero = []
clocks (suc n) = clocks n ++ (fall ∷ rise ∷ [])

-- a lent memory is a list of bytes
abbrev pub AllBytes : List ℕ → Type 0
AllBytes m = (a : ℕ) → a < length m → get_or m a 0 < 256

-- eight bits, most significant first
abbrev pub byte_of_bits : (ℕ → ℕ) → ℕ
byte_of_bits a = 128 * a 0 + 64 * a 1 + 32 * a 2 + 16 * a 3 + 8 * a 4 + 4 * a 5 + 2 * a 6 + a 7

module _ (part pins bits : ℕ) (first : List ℕ) where
  -- after the list es: the open selection has the bits bs and is not ignored, the part is not held, and SCK is 1
  pub record Clocked (es : List (List ℕ)) (bs : List Bool) (is : List Item) : Type 0 where
    pub opened : items (history_of (made_by part pins bits) first es) ≡ selection bs unended ∷ is
    pub awake : asleep (part_of (made_by part pins bits).part) is ≡ false
    pub selected : (last_sample (history_of (made_by part pins bits) first es)).cs ≡ false
    pub clock_high : (last_sample (history_of (made_by part pins bits) first es)).sck ≡ true
    pub unheld : (last_sample (history_of (made_by part pins bits) first es)).hold ≡ true

  -- what the falls after 8 i, 8 i + 1, .. 8 i + 7 clocks show, as a byte: byte number i
  abbrev pub byte_shown : List (List ℕ) → ℕ → ℕ
  byte_shown es i = byte_of_bits (λ k. (observed_after (made_by part pins bits) first (es ++ clocks (8 * i + k)) fall).answer)

  abbrev pub model : Model
  model = made_by part pins bits

  abbrev pub row : Part
  row = part_of model.part

  -- the ledger's status register and memory after a list
  abbrev pub register_then : List (List ℕ) → Status
  register_then es = register_now row (saved_in model.status) (history_of model first es)

  abbrev pub memory_then : List (List ℕ) → List ℕ
  memory_then es = memory_now row (saved_in model.status) first (history_of model first es)

  -- what the fall after n clocks shows
  abbrev pub at_fall : List (List ℕ) → ℕ → Observed
  at_fall es n = observed_after model first (es ++ clocks n) fall

  -- an SPI part, and a list after which it is clocked so
  abbrev pub Reads : (List (List ℕ) → List Bool → Type 0) → Type 0
  Reads claim = is_spi row.bus ≡ true → (es : List (List ℕ)) (bs : List Bool) (is : List Item) → Clocked es bs is → claim es bs

  -- after the opcode RDSR: the fall is accepted and shows bit 7 - (n mod 8) of the ledger's status byte
  abbrev pub RdsrShows : Type 0
  RdsrShows =
      Reads
      (λ es bs.
      (n : ℕ)
      → reading row bs ≡ command RDSR []
      → ((at_fall es n).number ≡ 0) × ((at_fall es n).answer ≡ status_byte (register_then es) / 2 ^ (7 - n % 8) % 2))

  -- after READ and its address: bit 7 - (n mod 8) of the ledger's byte n div 8 addresses further, modulo the size
  abbrev pub ReadShows : Type 0
  ReadShows =
      Reads
      (λ es bs.
      (n : ℕ) (address : List Bool)
      → length address ≡ row.width
      → reading row bs ≡ command READ address
      → ((at_fall es n).number ≡ 0)
      × ((at_fall es n).answer ≡ get_or (memory_then es) ((number address + n / 8) % row.size) 0 / 2 ^ (7 - n % 8) % 2))

  -- byte by byte: after the opcode RDSR every byte is the ledger's status byte
  abbrev pub RdsrBytes : Type 0
  RdsrBytes = Reads (λ es bs. (i : ℕ) → reading row bs ≡ command RDSR [] → byte_shown es i ≡ status_byte (register_then es))

  -- after READ and its address byte number i is the ledger's at the address and i further, modulo the size
  abbrev pub ReadBytes : Type 0
  ReadBytes =
      Reads
      (λ es bs.
      (i : ℕ)
      → AllBytes first
      → (address : List Bool)
      → length address ≡ row.width
      → reading row bs ≡ command READ address
      → byte_shown es i ≡ get_or (memory_then es) ((number address + i) % row.size) 0)
