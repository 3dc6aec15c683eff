-- How a trace is spelled: as steps, each one event with the answer that it must give.
use Rattle.std.specs.Prelude.{ℕ, zero, suc, ◌+◌, ◌*◌, ◌/◌, ◌%◌, Bool, true, false, List, [], ◌∷◌, ◌++◌}
use Rattle.parts.specs.Status.{bit}
use Rattle.serial.specs.Bits.{bit_at}

pub record Step : Type 0 where
  pub event : List ℕ
  pub answer : ℕ

-- the bytes of a trace
abbrev pub step_bytes : List Step → List ℕ
step_bytes [] = []
step_bytes (x ∷ xs) = x.event ++ step_bytes xs

-- the answers of its events
abbrev pub step_answers : List Step → List ℕ
step_answers [] = []
step_answers (x ∷ xs) = x.answer ∷ step_answers xs

-- one event
abbrev pub step : List ℕ → ℕ → List Step
step e a = record { event = e; answer = a } ∷ []

abbrev pub sample : ℕ → ℕ → List Step
sample x a = step (4 ∷ x ∷ []) a

abbrev pub power_off : List Step
power_off = step (3 ∷ []) 2

abbrev pub each : (ℕ → List Step) → List ℕ → List Step
each f [] = []
each f (v ∷ vs) = f v ++ each f vs

-- n bits of a byte from bit 7 - k on, each by a function of the bit
abbrev pub spelled : (Bool → List Step) → ℕ → ℕ → ℕ → List Step
spelled f v k zero = []
spelled f v k (suc n) = f (bit_at v k) ++ spelled f v (k + 1) n

-- an address in two bytes and in three, most significant first
abbrev pub two : ℕ → List ℕ
two a = a / 256 % 256 ∷ a % 256 ∷ []

abbrev pub three : ℕ → List ℕ
three a = a / 65536 % 256 ∷ two a

-- ---- SPI: HOLD# is 1, and w is 24 with WP# 1, 16 with WP# 0

-- power on, not selected
abbrev pub spi_on : List Step
spi_on = step (1 ∷ 25 ∷ []) 2

-- SCK low, then high, with SI at b and the answer a
abbrev pub clocked : ℕ → Bool → ℕ → List Step
clocked w b a = sample (w + 4 * bit b) a ++ sample (w + 4 * bit b + 2) a

-- a bit that goes in while nothing is driven, and one that the part shows
abbrev pub entered : ℕ → Bool → List Step
entered w b = clocked w b 2

abbrev pub shown : Bool → List Step
shown b = clocked 24 false (bit b)

-- the same for whole bytes
abbrev pub sent : ℕ → List ℕ → List Step
sent w vs = each (λ v. spelled (entered w) v 0 8) vs

abbrev pub seen : List ℕ → List Step
seen vs = each (λ v. spelled shown v 0 8) vs

-- HOLD# low, with SCK high in the middle
abbrev pub held : List Step
held = sample 8 2 ++ sample 10 2 ++ sample 8 2

-- a selection: CS# falls, the clocks, CS# rises while the last clock is high, SCK low again
abbrev pub selected : ℕ → List Step → List Step
selected w clocks = sample w 2 ++ clocks ++ sample (w + 3) 2 ++ sample (w + 1) 2

-- opcode and what follows it; nothing is driven throughout
abbrev pub command : ℕ → List ℕ → List Step
command w vs = selected w (sent w vs)

-- the same with WP# 1, then bytes that the part shows
abbrev pub asked : List ℕ → List ℕ → List Step
asked vs us = selected 24 (sent 24 vs ++ seen us)

abbrev pub wren : List Step
wren = command 24 (0x06 ∷ [])

-- WREN, then WRSR
abbrev pub wrsr : ℕ → List Step
wrsr v = wren ++ command 24 (0x01 ∷ v ∷ [])

-- RDSR, and the status byte that it shows
abbrev pub rdsr : ℕ → List Step
rdsr v = asked (0x05 ∷ []) (v ∷ [])

-- WREN, then WRITE of bytes from an address on
abbrev pub write : List ℕ → List ℕ → List Step
write address vs = wren ++ command 24 (0x02 ∷ (address ++ vs))

-- READ from an address on, and the bytes that it shows
abbrev pub read : List ℕ → List ℕ → List Step
read address vs = asked (0x03 ∷ address) vs

-- ---- I2C: WP is 0

-- power on with SCL and SDA high, and the start address
abbrev pub i2c_on : ℕ → List Step
i2c_on a = step (2 ∷ 3 ∷ three a) 2

-- SCL low, then high, with SDA at b and the answer a
abbrev pub clock : Bool → ℕ → List Step
clock b a = sample (2 * bit b) a ++ sample (2 * bit b + 1) a

-- a bit that goes in, and one that the part sends: it pulls at a 0
abbrev pub taken : Bool → List Step
taken b = clock b 2

abbrev pub pulled : Bool → List Step
pulled b = clock true (2 * bit b)

-- SDA falls, or rises, while SCL is high
abbrev pub start : List Step
start = sample 2 2 ++ sample 3 2 ++ sample 1 2

abbrev pub stop : List Step
stop = sample 0 2 ++ sample 1 2 ++ sample 3 2

-- a byte to the part, and the answer at its ninth clock: 0 acknowledges, 2 does not
abbrev pub byte : ℕ → ℕ → List Step
byte v a = spelled taken v 0 8 ++ clock true a

abbrev pub word : ℕ → ℕ → List Step
word v a = start ++ byte v a

-- a byte that the part sends, with SDA at the ninth clock: high after the last byte, low before another
abbrev pub given : Bool → ℕ → List Step
given last v = spelled pulled v 0 8 ++ clock last 2

-- a write word, the bytes of an address and data bytes, all acknowledged
abbrev pub put : ℕ → List ℕ → List ℕ → List Step
put w address vs = word w 0 ++ each (λ v. byte v 0) (address ++ vs)

-- a read word, which is acknowledged, bytes and a last byte that the part sends, STOP
abbrev pub got : ℕ → List ℕ → ℕ → List Step
got w vs v = word w 0 ++ each (given false) vs ++ given true v ++ stop
