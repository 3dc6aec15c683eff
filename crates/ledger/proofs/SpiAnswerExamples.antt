-- Checked examples 1, 9 and 12, sleep, and a READ over the top, computed from the sentences on answers alone. Assumes nothing.
use Prim.Native.Nat.{ℕ, zero, suc, ◌/◌, ◌%◌}
use mathlib.Core.Path.{◌≡◌, refl}
use mathlib.Core.Bool.{Bool, true, false}
use mathlib.Core.List.{List, [], ◌∷◌, ◌++◌}
use lib.ListN.{get_or}
use Rattle.parts.specs.declared.part.Part.{Part}
use Rattle.parts.specs.Table.{mr45v032a, mr45v100a, mr45v200b}
use Rattle.serial.specs.Bits.{bit_at}
use Rattle.trace.specs.declared.event.Event.{Event}
use Rattle.trace.specs.declared.event.Event.TheVariants.{SpiPowerOn, Sample}
use Rattle.selection.specs.Opcode.{command_of}
use Rattle.ledger.specs.History.{Entry}
use Rattle.ledger.specs.SpiLedger.{zero_bits}
use Rattle.ledger.specs.SpiAnswers.{spi_answer}

-- an event after a history; the answers entered do not matter on SPI
abbrev then : List Entry → Event → List Entry
then h e = record { event = e; answer = 2 } ∷ h

-- one clock: SCK 0, then 1, with SI at the bit, CS# 0, WP# 1 and HOLD# 1
abbrev clock : List Entry → Bool → List Entry
clock h false = then (then h (Sample 24)) (Sample 26)
clock h true = then (then h (Sample 28)) (Sample 30)

-- one byte in
abbrev byte_in : List Entry → ℕ → List Entry
byte_in h v =
    clock (clock (clock (clock (clock (clock (clock (clock h (bit_at v 0)) (bit_at v 1)) (bit_at v 2)) (bit_at v 3)) (bit_at v 4)) (bit_at v 5)) (bit_at v 6))
    (bit_at v 7)

abbrev bytes_in : List Entry → List ℕ → List Entry
bytes_in h [] = h
bytes_in h (v ∷ vs) = bytes_in (byte_in h v) vs

-- a selection with these bytes, open, and one that CS# has ended
abbrev opening : List Entry → List ℕ → List Entry
opening h vs = bytes_in (then h (Sample 24)) vs

abbrev selecting : List Entry → List ℕ → List Entry
selecting h vs = then (opening h vs) (Sample 25)

-- power on with CS# 1
abbrev powered : List Entry
powered = then [] (SpiPowerOn 25)

-- the answers at the falls of n more clocks
abbrev out : ℕ → Part → List ℕ → List Entry → List ℕ
out zero p m h = []
out (suc n) p m h = spi_answer p zero_bits m (then h (Sample 24)) ∷ out n p m (clock h false)

-- bit 7 - k of a byte
abbrev bit_of : ℕ → ℕ → ℕ
bit_of v k = get_or (v / 128 % 2 ∷ v / 64 % 2 ∷ v / 32 % 2 ∷ v / 16 % 2 ∷ v / 8 % 2 ∷ v / 4 % 2 ∷ v / 2 % 2 ∷ v / 1 % 2 ∷ []) k 0

abbrev eight : ℕ → List ℕ
eight v = bit_of v 0 ∷ bit_of v 1 ∷ bit_of v 2 ∷ bit_of v 3 ∷ bit_of v 4 ∷ bit_of v 5 ∷ bit_of v 6 ∷ bit_of v 7 ∷ []

abbrev eight_nothing : List ℕ
eight_nothing = 2 ∷ 2 ∷ 2 ∷ 2 ∷ 2 ∷ 2 ∷ 2 ∷ 2 ∷ []

module _ (m : List ℕ) where
  -- 1: WREN, RDSR: 02h, and again
  wren_rdsr_lem : out 16 mr45v032a m (opening (selecting powered (6 ∷ [])) (5 ∷ [])) ≡ eight 2 ++ eight 2
  unfolding command_of
  wren_rdsr_lem = refl

  -- 9: part 0 lacks RDID, and drives nothing in its selection
  no_identity : out 8 mr45v032a m (opening powered (0x9f ∷ [])) ≡ eight_nothing
  unfolding command_of
  no_identity = refl

  -- 12: the identity of part 2, AE 83 1A, and nothing after it
  identity : out 32 mr45v200b m (opening powered (0x9f ∷ [])) ≡ eight 0xae ++ (eight 0x83 ++ (eight 0x1a ++ eight_nothing))
  unfolding command_of
  identity = refl

  -- READ at FFFh of part 0: the last byte, then the first
  over_the_top : out 16 mr45v032a m (opening powered (3 ∷ 0x0f ∷ 0xff ∷ [])) ≡ eight (get_or m 4095 0) ++ eight (get_or m 0 0)
  unfolding command_of
  over_the_top = refl

  -- FSTRD on part 1 at 00002h: nothing for the dummy byte, then the byte
  fast : out 8 mr45v100a m (opening powered (0x0b ∷ 0 ∷ 0 ∷ 2 ∷ [])) ≡ eight_nothing
  unfolding command_of
  fast = refl

  fast_after_dummy : out 8 mr45v100a m (opening powered (0x0b ∷ 0 ∷ 0 ∷ 2 ∷ 0 ∷ [])) ≡ eight (get_or m 2 0)
  unfolding command_of
  fast_after_dummy = refl

  -- SLEEP on part 1: the next selection shows nothing, the one after it the status
  asleep_ignoring : out 8 mr45v100a m (opening (selecting powered (0xb9 ∷ [])) (5 ∷ [])) ≡ eight_nothing
  unfolding command_of
  asleep_ignoring = refl

  awake_again : out 8 mr45v100a m (opening (selecting (selecting powered (0xb9 ∷ [])) (5 ∷ [])) (5 ∷ [])) ≡ eight 0
  unfolding command_of
  awake_again = refl
