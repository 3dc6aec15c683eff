-- The same byte by byte: eight falls after the opcode RDSR show the ledger's status byte, and so do the next eight; eight falls after
-- READ and its address show the ledger's byte there, the next eight the one after it, and so on, rolled over. For every making of an
-- SPI part, every first memory and every list of events before. From the answers bit by bit. Assumes nothing.
use Prim.Native.Nat.{ℕ, ◌+◌, ◌-◌, ◌*◌, ◌/◌, ◌%◌, ◌^◌, ◌<◌, ◌≤◌}
use mathlib.Core.Path.{◌≡◌, ap, ap₂, ◌∙◌}
use mathlib.Core.Bool.{Bool, true, false}
use mathlib.Core.List.{List}
use native.Mathlib.Nat.{mod-eq_of_lt}
use native.Mathlib.Omega.{arith}
use lib.ListN.{get_or}
use Rattle.parts.specs.declared.part.Part.{Part}
use Rattle.parts.specs.declared.status.Status.{Status}
use Rattle.parts.specs.Status.{bit, status_byte}
use Rattle.parts.specs.Table.{part_of}
use Rattle.parts.proofs.Rows.{part_fits}
use Rattle.chip.specs.declared.model.Model.{Model}
use Rattle.chip.proofs.CheckLaws.{model_in_lem}
use Rattle.ledger.specs.Bits.{number}
use Rattle.ledger.specs.SpiLedger.{items, without_ignored, writes}
use Rattle.ledger.proofs.Proper.{stored_below, spi_proper}
use Rattle.promise.specs.Ledger.{saved_in}
use Rattle.promise.specs.Promise.{made_by, history_of}
use Rattle.promise.specs.SpiBytes.{AllBytes, byte_of_bits, register_then, memory_then, RdsrBytes, ReadBytes}
use Rattle.promise.proofs.Ranges.{made_in}
use Rattle.promise.proofs.SpiAnswersShown.{rdsr_shows, read_shows_lem}

-- a number halved eight times, with the bits left over and what is left of 256
from_halves : (v a b c d e f g h : ℕ) (bits : ℕ → ℕ) (r : ℕ)
    → v ≡ 2 * a + bits 7 → a ≡ 2 * b + bits 6 → b ≡ 2 * c + bits 5 → c ≡ 2 * d + bits 4
    → d ≡ 2 * e + bits 3 → e ≡ 2 * f + bits 2 → f ≡ 2 * g + bits 1 → g ≡ 2 * h + bits 0
    → v ≡ 256 * h + r → byte_of_bits bits ≡ r
from_halves v a b c d e f g h bits r p₁ p₂ p₃ p₄ p₅ p₆ p₇ p₈ q = omega arith

-- the bits of a number's last byte make that byte
eight_bits_lem : (v : ℕ) → byte_of_bits (λ k. v / 2 ^ (7 - k) % 2) ≡ v % 256
eight_bits_lem v =
    from_halves v (v / 2) (v / 4) (v / 8) (v / 16) (v / 32) (v / 64) (v / 128) (v / 256) (λ k. v / 2 ^ (7 - k) % 2) (v % 256)
    (omega arith) (omega arith) (omega arith) (omega arith) (omega arith) (omega arith) (omega arith) (omega arith) (omega arith)

byte_same : (a b : ℕ → ℕ) → ((k : ℕ) → k < 8 → a k ≡ b k) → byte_of_bits a ≡ byte_of_bits b
byte_same a b h =
    rw (h 0 (omega arith), h 1 (omega arith), h 2 (omega arith), h 3 (omega arith), h 4 (omega arith), h 5 (omega arith), h 6 (omega arith), h 7 (omega arith))

-- clock 8 i + k is bit k of byte i
byte_of : (i k : ℕ) → k < 8 → (8 * i + k) / 8 ≡ i
byte_of i k h = omega arith

bit_of_lem : (i k : ℕ) → k < 8 → (8 * i + k) % 8 ≡ k
bit_of_lem i k h = omega arith

-- a status byte is a byte
status_fits_lem : (st : Status) → status_byte st % 256 ≡ status_byte st
status_fits_lem st = by st.srwd st.bp1 st.bp0 st.wel
  where
    bit_below : (b : Bool) → bit b ≤ 1
    bit_below true = omega arith
    bit_below false = omega arith

    by : (a b c d : Bool) → (128 * bit a + 8 * bit b + 4 * bit c + 2 * bit d) % 256 ≡ 128 * bit a + 8 * bit b + 4 * bit c + 2 * bit d
    by a b c d = mod-eq_of_lt (omega (arith, bit_below a, bit_below b, bit_below c, bit_below d))

module _ (part pins bits : ℕ) (first : List ℕ) where
  abbrev model : Model
  model = made_by part pins bits

  abbrev row : Part
  row = part_of model.part

  -- the ledger's memory holds bytes
  now_below : AllBytes first → (es : List (List ℕ)) (a : ℕ) → get_or (memory_then part pins bits first es) a 0 < 256
  now_below fits es a =
      let is = without_ignored row (items (history_of model first es)) in
      let positive = (part_fits model.part (model_in_lem model (made_in part pins bits).0).known).positive in
      stored_below row.size first (writes row (saved_in model.status) is) fits (spi_proper row positive (saved_in model.status) is) a

  pub rdsr_bytes : RdsrBytes part pins bits first
  rdsr_bytes spi es bs is c i q =
      let v : ℕ = status_byte (register_then part pins bits first es) in
      byte_same _ (λ k. v / 2 ^ (7 - k) % 2)
      (λ k l. (rdsr_shows part pins bits first spi es bs is c (8 * i + k) q).1 ∙ ap (λ (j : ℕ). v / 2 ^ (7 - j) % 2) (bit_of_lem i k l))
      ∙ eight_bits_lem v
      ∙ status_fits_lem (register_then part pins bits first es)

  pub read_bytes : ReadBytes part pins bits first
  read_bytes spi es bs is c i fits address w q =
      let m : List ℕ = memory_then part pins bits first es in
      let v : ℕ = get_or m ((number address + i) % row.size) 0 in
      let bit_of : ℕ → ℕ → ℕ = λ n j. get_or m ((number address + n) % row.size) 0 / 2 ^ (7 - j) % 2 in
      byte_same _ (λ k. v / 2 ^ (7 - k) % 2)
      (λ k l. (read_shows_lem part pins bits first spi es bs is c (8 * i + k) address w q).1 ∙ ap₂ bit_of (byte_of i k l) (bit_of_lem i k l))
      ∙ eight_bits_lem v
      ∙ mod-eq_of_lt (now_below fits es ((number address + i) % row.size))
