-- Every permitted write of the ledger puts a byte at an address of the part, on either bus and for every part with a size. From how
-- addresses are made and go up, and from eight bits making a number below 256. Assumes nothing.
use Prim.Native.Nat.{ℕ, ◌+◌, ◌^◌, ◌<◌, ◌≤◌}
use mathlib.Core.Path.{◌≡◌, refl}
use mathlib.Core.Bool.{Bool, true, false, cond}
use mathlib.Core.List.{List, [], ◌∷◌, ◌++◌, map}
use native.Mathlib.Nat.{mod-lt}
use native.Mathlib.Omega.{arith}
use lib.Dec.{eqb, ltb}
use lib.ListN.{length, get_or, length-append, get_or-eq_default}
use borrow.Author.Tests.{ltb-true, ltb-false}
use Rattle.parts.specs.declared.part.Part.{Part}
use Rattle.parts.specs.Status.{protected_start}
use Rattle.serial.specs.Address.{next_address}
use Rattle.serial.specs.Bits.{shifted}
use Rattle.serial.proofs.AddressLaws.{next_within}
use Rattle.serial.proofs.BitLaws.{shifted_within}
use Rattle.selection.specs.declared.opcode.Command.TheVariants.{WREN, WRDI, RDSR, WRSR, READ, WRITE, FSTRD, RDID, SLEEP, Unknown}
use Rattle.transfer.specs.declared.word.DeviceWord.{DeviceWord}
use Rattle.transfer.specs.declared.word.DeviceWord.TheVariants.{ReadWord, WriteWord, OtherWord}
use Rattle.ledger.specs.Groups.{Group, groups}
use Rattle.ledger.specs.Bits.{number_after, number, FieldBits, short, whole, field, eight_bits, bytes}
use Rattle.ledger.specs.Stores.{Store, last_at, stored}
use Rattle.ledger.specs.Word.{word_in, address_after}
use Rattle.ledger.specs.SpiLedger.{End, Item, power_on, power_off, selection, Reading, partial, command, reading, after_address, address_in, followed_bits, data_address, data_bytes, enabled, SavedBits, register, bits, placed, stores, writes}
use Rattle.ledger.specs.I2cLedger as I2c
use Rattle.ledger.specs.I2cLedger.{Byte, value, idle, span}
use Rattle.ledger.proofs.GroupLaws.{Fronts, fronts}
use Rattle.ledger.proofs.StoreLaws.{length_stored, get_d_stored}
use Rattle.ledger.proofs.I2cReads.{Eights, eights}

-- ---- bits below a power of two

after_below : (xs : List Bool) (v n : ℕ) → v < 2 ^ n → number_after v xs < 2 ^ (n + length xs)
after_below [] v n h = let q : n + 0 ≡ n = omega arith in rw q h
after_below (x ∷ xs) v n h =
    let q : n + length (x ∷ xs) ≡ n + 1 + length xs = omega arith in
    rw q (after_below xs (shifted v x) (n + 1) (shifted_within n v x h))

-- eight bits make a byte
pub byte_below : (xs : List Bool) → length xs ≡ 8 → number xs < 256
byte_below xs l = rw l at (after_below xs 0 0 (omega arith))

abbrev pub AllBytes : List ℕ → Type 0
AllBytes [] = Unit {0}
AllBytes (v ∷ vs) = (v < 256) × AllBytes vs

bytes_below : (gs : List (Group Bool)) → Fronts 7 gs → AllBytes (map eight_bits gs)
bytes_below [] h = tt
bytes_below (g ∷ gs) h = (byte_below (g.front ++ (g.last ∷ [])) (rw (length-append, h.0)), bytes_below gs h.1)

pub all_bytes : (bs : List Bool) → AllBytes (bytes bs)
all_bytes bs = bytes_below (groups 7 bs).whole (fronts 7 bs)

-- ---- stores

-- a byte at an address below n
pub record Proper (n : ℕ) (w : Store) : Type 0 where
  pub inside : w.address < n
  pub byte : w.value < 256

abbrev pub AllProper : ℕ → List Store → Type 0
AllProper n [] = Unit {0}
AllProper n (w ∷ ws) = Proper n w × AllProper n ws

pub proper_append : (n : ℕ) (ws us : List Store) → AllProper n ws → AllProper n us → AllProper n (ws ++ us)
proper_append n [] us h k = k
proper_append n (w ∷ ws) us h k = (h.0, proper_append n ws us h.1 k)

pub proper_last : (n : ℕ) (ws : List Store) (w : Store) → AllProper n (ws ++ (w ∷ [])) → Proper n w
proper_last n [] w h = h.0
proper_last n (u ∷ ws) w h = proper_last n ws w h.1

-- what is stored stays bytes
pub last_below : (n a d : ℕ) (ws : List Store) → AllProper n ws → d < 256 → last_at a d ws < 256
last_below n a d [] h l = l
last_below n a d (w ∷ ws) h l = last_below n a (cond (eqb w.address a) w.value d) ws h.1 (by (eqb w.address a))
  where
    by : (y : Bool) → cond y w.value d < 256
    by true = h.0.byte
    by false = l

-- a memory of bytes holds bytes after them
pub stored_below : (n : ℕ) (m : List ℕ) (ws : List Store) → ((a : ℕ) → a < length m → get_or m a 0 < 256) → AllProper n ws
    → (a : ℕ) → get_or (stored m ws) a 0 < 256
stored_below n m ws h k a = by (ltb a (length m)) refl
  where
    by : (y : Bool) → ltb a (length m) ≡ y → get_or (stored m ws) a 0 < 256
    by true e =
        let l = ltb-true a (length m) e in
        rw (get_d_stored m ws a l) (last_below n a (get_or m a 0) ws k (h a l))
    by false e =
        let o : length (stored m ws) ≤ a = rw (length_stored m ws) (ltb-false a (length m) e) in
        rw (get_or-eq_default (stored m ws) 0 o) (omega arith)

module _ (p : Part) (positive : 0 < p.size) where
  none_proper : (e : Bool) (ws : List Store) → AllProper p.size ws → AllProper p.size (cond e ws [])
  none_proper true ws h = h
  none_proper false ws h = tt

  -- ---- SPI

  module _ (made : SavedBits) where
    placed_proper : (b : SavedBits) (vs : List ℕ) (a : ℕ) → a < p.size → AllBytes vs → AllProper p.size (placed p b a vs)
    placed_proper b [] a h hs = tt
    placed_proper b (v ∷ vs) a h hs =
        by (ltb a (protected_start (register b false) p)) (placed_proper b vs (next_address p.size a) (next_within p.size a positive) hs.1)
      where
        by : (y : Bool) → AllProper p.size (placed p b (next_address p.size a) vs)
            → AllProper p.size
            (cond y (record { address = a; value = v } ∷ placed p b (next_address p.size a) vs) (placed p b (next_address p.size a) vs))
        by true r = (record { inside = h; byte = hs.0 }, r)
        by false r = r

    address_below : (f : FieldBits) → address_in p f < p.size
    address_below (short xs) = positive
    address_below (whole xs rest) = mod-lt (number xs) positive

    stores_proper : (b : SavedBits) (x : End) (r : Reading) → AllProper p.size (stores p b x r)
    stores_proper b x partial = tt
    stores_proper b x (command WREN rest) = tt
    stores_proper b x (command WRDI rest) = tt
    stores_proper b x (command RDSR rest) = tt
    stores_proper b x (command WRSR rest) = tt
    stores_proper b x (command READ rest) = tt
    stores_proper b x (command WRITE rest) =
        let f = field p.width rest in
        placed_proper b (data_bytes p x rest) (data_address p rest) (address_below f) (all_bytes (followed_bits p x (after_address f)))
    stores_proper b x (command FSTRD rest) = tt
    stores_proper b x (command RDID rest) = tt
    stores_proper b x (command SLEEP rest) = tt
    stores_proper b x (command Unknown rest) = tt

    pub spi_proper : (is : List Item) → AllProper p.size (writes p made is)
    spi_proper [] = tt
    spi_proper (power_on ∷ is) = spi_proper is
    spi_proper (power_off ∷ is) = spi_proper is
    spi_proper (selection bs e ∷ is) =
        proper_append p.size (writes p made is) _ (spi_proper is) (none_proper (enabled p is) _ (stores_proper (bits p made is) e (reading p bs)))

  -- ---- I2C

  i2c_placed : (vs : List Byte) (a : ℕ) → a < p.size → Eights vs → AllProper p.size (I2c.placed p a vs)
  i2c_placed [] a h hs = tt
  i2c_placed (v ∷ vs) a h hs = by v.wp (i2c_placed vs (next_address p.size a) (next_within p.size a positive) hs.1)
    where
      by : (y : Bool) → AllProper p.size (I2c.placed p (next_address p.size a) vs)
          → AllProper p.size
          (cond y (I2c.placed p (next_address p.size a) vs) (record { address = a; value = value v } ∷ I2c.placed p (next_address p.size a) vs))
      by true r = r
      by false r = (record { inside = h; byte = byte_below v.bits hs.0 }, r)

  word_proper : (w : DeviceWord) (vs : List Byte) → Eights vs → AllProper p.size (I2c.by_word p w vs)
  word_proper (ReadWord a16) vs hs = tt
  word_proper (WriteWord a16) [] hs = tt
  word_proper (WriteWord a16) (high ∷ []) hs = tt
  word_proper (WriteWord a16) (high ∷ low ∷ vs) hs =
      i2c_placed vs (address_after p a16 high.bits low.bits) (mod-lt (number (a16 ∷ (high.bits ++ low.bits))) positive) hs.1.1
  word_proper OtherWord vs hs = tt

  span_proper : (pins : ℕ) (vs : List Byte) → Eights vs → AllProper p.size (I2c.stores p pins vs)
  span_proper pins [] hs = tt
  span_proper pins (word ∷ vs) hs = word_proper (word_in p pins word.bits) vs hs.1

  pub i2c_proper : (pins : ℕ) (is : List I2c.Item) → AllProper p.size (I2c.writes p pins is)
  i2c_proper pins [] = tt
  i2c_proper pins (idle ∷ is) = i2c_proper pins is
  i2c_proper pins (span ks ∷ is) =
      proper_append p.size (I2c.writes p pins is) _ (i2c_proper pins is) (span_proper pins (I2c.bytes ks) (eights ks))
