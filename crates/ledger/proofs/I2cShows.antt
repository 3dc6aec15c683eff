-- The clocks of a span, taken from the left, lead to a phase that pulls after a fall, and to an address buffer, as the whole bytes
-- and the lines of the byte begun say; and what a span writes does not change what it pulls. Assumes nothing.
use Prim.Native.Nat.{ℕ, zero, suc, ◌+◌, ◌≤◌}
use mathlib.Core.Path.{◌≡◌, refl, sym, ap, ◌∙◌}
use mathlib.Core.Bool.{Bool, true, false, cond, not, ◌&&◌}
use mathlib.Core.List.{List, [], ◌∷◌, ◌++◌, map, map-append}
use native.Mathlib.Omega.{arith}
use lib.Dec.{ltb}
use lib.ListN.{length, get_or, length-append, length-map}
use borrow.Author.Tests.{lt-ltb, le-ltb, ltb-true, ltb-false, ne_eqb}
use Rattle.parts.specs.declared.part.Part.{Part}
use Rattle.serial.specs.Address.{next_address}
use Rattle.serial.specs.Bits.{bit_at}
use Rattle.transfer.specs.declared.buffer.AddressBuffer.{AddressBuffer}
use Rattle.transfer.specs.declared.phase.Field.{Field}
use Rattle.transfer.specs.declared.phase.Field.TheVariants.{Word, HighByte, LowByte, Data}
use Rattle.transfer.specs.declared.phase.Phase.TheVariants.{Ignoring, Taking, Sending}
use Rattle.transfer.specs.declared.word.DeviceWord.{DeviceWord}
use Rattle.transfer.specs.declared.word.DeviceWord.TheVariants.{ReadWord, WriteWord, OtherWord}
use Rattle.transfer.specs.Buffer.{address_of_bytes, read_address, field_buffer}
use Rattle.transfer.specs.Phase.{phase_after_word, phase_after_byte}
use Rattle.i2c.specs.Pull.{ours, pulls_after}
use Rattle.transfer.specs.Word.{word_of}
use Rattle.ledger.specs.Bits.{number}
use Rattle.ledger.specs.Groups.{groups_from}
use Rattle.ledger.specs.Stores.{stored}
use Rattle.ledger.specs.Word.{Wired, word_in}
use Rattle.ledger.specs.I2cLedger.{Clock, Byte, value, line_at, nine_rises, bytes, unfinished, by_word, stores}
use Rattle.ledger.specs.I2cAnswers.{used_at, unused_at, taken_buffer, written_buffer, sent_buffer, word_buffer, span_buffer, eighth, shows_low, sends_low, word_pulls, span_pulls}
use Rattle.ledger.proofs.GroupLaws.{longer}
use Rattle.ledger.proofs.WordLaws.{word_in_lem, address_after_lem}
use Rattle.ledger.proofs.I2cReads.{lines_snoc, Eights, eights, Place, after}

-- the whole bytes and the lines of the byte begun, after the rises xs of a first byte
abbrev bytes_from : ℕ → List Clock → List Clock → List Byte
bytes_from r xs ks = map nine_rises (groups_from 8 r xs ks).whole

abbrev unfinished_from : ℕ → List Clock → List Clock → List Bool
unfinished_from r xs ks = map line_at (groups_from 8 r xs ks).left

module _ (p : Part) (pins : ℕ) (m : List ℕ) where
  -- a place from which the part pulls so after a fall, with this address buffer
  pub record Told (o : Place) (pull : Bool) (b : AddressBuffer) : Type 0 where
    pub pull_is : pulls_after p pins m o.phase ≡ pull
    pub buffer_is : o.buffer ≡ b

  ignoring_told : (b : AddressBuffer) (ks : List Clock) → Told (after p pins Ignoring b ks) false b
  ignoring_told b [] = record { pull_is = refl; buffer_is = refl }
  ignoring_told b (k ∷ ks) = ignoring_told b ks

  -- ---- bytes that go out

  -- with the rises xs of a byte over, n of them, and r more before its ninth
  abbrev SendingTold : List Clock → List Clock → ℕ → ℕ → ℕ → AddressBuffer → Type 0
  SendingTold ks xs n r a b =
      Told (after p pins (Sending a n) b ks) (sends_low p m a (bytes_from r xs ks) (unfinished_from r xs ks)) (sent_buffer p b a (bytes_from r xs ks))

  -- the line at the ninth rise
  ninth_told : (ks : List Clock) (a : ℕ) (y : Bool) → SendingTold ks [] 0 8 (next_address p.size a) (used_at a)
      → Told (after p pins (cond y Ignoring (Sending (next_address p.size a) 0)) (used_at a) ks)
      (cond y false (sends_low p m (next_address p.size a) (bytes ks) (unfinished ks)))
      (cond y (used_at a) (sent_buffer p (used_at a) (next_address p.size a) (bytes ks)))
  ninth_told ks a true t = ignoring_told (used_at a) ks
  ninth_told ks a false t = t

  -- with fewer than nine rises over, the bits shown are those of the lines so far
  shows_low_lem : (xs : List Clock) (a n : ℕ) → length xs ≡ n
      → cond (ltb n 8) (not (bit_at (get_or m a 0) n)) false ≡ shows_low (get_or m a 0) (map line_at xs)
  shows_low_lem xs a n l = rw (length-map xs line_at, l) (by (ltb n 8) (not (bit_at (get_or m a 0) n)))
    where
      by : (t u : Bool) → cond t u false ≡ (t && u)
      by true u = refl
      by false u = refl

  sending_from : (ks xs : List Clock) (a : ℕ) (b : AddressBuffer) (n r : ℕ) → n + r ≡ 8 → length xs ≡ n → SendingTold ks xs n r a b
  sending_from [] xs a b n r h l = record { pull_is = shows_low_lem xs a n l; buffer_is = refl }
  sending_from (k ∷ ks) xs a b n zero h l =
      rw (le-ltb n 8 (omega arith)) (ninth_told ks a k.line (sending_from ks [] (next_address p.size a) (used_at a) 0 8 refl refl))
  sending_from (k ∷ ks) xs a b n (suc r) h l =
      rw (lt-ltb n 8 (omega arith)) (sending_from ks (xs ++ (k ∷ [])) a b (n + 1) r (omega arith) (rw (length-append, l)))

  -- ---- bytes that come in

  -- what is pulled and the buffer, when the next byte is this field
  abbrev field_pulls : Field → AddressBuffer → List Byte → List Bool → Bool
  field_pulls Word b vs bs = span_pulls p pins m b vs bs
  field_pulls (HighByte a16) b vs bs = eighth bs
  field_pulls (LowByte a16 high) b vs bs = eighth bs
  field_pulls (Data a) b vs bs = eighth bs

  abbrev field_left : Field → AddressBuffer → List Byte → AddressBuffer
  field_left Word b vs = span_buffer p pins b vs
  field_left (HighByte a16) b vs = written_buffer p b a16 vs
  field_left (LowByte a16 high) b [] = b
  field_left (LowByte a16 high) b (low ∷ vs) = taken_buffer p (unused_at (address_of_bytes p a16 high (value low))) (address_of_bytes p a16 high (value low)) vs
  field_left (Data a) b vs = taken_buffer p b a vs

  after_high : (a16 : Bool) (high : Byte) (b : AddressBuffer) (vs : List Byte) → length high.bits ≡ 8 → Eights vs
      → field_left (LowByte a16 (value high)) b vs ≡ written_buffer p b a16 (high ∷ vs)
  after_high a16 high b [] h hs = refl
  after_high a16 high b (low ∷ vs) h hs = rw (address_after_lem p a16 high.bits low.bits h hs.0)

  -- with the rises xs of a byte over, n of them, and r more before its ninth
  abbrev FieldTold : List Clock → List Clock → ℕ → ℕ → Field → AddressBuffer → Type 0
  FieldTold ks xs n r f b =
      Told (after p pins (Taking f n (number (map line_at xs))) b ks) (field_pulls f b (bytes_from r xs ks) (unfinished_from r xs ks))
      (field_left f b (bytes_from r xs ks))

  module _ (wired : Wired p pins) where
    -- fewer than eight rises, and eight
    few : (f : Field) (b : AddressBuffer) (n v : ℕ) (bs : List Bool) → ltb n 8 ≡ true → eighth bs ≡ false
        → Told (record { phase = Taking f n v; buffer = b }) (field_pulls f b [] bs) (field_left f b [])
    few Word b n v bs h e = record { pull_is = rw (h, e); buffer_is = refl }
    few (HighByte a16) b n v bs h e = record { pull_is = rw (h, e); buffer_is = refl }
    few (LowByte a16 high) b n v bs h e = record { pull_is = rw (h, e); buffer_is = refl }
    few (Data a) b n v bs h e = record { pull_is = rw (h, e); buffer_is = refl }

    eight : (f : Field) (b : AddressBuffer) (n : ℕ) (bs : List Bool) → ltb n 8 ≡ false → length bs ≡ 8
        → Told (record { phase = Taking f n (number bs); buffer = b }) (field_pulls f b [] bs) (field_left f b [])
    eight Word b n bs h l = record { pull_is = rw (h, l) (sym (ap ours (word_in_lem p pins wired bs l))); buffer_is = refl }
    eight (HighByte a16) b n bs h l = record { pull_is = rw (h, l); buffer_is = refl }
    eight (LowByte a16 high) b n bs h l = record { pull_is = rw (h, l); buffer_is = refl }
    eight (Data a) b n bs h l = record { pull_is = rw (h, l); buffer_is = refl }

    begun_told : (f : Field) (b : AddressBuffer) (n : ℕ) (bs : List Bool) → length bs ≡ n → n ≤ 8
        → Told (record { phase = Taking f n (number bs); buffer = b }) (field_pulls f b [] bs) (field_left f b [])
    begun_told f b n bs l h = by (ltb n 8) refl
      where
        by : (y : Bool) → ltb n 8 ≡ y → Told (record { phase = Taking f n (number bs); buffer = b }) (field_pulls f b [] bs) (field_left f b [])
        by true e = few f b n (number bs) bs e (ne_eqb (length bs) 8 (λ q. omega (arith, ltb-true n 8 e)))
        by false e = eight f b n bs e (omega (arith, ltb-false n 8 e))

    -- a whole byte, given where the clocks after it lead
    module _ (ks : List Clock) (rest : (f : Field) (b : AddressBuffer) → FieldTold ks [] 0 8 f b) where
      by_word_lem : (b : AddressBuffer) (w : DeviceWord)
          → Told (after p pins (phase_after_word p b w) b ks) (word_pulls p m b w (bytes ks) (unfinished ks)) (word_buffer p b w (bytes ks))
      by_word_lem b (ReadWord a16) = sending_from ks [] (read_address p b a16) b 0 8 refl refl
      by_word_lem b (WriteWord a16) = rest (HighByte a16) b
      by_word_lem b OtherWord = ignoring_told b ks

      by_field : (f : Field) (b : AddressBuffer) (v : Byte) → length v.bits ≡ 8
          → Told (after p pins (phase_after_byte p pins b f (value v)) (field_buffer p b f (value v)) ks) (field_pulls f b (v ∷ bytes ks) (unfinished ks))
          (field_left f b (v ∷ bytes ks))
      by_field Word b v h = rw (word_in_lem p pins wired v.bits h) (by_word_lem b (word_of p pins (value v)))
      by_field (HighByte a16) b v h = rw (← after_high a16 v b (bytes ks) h (eights ks)) (rest (LowByte a16 (value v)) b)
      by_field (LowByte a16 high) b v h = rest (Data (address_of_bytes p a16 high (value v))) _
      by_field (Data a) b v h = rest (Data (next_address p.size a)) _

    field_from : (ks xs : List Clock) (f : Field) (b : AddressBuffer) (n r : ℕ) → n + r ≡ 8 → length xs ≡ n → FieldTold ks xs n r f b
    field_from [] xs f b n r h l = begun_told f b n (map line_at xs) (length-map xs line_at ∙ l) (omega arith)
    field_from (k ∷ ks) xs f b n zero h l =
        rw (le-ltb n 8 (omega arith))
        (by_field ks (λ g c. field_from ks [] g c 0 8 refl refl) f b (nine_rises (record { front = xs; last = k }))
        (length-map xs line_at ∙ l ∙ omega arith))
    field_from (k ∷ ks) xs f b n (suc r) h l =
        rw (lt-ltb n 8 (omega arith), ← lines_snoc) (field_from ks (xs ++ (k ∷ [])) f b (n + 1) r (omega arith) (rw (length-append, l)))

    -- a span pulls and leaves the buffer as the definitions say
    pub span_told : (b : AddressBuffer) (ks : List Clock)
        → Told (after p pins (Taking Word 0 0) b ks) (span_pulls p pins m b (bytes ks) (unfinished ks)) (span_buffer p pins b (bytes ks))
    span_told b ks = field_from ks [] Word b 0 8 refl refl

  -- ---- a span that sends does not write: with its stores the memory shows the same, also after falls earlier in it

  word_same : (b : AddressBuffer) (w : DeviceWord) (vs us : List Byte) (bs : List Bool)
      → word_pulls p (stored m (by_word p w us)) b w vs bs ≡ word_pulls p m b w vs bs
  word_same b (ReadWord a16) vs us bs = refl
  word_same b (WriteWord a16) vs us bs = refl
  word_same b OtherWord vs us bs = refl

  bytes_same : (b : AddressBuffer) (vs us : List Byte) (bs : List Bool)
      → span_pulls p pins (stored m (stores p pins (vs ++ us))) b vs bs ≡ span_pulls p pins m b vs bs
  bytes_same b [] us bs = refl
  bytes_same b (word ∷ vs) us bs = word_same b (word_in p pins word.bits) vs (vs ++ us) bs

  pub pull_same : (b : AddressBuffer) (ks more : List Clock)
      → span_pulls p pins (stored m (stores p pins (bytes (ks ++ more)))) b (bytes ks) (unfinished ks) ≡ span_pulls p pins m b (bytes ks) (unfinished ks)
  pull_same b ks more =
      let l = longer 8 ks more in
      rw (l.1, map-append) (bytes_same b (bytes ks) (map nine_rises l.0) (unfinished ks))
