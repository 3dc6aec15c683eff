-- The clocks of a span, taken from the left: where they lead the phase and the address buffer, and that what they write is what
-- the ledger reads off their bytes, whatever the buffer was. Assumes nothing.
use Prim.Native.Nat.{ℕ, zero, suc, ◌+◌}
use mathlib.Core.Path.{◌≡◌, refl, ap, ◌∙◌}
use mathlib.Core.Bool.{Bool, true, false, cond}
use mathlib.Core.List.{List, [], ◌∷◌, ◌++◌, map, map-append}
use native.Mathlib.Omega.{arith}
use lib.Dec.{ltb}
use lib.ListN.{length, length-append, length-map}
use borrow.Author.Tests.{lt-ltb, le-ltb}
use Rattle.parts.specs.declared.part.Part.{Part}
use Rattle.std.specs.Prelude.{None}
use Rattle.serial.specs.Write.{write_at}
use Rattle.serial.specs.Address.{next_address}
use Rattle.serial.specs.Bits.{shifted}
use Rattle.transfer.specs.declared.buffer.AddressBuffer.{AddressBuffer}
use Rattle.transfer.specs.declared.phase.Field.{Field}
use Rattle.transfer.specs.declared.phase.Field.TheVariants.{Word, HighByte, LowByte, Data}
use Rattle.transfer.specs.declared.phase.Phase.{Phase}
use Rattle.transfer.specs.declared.phase.Phase.TheVariants.{Ignoring, Taking, Sending}
use Rattle.transfer.specs.declared.word.DeviceWord.{DeviceWord}
use Rattle.transfer.specs.declared.word.DeviceWord.TheVariants.{ReadWord, WriteWord, OtherWord}
use Rattle.transfer.specs.Buffer.{address_of_bytes, field_buffer, buffer_after}
use Rattle.transfer.specs.Phase.{phase_after_word, phase_after_byte, after_rise}
use Rattle.i2c.specs.Store.{field_write, rise_write}
use Rattle.transfer.specs.Word.{word_of}
use Rattle.ledger.specs.Stores.{Store}
use Rattle.ledger.specs.Bits.{number}
use Rattle.ledger.specs.Groups.{Group, groups_from}
use Rattle.ledger.specs.I2cLedger.{Clock, Byte, value, line_at, nine_rises, rises_in, bytes, placed, written, by_word, stores}
use Rattle.ledger.proofs.Folds as Folds
use Rattle.ledger.proofs.Folds.{after_snoc, given_snoc}
use Rattle.ledger.proofs.GroupLaws.{number_snoc, Fronts, fronts}
use Rattle.ledger.specs.Word.{Wired}
use Rattle.ledger.proofs.WordLaws.{word_in_lem, address_after_lem}
use Rattle.ledger.proofs.StoreLaws.{stores_of}

-- ---- the rises of a span by nines

-- a line more
pub lines_snoc : (xs : List Clock) (k : Clock) → number (map line_at (xs ++ (k ∷ []))) ≡ shifted (number (map line_at xs)) k.line
lines_snoc xs k = ap number (map-append line_at xs (k ∷ [])) ∙ number_snoc (map line_at xs) k.line

-- each whole byte has eight bits
abbrev pub Eights : List Byte → Type 0
Eights [] = Unit {0}
Eights (v ∷ vs) = (length v.bits ≡ 8) × Eights vs

eights_in : (gs : List (Group Clock)) → Fronts 8 gs → Eights (map nine_rises gs)
eights_in [] h = tt
eights_in (g ∷ gs) h = (length-map g.front line_at ∙ h.0, eights_in gs h.1)

pub eights : (ks : List Clock) → Eights (bytes ks)
eights ks = eights_in (rises_in ks).whole (fronts 8 ks)

-- what moves in a span
pub record Place : Type 0 where
  pub phase : Phase
  pub buffer : AddressBuffer

module _ (p : Part) (pins : ℕ) where
  -- one clock
  abbrev pub clocked : Place → Clock → Place
  clocked o k = record { phase = after_rise p pins o.buffer o.phase k.line; buffer = buffer_after p o.buffer o.phase }

  abbrev pub clock_stores : Place → Clock → List Store
  clock_stores o k = stores_of (rise_write o.phase k.wp)

  -- where clocks lead, and what they write
  abbrev pub after : Phase → AddressBuffer → List Clock → Place
  after ph b ks = Folds.after clocked (record { phase = ph; buffer = b }) ks

  abbrev pub wrote : Phase → AddressBuffer → List Clock → List Store
  wrote ph b ks = Folds.given clocked clock_stores (record { phase = ph; buffer = b }) ks

  -- ---- one clock more

  pub after_more : (ph : Phase) (b : AddressBuffer) (ks : List Clock) (k : Clock) → after ph b (ks ++ (k ∷ [])) ≡ clocked (after ph b ks) k
  after_more ph b ks k = after_snoc clocked (record { phase = ph; buffer = b }) ks k

  pub wrote_more : (ph : Phase) (b : AddressBuffer) (ks : List Clock) (k : Clock)
      → wrote ph b (ks ++ (k ∷ [])) ≡ wrote ph b ks ++ clock_stores (after ph b ks) k
  wrote_more ph b ks k = given_snoc clocked clock_stores (record { phase = ph; buffer = b }) ks k

  -- ---- a part that does not take bytes in writes nothing

  ignoring_wrote : (b : AddressBuffer) (ks : List Clock) → wrote Ignoring b ks ≡ []
  ignoring_wrote b [] = refl
  ignoring_wrote b (k ∷ ks) = ignoring_wrote b ks

  sending_wrote : (ks : List Clock) (a n : ℕ) (b : AddressBuffer) → wrote (Sending a n) b ks ≡ []
  sending_wrote [] a n b = refl
  sending_wrote (k ∷ ks) a n b = by (sending_wrote ks) (ltb n 8) k.line (buffer_after p b (Sending a n))
    where
      by : ((x y : ℕ) (c : AddressBuffer) → wrote (Sending x y) c ks ≡ [])
          → (t u : Bool) (c : AddressBuffer) → wrote (cond t (Sending a (n + 1)) (cond u Ignoring (Sending (next_address p.size a) 0))) c ks ≡ []
      by rest true u c = rest a (n + 1) c
      by rest false true c = ignoring_wrote c ks
      by rest false false c = rest (next_address p.size a) 0 c

  -- ---- a part that takes bytes in writes what the ledger places

  -- the stores of the bytes to come, when the next one is this field
  abbrev field_stores : Field → List Byte → List Store
  field_stores Word vs = stores p pins vs
  field_stores (HighByte a16) vs = written p a16 vs
  field_stores (LowByte a16 high) [] = []
  field_stores (LowByte a16 high) (low ∷ vs) = placed p (address_of_bytes p a16 high (value low)) vs
  field_stores (Data a) vs = placed p a vs

  no_byte : (f : Field) → [] ≡ field_stores f []
  no_byte Word = refl
  no_byte (HighByte a16) = refl
  no_byte (LowByte a16 high) = refl
  no_byte (Data a) = refl

  after_high : (a16 : Bool) (high : Byte) (vs : List Byte) → length high.bits ≡ 8 → Eights vs
      → field_stores (LowByte a16 (value high)) vs ≡ written p a16 (high ∷ vs)
  after_high a16 high [] h hs = refl
  after_high a16 high (low ∷ vs) h hs = rw (address_after_lem p a16 high.bits low.bits h hs.0)

  after_data : (a v : ℕ) (wp : Bool) {ws us : List Store} → ws ≡ us
      → stores_of (cond wp None (write_at a v)) ++ ws ≡ cond wp us (record { address = a; value = v } ∷ us)
  after_data a v true e = e
  after_data a v false e = rw e

  module _ (wired : Wired p pins) where
    -- a whole byte, given what the clocks after it write
    module _ (ks : List Clock) (vs : List Byte) (rest : (f : Field) (b : AddressBuffer) → wrote (Taking f 0 0) b ks ≡ field_stores f vs) where
      by_word_lem : (b : AddressBuffer) (w : DeviceWord) → wrote (phase_after_word p b w) b ks ≡ by_word p w vs
      by_word_lem b (ReadWord a16) = sending_wrote ks _ 0 b
      by_word_lem b (WriteWord a16) = rest (HighByte a16) b
      by_word_lem b OtherWord = ignoring_wrote b ks

      by_field : (f : Field) (b : AddressBuffer) (v : Byte) → length v.bits ≡ 8 → Eights vs
          → stores_of (field_write f (value v) v.wp) ++ wrote (phase_after_byte p pins b f (value v)) (field_buffer p b f (value v)) ks ≡ field_stores f (v ∷ vs)
      by_field Word b v h hs = rw (word_in_lem p pins wired v.bits h) (by_word_lem b (word_of p pins (value v)))
      by_field (HighByte a16) b v h hs = rest (LowByte a16 (value v)) b ∙ after_high a16 v vs h hs
      by_field (LowByte a16 high) b v h hs = rest (Data (address_of_bytes p a16 high (value v))) _
      by_field (Data a) b v h hs = after_data a (value v) v.wp (rest (Data (next_address p.size a)) _)

    -- with the rises xs of a byte over, n of them, and r more before its ninth
    field_from : (ks xs : List Clock) (f : Field) (b : AddressBuffer) (n r : ℕ) → n + r ≡ 8 → length xs ≡ n
        → wrote (Taking f n (number (map line_at xs))) b ks ≡ field_stores f (map nine_rises (groups_from 8 r xs ks).whole)
    field_from [] xs f b n r h l = no_byte f
    field_from (k ∷ ks) xs f b n zero h l =
        rw (le-ltb n 8 (omega arith))
        (by_field ks (bytes ks) (λ g c. field_from ks [] g c 0 8 refl refl) f b (nine_rises (record { front = xs; last = k }))
        (length-map xs line_at ∙ l ∙ omega arith) (eights ks))
    field_from (k ∷ ks) xs f b n (suc r) h l =
        rw (lt-ltb n 8 (omega arith), ← lines_snoc) (field_from ks (xs ++ (k ∷ [])) f b (n + 1) r (omega arith) (rw (length-append, l)))

    -- a span writes what the ledger reads off it
    pub span_wrote : (b : AddressBuffer) (ks : List Clock) → wrote (Taking Word 0 0) b ks ≡ stores p pins (bytes ks)
    span_wrote b ks = field_from ks [] Word b 0 8 refl refl
