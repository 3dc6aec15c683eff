-- The word and the address that the ledger reads by bits are those that the part takes as numbers: lists of bits of one length are
-- the same exactly if their numbers are, and the words drawn have the numbers that the part compares. Assumes nothing.
use Prim.Native.Nat.{ℕ, zero, suc, ◌+◌, ◌*◌, ◌/◌, ◌%◌, ◌^◌, ◌<◌}
use mathlib.Core.Path.{◌≡◌, refl, ap, ◌∙◌}
use mathlib.Core.Bool.{Bool, true, false, cond, ◌&&◌}
use mathlib.Core.List.{List, [], ◌∷◌, ◌++◌}
use native.Mathlib.Nat.{pow-succ', mul_assoc, mul_comm, add-mul}
use native.Mathlib.Omega.{arith}
use lib.Dec.{eqb}
use lib.ListN.{length}
use borrow.Author.Tests.{eq-eqb, ne_eqb, eqb-true, eqb-false}
use Rattle.parts.specs.declared.part.Part.{Part}
use Rattle.parts.specs.Status.{bit}
use Rattle.serial.specs.Bits.{shifted}
use Rattle.transfer.specs.declared.word.DeviceWord.{DeviceWord}
use Rattle.transfer.specs.declared.word.DeviceWord.TheVariants.{ReadWord, WriteWord, OtherWord}
use Rattle.transfer.specs.Buffer.{address_of_bytes}
use Rattle.transfer.specs.Word.{word_of}
use Rattle.ledger.specs.Bits.{number_after, number}
use Rattle.ledger.specs.Word.{same_bit, same_bits, pin, drawn_word, Wired, word_in, address_after}

-- ---- lists of bits by their numbers

-- two tests of numbers that hold together
both_ways : (a b c d : ℕ) → (a ≡ b → c ≡ d) → (c ≡ d → a ≡ b) → eqb a b ≡ eqb c d
both_ways a b c d f g = by (eqb c d) refl
  where
    by : (t : Bool) → eqb c d ≡ t → eqb a b ≡ t
    by true e = eq-eqb a b (g (eqb-true c d e))
    by false e = ne_eqb a b (λ q. eqb-false c d e (f q))

shifted_same : (v u : ℕ) (x y : Bool) → eqb (shifted v x) (shifted u y) ≡ (same_bit x y && eqb v u)
shifted_same v u true true = both_ways (2 * v + 1) (2 * u + 1) v u (λ q. omega arith) (λ q. omega arith)
shifted_same v u true false = ne_eqb (2 * v + 1) (2 * u + 0) (λ q. omega arith)
shifted_same v u false true = ne_eqb (2 * v + 0) (2 * u + 1) (λ q. omega arith)
shifted_same v u false false = both_ways (2 * v + 0) (2 * u + 0) v u (λ q. omega arith) (λ q. omega arith)

and_moved : (a b c : Bool) → ((a && b) && c) ≡ (b && (a && c))
and_moved true b c = refl
and_moved false true c = refl
and_moved false false c = refl

same_after : (xs ys : List Bool) (v u : ℕ) → length xs ≡ length ys → (same_bits xs ys && eqb v u) ≡ eqb (number_after v xs) (number_after u ys)
same_after [] [] v u h = refl
same_after [] (y ∷ ys) v u h = absurd (omega arith)
same_after (x ∷ xs) [] v u h = absurd (omega arith)
same_after (x ∷ xs) (y ∷ ys) v u h =
    and_moved (same_bit x y) (same_bits xs ys) (eqb v u) ∙ rw (← shifted_same v u x y) (same_after xs ys (shifted v x) (shifted u y) (omega arith))

and_true : (a : Bool) → (a && true) ≡ a
and_true true = refl
and_true false = refl

pub same_number : (xs ys : List Bool) → length xs ≡ length ys → same_bits xs ys ≡ eqb (number xs) (number ys)
same_number xs ys h = rw (and_true (same_bits xs ys)) at (same_after xs ys 0 0 h)

-- ---- the words drawn

bit_back : (x : ℕ) → bit (eqb (x % 2) 1) ≡ x % 2
bit_back x = by (x % 2) (omega arith)
  where
    by : (y : ℕ) → y < 2 → bit (eqb y 1) ≡ y
    by zero h = refl
    by (suc zero) h = refl
    by (suc (suc y)) h = absurd (omega arith)

-- a remainder that is not 1 is 0
pub zero_or_one : (x : ℕ) → eqb (x % 2) 1 ≡ false → x % 2 ≡ 0
zero_or_one x e = by (x % 2) (omega arith) e
  where
    by : (y : ℕ) → y < 2 → eqb y 1 ≡ false → y ≡ 0
    by zero h f = refl
    by (suc zero) h f = absurd (eqb-false 1 1 f refl)
    by (suc (suc y)) h f = absurd (omega arith)

-- a number w against the four words with these pins, A16 at 0 or 1
module _ (w pins : ℕ) where
  abbrev compared : ℕ → ℕ → ℕ → ℕ → DeviceWord
  compared a b c d =
      cond (eqb w a) (ReadWord false) (cond (eqb w b) (ReadWord true) (cond (eqb w c) (WriteWord false) (cond (eqb w d) (WriteWord true) OtherWord)))

  with_a16_lem : compared (160 + 4 * pins + 0 + 1) (160 + 4 * pins + 2 + 1) (160 + 4 * pins + 0 + 0) (160 + 4 * pins + 2 + 0)
      ≡ cond (eqb (w / 4) (40 + pins)) (cond (eqb (w % 2) 1) (ReadWord (eqb (w / 2 % 2) 1)) (WriteWord (eqb (w / 2 % 2) 1))) OtherWord
  with_a16_lem = by (eqb (w / 4) (40 + pins)) (eqb (w % 2) 1) (eqb (w / 2 % 2) 1) refl refl refl
    where
      by : (t r x : Bool) → eqb (w / 4) (40 + pins) ≡ t → eqb (w % 2) 1 ≡ r → eqb (w / 2 % 2) 1 ≡ x
          → compared (160 + 4 * pins + 0 + 1) (160 + 4 * pins + 2 + 1) (160 + 4 * pins + 0 + 0) (160 + 4 * pins + 2 + 0)
          ≡ cond t (cond r (ReadWord x) (WriteWord x)) OtherWord
      by false r x e f g =
          let n = eqb-false (w / 4) (40 + pins) e in
          rw (ne_eqb w (160 + 4 * pins + 0 + 1) (λ q. n (omega arith)), ne_eqb w (160 + 4 * pins + 2 + 1) (λ q. n (omega arith)), ne_eqb w (160 + 4 * pins + 0 + 0) (λ q. n (omega arith)), ne_eqb w (160 + 4 * pins + 2 + 0) (λ q. n (omega arith)))
      by true true true e f g =
          let a = eqb-true (w / 4) (40 + pins) e in
          let whole : w ≡ 4 * (w / 4) + 2 * (w / 2 % 2) + w % 2 = omega arith in
          let b = eqb-true (w % 2) 1 f in
          let c = eqb-true (w / 2 % 2) 1 g in
          rw (ne_eqb w (160 + 4 * pins + 0 + 1) (λ q. omega arith), eq-eqb w (160 + 4 * pins + 2 + 1) (omega arith))
      by true true false e f g =
          let a = eqb-true (w / 4) (40 + pins) e in
          let whole : w ≡ 4 * (w / 4) + 2 * (w / 2 % 2) + w % 2 = omega arith in
          let b = eqb-true (w % 2) 1 f in
          let c = zero_or_one (w / 2) g in
          rw (eq-eqb w (160 + 4 * pins + 0 + 1) (omega arith))
      by true false true e f g =
          let a = eqb-true (w / 4) (40 + pins) e in
          let whole : w ≡ 4 * (w / 4) + 2 * (w / 2 % 2) + w % 2 = omega arith in
          let b = zero_or_one w f in
          let c = eqb-true (w / 2 % 2) 1 g in
          rw (ne_eqb w (160 + 4 * pins + 0 + 1) (λ q. omega arith), ne_eqb w (160 + 4 * pins + 2 + 1) (λ q. omega arith), ne_eqb w (160 + 4 * pins + 0 + 0) (λ q. omega arith), eq-eqb w (160 + 4 * pins + 2 + 0) (omega arith))
      by true false false e f g =
          let a = eqb-true (w / 4) (40 + pins) e in
          let whole : w ≡ 4 * (w / 4) + 2 * (w / 2 % 2) + w % 2 = omega arith in
          let b = zero_or_one w f in
          let c = zero_or_one (w / 2) g in
          rw (ne_eqb w (160 + 4 * pins + 0 + 1) (λ q. omega arith), ne_eqb w (160 + 4 * pins + 2 + 1) (λ q. omega arith), eq-eqb w (160 + 4 * pins + 0 + 0) (omega arith))

  without_a16 : compared (160 + 2 * pins + 1) (160 + 2 * pins + 1) (160 + 2 * pins + 0) (160 + 2 * pins + 0)
      ≡ cond (eqb (w / 2) (80 + pins)) (cond (eqb (w % 2) 1) (ReadWord false) (WriteWord false)) OtherWord
  without_a16 = by (eqb (w / 2) (80 + pins)) (eqb (w % 2) 1) refl refl
    where
      by : (t r : Bool) → eqb (w / 2) (80 + pins) ≡ t → eqb (w % 2) 1 ≡ r
          → compared (160 + 2 * pins + 1) (160 + 2 * pins + 1) (160 + 2 * pins + 0) (160 + 2 * pins + 0) ≡ cond t (cond r (ReadWord false) (WriteWord false)) OtherWord
      by false r e f =
          let n = eqb-false (w / 2) (80 + pins) e in
          rw (ne_eqb w (160 + 2 * pins + 1) (λ q. n (omega arith)), ne_eqb w (160 + 2 * pins + 0) (λ q. n (omega arith)))
      by true true e f =
          let a = eqb-true (w / 2) (80 + pins) e in
          let b = eqb-true (w % 2) 1 f in
          rw (eq-eqb w (160 + 2 * pins + 1) (omega arith))
      by true false e f =
          let a = eqb-true (w / 2) (80 + pins) e in
          let b = zero_or_one w f in
          rw (ne_eqb w (160 + 2 * pins + 1) (λ q. omega arith), eq-eqb w (160 + 2 * pins + 0) (omega arith))

module _ (p : Part) (pins : ℕ) (wired : Wired p pins) (bs : List Bool) (eight : length bs ≡ 8) where
  -- bits that are compared with eight others
  is_word : (xs : List Bool) (n : ℕ) → length xs ≡ 8 → number xs ≡ n → same_bits bs xs ≡ eqb (number bs) n
  is_word xs n l h = rw (← h) (same_number bs xs (omega arith))

  with_word : p.a16 ≡ true → (x r : Bool) → same_bits bs (drawn_word p pins x r) ≡ eqb (number bs) (160 + 4 * pins + 2 * bit x + bit r)
  with_word e x r =
      let few : pins < 4 = rw e at wired in
      rw e (is_word (true ∷ false ∷ true ∷ false ∷ pin pins 1 ∷ pin pins 0 ∷ x ∷ r ∷ []) _ refl (omega (arith, bit_back (pins / 2 ^ 0), bit_back (pins / 2 ^ 1))))

  without_word : p.a16 ≡ false → (x r : Bool) → same_bits bs (drawn_word p pins x r) ≡ eqb (number bs) (160 + 2 * pins + bit r)
  without_word e x r =
      let few : pins < 8 = rw e at wired in
      rw e
      (is_word (true ∷ false ∷ true ∷ false ∷ pin pins 2 ∷ pin pins 1 ∷ pin pins 0 ∷ r ∷ []) _ refl
      (omega (arith, bit_back (pins / 2 ^ 0), bit_back (pins / 2 ^ 1), bit_back (pins / 2 ^ 2))))

  -- the word of eight bits that the ledger reads is the part's word of their number
  pub word_in_lem : word_in p pins bs ≡ word_of p pins (number bs)
  unfolding word_of
  word_in_lem = by p.a16 refl
    where
      by : (y : Bool) → p.a16 ≡ y → word_in p pins bs ≡ word_of p pins (number bs)
      by true e = rw (with_word e false true, with_word e true true, with_word e false false, with_word e true false, e) (with_a16_lem (number bs) pins)
      by false e =
          rw (without_word e false true, without_word e true true, without_word e false false, without_word e true false, e)
          (without_a16 (number bs) pins)

-- ---- the address

-- one bit more before n others, P being 2 to the n
spread : (v b P m : ℕ) → (2 * v + b) * P + m ≡ v * (2 * P) + ((2 * 0 + b) * P + m)
spread v b P m =
    let e : (2 * v + b) * P ≡ 2 * v * P + b * P = add-mul (2 * v) b P in
    let f : 2 * v * P ≡ v * (2 * P) = ap (λ (x : ℕ). x * P) (mul_comm 2 v) ∙ mul_assoc v 2 P in
    let g : (2 * 0 + b) * P ≡ b * P = ap (λ (x : ℕ). x * P) (omega arith) in
    omega arith

-- bits after the number v
after_power : (xs : List Bool) (v : ℕ) → number_after v xs ≡ v * 2 ^ length xs + number xs
after_power [] v = omega arith
after_power (x ∷ xs) v =
    after_power xs (shifted v x) ∙ rw (pow-succ' 2 (length xs), after_power xs (shifted 0 x)) (spread v (bit x) (2 ^ length xs) (number xs))

after_append : (v : ℕ) (xs ys : List Bool) → number_after v (xs ++ ys) ≡ number_after (number_after v xs) ys
after_append v [] ys = refl
after_append v (x ∷ xs) ys = after_append (shifted v x) xs ys

pub address_after_lem : (p : Part) (a16 : Bool) (high low : List Bool) → length high ≡ 8 → length low ≡ 8
    → address_after p a16 high low ≡ address_of_bytes p a16 (number high) (number low)
address_after_lem p a16 high low h l =
    ap (λ (x : ℕ). x % p.size)
    (after_append (shifted 0 a16) high low
    ∙ after_power low (number_after (shifted 0 a16) high)
    ∙ rw (after_power high (shifted 0 a16), h, l) (omega arith))
