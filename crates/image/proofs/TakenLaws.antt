-- Images and states: each state that passes 1 and 2 has one image, each image that is taken has one state, and a buffer of bytes is taken
-- exactly if it is such an image. From the laws of the fields. Assumes nothing.
use Prim.Native.Nat.{ℕ, suc, ◌+◌, ◌*◌, ◌<◌}
use mathlib.Core.Path.{◌≡◌, refl, sym, ap, ◌∙◌}
use mathlib.Core.Bool.{true, ◌&&◌}
use mathlib.Core.List.{List, [], ◌∷◌, ◌++◌}
use native.Mathlib.Nat.{zero-add}
use native.Mathlib.Omega.{arith}
use lib.Dec.{eqb}
use lib.ListN.{length, drop, get_or, replicate, length-drop}
use lib.Seq.{drop-cons}
use borrow.Author.Tests.{eq-eqb, eqb-true}
use Rattle.parts.proofs.Rows.{and_both}
use Rattle.chip.specs.declared.model.Model.{Model}
use Rattle.image_fields.specs.declared.fields.PhaseFields.{PhaseFields}
use Rattle.image_fields.specs.declared.fields.Fields.{Fields}
use Rattle.image.specs.Bytes.{bytes_of, three_at}
use Rattle.image_fields.specs.Fields.{phase_fields, same_phase, same_fields}
use Rattle.image.specs.Layout.{head_bytes, spelled, fields_in, Small}
use Rattle.image_fields.specs.State.{fields_of, state_in}
use Rattle.image.specs.Taken.{image_of, state_of, in_range, zeros, taken, Bytes, ImageOf}
use Rattle.image.proofs.WordLaws.{head_bytes_lem, three_bytes}
use Rattle.image.proofs.RangeLaws.{inside, small_fields}
use Rattle.image_fields.proofs.StateLaws.{state_back}

-- ---- three bytes

-- the number that three bytes make has these bytes: they are the last three of eight
three_make : (a b c : ℕ) → a < 256 → b < 256 → c < 256 → bytes_of 3 (65536 * a + 256 * b + c) ≡ a ∷ b ∷ c ∷ []
three_make a b c p q r =
    rw (zero-add (65536 * a)) at (ap (drop 5) (head_bytes_lem 0 0 0 0 0 a b c (omega arith) (omega arith) (omega arith) (omega arith) (omega arith) p q r))

-- ---- fields

-- the fields that the bytes of some fields hold are these
pub fields_back : (f : Fields) → Small f → fields_in (spelled f) ≡ f
fields_back f s = rw (← three_bytes f.phase.value s.phase.value, ← three_bytes f.phase.address s.phase.address, ← three_bytes f.buffer s.buffer)

-- fields that compare as the same are the same
phase_of : {t t' c c' v v' x x' d d' : ℕ} → t ≡ t' → c ≡ c' → v ≡ v' → x ≡ x' → d ≡ d' → phase_fields t c v x d ≡ phase_fields t' c' v' x' d'
phase_of p q r s u = rw (p, q, r, s, u)

same_phase_is : (a b : PhaseFields) → same_phase a b ≡ true → a ≡ b
same_phase_is a b h =
    let h1 = and_both (eqb a.tag b.tag) _ h in
    let h2 = and_both (eqb a.count b.count) _ h1.1 in
    let h3 = and_both (eqb a.value b.value) _ h2.1 in
    let h4 = and_both (eqb a.address b.address) _ h3.1 in
    phase_of (eqb-true _ _ h1.0) (eqb-true _ _ h2.0) (eqb-true _ _ h3.0) (eqb-true _ _ h4.0) (eqb-true _ _ h4.1)

-- the fields before the phase, and those after it
abbrev fields_with : ℕ → ℕ → ℕ → ℕ → ℕ → ℕ → ℕ → ℕ → ℕ → PhaseFields → Fields
fields_with a b c d e f g h i x =
    record { part = a; pins = b; status = c; power = d; last = e; driven = f; asleep = g; phase = x; buffer = h; used = i }

same_is : (a b : Fields) → same_fields a b ≡ true → a ≡ b
same_is a b h =
    let h1 = and_both (eqb a.part b.part) _ h in
    let h2 = and_both (eqb a.pins b.pins) _ h1.1 in
    let h3 = and_both (eqb a.status b.status) _ h2.1 in
    let h4 = and_both (eqb a.power b.power) _ h3.1 in
    let h5 = and_both (eqb a.last b.last) _ h4.1 in
    let h6 = and_both (eqb a.driven b.driven) _ h5.1 in
    let h7 = and_both (eqb a.asleep b.asleep) _ h6.1 in
    let h8 = and_both (eqb a.buffer b.buffer) _ h7.1 in
    let h9 = and_both (eqb a.used b.used) _ h8.1 in
    fields_of_lem (eqb-true _ _ h1.0) (eqb-true _ _ h2.0) (eqb-true _ _ h3.0) (eqb-true _ _ h4.0) (eqb-true _ _ h5.0) (eqb-true _ _ h6.0) (eqb-true _ _ h7.0) (eqb-true _ _ h8.0) (eqb-true _ _ h9.0) (same_phase_is a.phase b.phase h9.1)
  where
    fields_of_lem : {a a' b b' c c' d d' e e' f f' g g' h h' i i' : ℕ} {x x' : PhaseFields} → a ≡ a' → b ≡ b' → c ≡ c' → d ≡ d' → e ≡ e' → f ≡ f' → g ≡ g' → h ≡ h' → i ≡ i' → x ≡ x'
        → fields_with a b c d e f g h i x ≡ fields_with a' b' c' d' e' f' g' h' i' x'
    fields_of_lem p1 p2 p3 p4 p5 p6 p7 p8 p9 p10 = rw (p1, p2, p3, p4, p5, p6, p7, p8, p9, p10)

-- a number compares as the same as itself
pub same_itself : (n : ℕ) → eqb n n ≡ true
same_itself n = eq-eqb n n refl

-- and so do fields
same_self : (f : Fields) → same_fields f f ≡ true
same_self f = simp same_itself

-- ---- bytes

-- bytes that compare as 0, each of them, are as many zeros
zeros_are : (l : List ℕ) → zeros l ≡ true → l ≡ replicate (length l) 0
zeros_are [] h = refl
zeros_are (x ∷ l) h =
    let k = and_both (eqb x 0) (zeros l) h in
    let e = eqb-true x 0 k.0 in
    rw (e, ← zeros_are l k.1)

module _ (b : List ℕ) (h : length b ≡ 32) where
  -- the bytes from index i on, of which those after it are l
  one : (i : ℕ) {l : List ℕ} → i < 32 → drop (suc i) b ≡ l → drop i b ≡ get_or b i 0 ∷ l
  one i k e = drop-cons b i 0 (omega arith) ∙ ap (λ (t : List ℕ). get_or b i 0 ∷ t) e

  -- the bytes of the fields that a buffer holds are its own
  pub bytes_back_lem : Bytes b → zeros (drop 20 b) ≡ true → spelled (fields_in b) ≡ b
  bytes_back_lem k z =
      by (bytes_of 3 (three_at b 9)) (bytes_of 3 (three_at b 12)) (bytes_of 3 (three_at b 16)) (three_make _ _ _ (k 9) (k 10) (k 11))
      (three_make _ _ _ (k 12) (k 13) (k 14)) (three_make _ _ _ (k 16) (k 17) (k 18))
    where
      n : length (drop 20 b) ≡ 12
      n = simp length-drop (omega arith)

      e : drop 20 b ≡ replicate 12 0
      e = zeros_are (drop 20 b) z ∙ rw n

      by : (u v w : List ℕ) → u ≡ get_or b 9 0 ∷ get_or b 10 0 ∷ get_or b 11 0 ∷ [] → v ≡ get_or b 12 0 ∷ get_or b 13 0 ∷ get_or b 14 0 ∷ []
          → w ≡ get_or b 16 0 ∷ get_or b 17 0 ∷ get_or b 18 0 ∷ []
          → head_bytes (fields_in b) ++ ((get_or b 8 0 ∷ (u ++ (v ++ (get_or b 15 0 ∷ [])))) ++ ((w ++ (get_or b 19 0 ∷ replicate 4 0)) ++ replicate 8 0)) ≡ b
      by u v w p q r = rw (p, q, r) (sym (one 0 (omega arith) (one 1 (omega arith) (one 2 (omega arith) (one 3 (omega arith) (one 4 (omega arith) (one 5 (omega arith) (one 6 (omega arith) (one 7 (omega arith) (one 8 (omega arith) (one 9 (omega arith) (one 10 (omega arith) (one 11 (omega arith) (one 12 (omega arith) (one 13 (omega arith) (one 14 (omega arith) (one 15 (omega arith) (one 16 (omega arith) (one 17 (omega arith) (one 18 (omega arith) (one 19 (omega arith) e)))))))))))))))))))))

-- ---- images and states

-- the image of a state that passes reads as that state
pub decode_encode : (s : Model) → in_range s ≡ true → state_of (image_of s) ≡ s
decode_encode s h = ap state_in (fields_back (fields_of s) (small_fields s h)) ∙ state_back s

-- it is taken
pub image_taken : (s : Model) → in_range s ≡ true → taken (image_of s) ≡ true
unfolding taken
image_taken s h = by (fields_in (image_of s)) (state_of (image_of s)) (fields_back (fields_of s) (small_fields s h)) (decode_encode s h)
  where
    by : (f : Fields) (t : Model) → f ≡ fields_of s → t ≡ s → (same_fields (fields_of t) f && in_range t) ≡ true
    by f t e k = rw (e, k, same_self (fields_of s)) h

-- what is taken has 32 bytes, the fields of the state that they read as, and that state passes
pub taken_fields : (b : List ℕ) → taken b ≡ true → fields_of (state_of b) ≡ fields_in b
unfolding taken
taken_fields b h =
    let h1 = and_both (eqb (length b) 32) _ h in
    let h2 = and_both (zeros (drop 20 b)) _ h1.1 in
    let h3 = and_both (same_fields (fields_of (state_of b)) (fields_in b)) _ h2.1 in
    same_is (fields_of (state_of b)) (fields_in b) h3.0

pub taken_passes : (b : List ℕ) → taken b ≡ true → in_range (state_of b) ≡ true
unfolding taken
taken_passes b h =
    let h1 = and_both (eqb (length b) 32) _ h in
    let h2 = and_both (zeros (drop 20 b)) _ h1.1 in
    (and_both (same_fields (fields_of (state_of b)) (fields_in b)) _ h2.1).1

pub taken_long : (b : List ℕ) → taken b ≡ true → length b ≡ 32
unfolding taken
taken_long b h = eqb-true (length b) 32 (and_both (eqb (length b) 32) _ h).0

-- it is of one of the five parts
pub known_part : (b : List ℕ) → taken b ≡ true → get_or b 0 0 < 5
known_part b h = (inside (state_of b) (taken_passes b h)).known

-- a buffer of bytes that is taken is the image of the state that it reads as, which passes
pub encode_decode : (b : List ℕ) → Bytes b → taken b ≡ true → image_of (state_of b) ≡ b
unfolding taken
encode_decode b k h =
    let h1 = and_both (eqb (length b) 32) _ h in
    ap spelled (taken_fields b h) ∙ bytes_back_lem b (taken_long b h) k (and_both (zeros (drop 20 b)) _ h1.1).0

-- it is taken exactly if it is the image of a state that passes, and of no other
pub taken_is_image : (b : List ℕ) → Bytes b → taken b ≡ true → ImageOf b
taken_is_image b k h =
    record {
      state = state_of b;
      passes = taken_passes b h;
      image = encode_decode b k h;
      only = λ s p e. sym (decode_encode s p) ∙ ap state_of e;
    }

pub image_is_taken : (b : List ℕ) → ImageOf b → taken b ≡ true
image_is_taken b i = rw (← i.image) (image_taken i.state i.passes)

-- two states that pass and have one image are one
pub one_state : (s t : Model) → in_range s ≡ true → in_range t ≡ true → image_of s ≡ image_of t → s ≡ t
one_state s t h k e = sym (decode_encode s h) ∙ ap state_of e ∙ decode_encode t k
