-- All bits but the last make the same whole bytes from the first bit of a byte to its eighth, and none up to the first eighth: bits
-- between the same two multiples of eight make as many bytes, and a longer list begins with those of a shorter one. So on a part that
-- stores late an open WRITE stores the same from the first bit of a data byte to its eighth. Assumes nothing.
use Prim.Native.Nat.{ℕ, ◌+◌, ◌*◌, ◌%◌, ◌<◌, ◌≤◌}
use mathlib.Core.Path.{◌≡◌, refl, sym, ap, ◌∙◌}
use mathlib.Core.Bool.{Bool, true, cond}
use mathlib.Core.List.{List, [], ◌∷◌, ◌++◌, map, append-nil, append_assoc}
use native.Mathlib.Omega.{arith}
use lib.ListN.{length, length-append}
use Rattle.parts.specs.declared.part.Part.{Part}
use Rattle.selection.specs.declared.opcode.Command.TheVariants.{WRITE}
use Rattle.ledger.specs.Bits.{number, FieldBits, whole, field, eight_bits, bytes}
use Rattle.ledger.specs.Groups.{Group, groups}
use Rattle.ledger.specs.Stores.{Store}
use Rattle.ledger.specs.SpiLedger.{unended, command, reading, after_address, address_in, all_but_last, SavedBits, placed, stores}
use Rattle.ledger.proofs.GroupLaws.{longer, counted_from}
use Rattle.ledger.proofs.SpiOutputs.{field_of, reading_more}

-- how many bytes bits make
whole_count : (bs : List Bool) (n : ℕ) → 8 * n ≤ length bs → length bs < 8 * n + 8 → length (groups 7 bs).whole ≡ n
whole_count bs n least most = let c = counted_from 7 bs [] 7 refl in omega (arith, c.all, c.fewer)

-- bits that do not reach the next eighth one add no byte
no_more : (bs ds : List Bool) (n : ℕ) → 8 * n ≤ length bs → length (bs ++ ds) < 8 * n + 8 → bytes (bs ++ ds) ≡ bytes bs
no_more bs ds n least most = let more = longer 7 bs ds in by more.0 more.1
  where
    both : length (bs ++ ds) ≡ length bs + length ds
    both = length-append bs ds

    by : (gs : List (Group Bool)) → (groups 7 (bs ++ ds)).whole ≡ (groups 7 bs).whole ++ gs → bytes (bs ++ ds) ≡ bytes bs
    by [] q = ap (map eight_bits) (q ∙ append-nil (groups 7 bs).whole)
    by (g ∷ gs) q =
        let k = whole_count bs n least (omega (arith, both)) in
        let k' = whole_count (bs ++ ds) n (omega (arith, both)) most in
        absurd (omega (arith, k, k', ap length q, length-append (groups 7 bs).whole (g ∷ gs)))

-- ---- all but the last

front_length : (b : Bool) (bs : List Bool) → length (all_but_last (b ∷ bs)) ≡ length bs
front_length b [] = refl
front_length b (c ∷ bs) = omega (arith, front_length c bs)

front_longer : (b : Bool) (bs ds : List Bool) → (es : List Bool) × all_but_last (b ∷ (bs ++ ds)) ≡ all_but_last (b ∷ bs) ++ es
front_longer b [] ds = (all_but_last (b ∷ ds), refl)
front_longer b (c ∷ bs) ds = let more = front_longer c bs ds in (more.0, ap (λ (cs : List Bool). b ∷ cs) more.1)

-- after the first bit of a byte, bits up to its eighth add none
pub same_whole : (bs ds : List Bool) (n : ℕ) → 8 * n < length bs → length (bs ++ ds) ≤ 8 * n + 8
    → bytes (all_but_last (bs ++ ds)) ≡ bytes (all_but_last bs)
same_whole [] ds n least most = absurd (omega arith)
same_whole (b ∷ bs) ds n least most =
    let more = front_longer b bs ds in
    let short = front_length b bs in
    let long = ap length more.1 in
    ap bytes more.1 ∙ no_more (all_but_last (b ∷ bs)) more.0 n (omega (arith, short)) (omega (arith, long, front_length b (bs ++ ds)))

-- up to the first eighth there is none
pub none_whole : (bs : List Bool) → length bs ≤ 8 → bytes (all_but_last bs) ≡ []
none_whole [] most = refl
none_whole (b ∷ bs) most = no_more [] (all_but_last (b ∷ bs)) 0 (omega arith) (omega (arith, front_length b bs))

-- ---- an open WRITE on a part that stores late

module _ (p : Part) (b : SavedBits) (late : p.late ≡ true) (address : List Bool) (w : length address ≡ p.width) where
  abbrev placed_from : FieldBits → Bool → List Store
  placed_from f t = placed p b (address_in p f) (bytes (cond t (all_but_last (after_address f)) (after_address f)))

  open_stores : (more : List Bool) → stores p b unended (command WRITE (address ++ more)) ≡ placed p b (number address % p.size) (bytes (all_but_last more))
  open_stores more =
      let f : field p.width (address ++ more) ≡ whole address more = rw (← w) (field_of address more) in
      ap (λ (x : FieldBits). placed_from x p.late) f ∙ ap (placed_from (whole address more)) late

  -- from the first bit of data byte number n, counted from 0, to its eighth
  pub open_same : (bs ds bits : List Bool) (n : ℕ) → reading p bs ≡ command WRITE (address ++ bits) → 8 * n < length bits → length (bits ++ ds) ≤ 8 * n + 8
      → stores p b unended (reading p (bs ++ ds)) ≡ stores p b unended (reading p bs)
  open_same bs ds bits n q least most =
      let r : reading p (bs ++ ds) ≡ command WRITE (address ++ (bits ++ ds)) =
      reading_more p bs WRITE (address ++ bits) ds q ∙ ap (command WRITE) (append_assoc address bits ds) in
      ap (stores p b unended) r
      ∙ open_stores (bits ++ ds)
      ∙ ap (λ (vs : List ℕ). placed p b (number address % p.size) vs) (same_whole bits ds n least most)
      ∙ sym (ap (stores p b unended) q ∙ open_stores bits)
