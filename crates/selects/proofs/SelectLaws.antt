-- What the code makes of a selection, head and rest by their number, is what the definition on the pins gives. From the fold of byte
-- steps, from the head and from the rest. Assumes nothing.
use Prim.Native.Nat.{ℕ, suc, ◌+◌, ◌-◌, ◌/◌, ◌%◌, ◌<◌, ◌≤◌}
use mathlib.Core.Path.{◌≡◌, refl, sym, ap, ap₂, ◌∙◌, subst}
use mathlib.Core.Bool.{Bool, true, false, cond, false≢true}
use mathlib.Core.List.{List, [], ◌∷◌, ◌++◌, append-nil}
use native.Mathlib.Omega.{arith}
use lib.Dec.{ltb, eqb}
use lib.ListN.{length, get_or, take, drop, replicate, length-drop, length-append, length-replicate}
use lib.Seq.{take_at, take_all}
use Rattle.std.proofs.lemmas.List.{drop_all}
use borrow.Rule.Slice.PartMut.{put_mid}
use borrow.Author.Tests.{lt-ltb, le-ltb, ltb-true, ltb-false, eq-eqb, ne_eqb}
use Rattle.parts.specs.declared.answer.Answer.TheVariants.{HighZ}
use Rattle.parts.specs.declared.part.Part.{Part}
use Rattle.parts.specs.declared.status.Status.{Status}
use Rattle.parts.specs.Table.{is_spi, part_of}
use Rattle.parts.proofs.Rows.{and_both, part_fits, bytewise, identity_bytes}
use Rattle.selection.specs.declared.phase.Field.TheVariants.{Opcode, ReadAddress, FastAddress, WriteAddress, Dummy, Data, StatusByte}
use Rattle.selection.specs.declared.phase.Phase.{Phase}
use Rattle.selection.specs.declared.phase.Phase.TheVariants.{Rest, Ignoring, Taking, Showing, Waiting, Pending}
use Rattle.selection.specs.declared.phase.Source.TheVariants.{Memory, Register, Identity}
use Rattle.selection.specs.Ranges.{PhaseIn}
use Rattle.serial.specs.Bits.{bit_at}
use Rattle.serial.specs.Write.{applied}
use Rattle.spi.specs.declared.sample.Spi.{Spi}
use Rattle.spi.specs.Sample.{selected}
use Rattle.spi.specs.Store.{end_write}
use Rattle.spi.proofs.Keeps.{selected_in}
use Rattle.spi_status.specs.Deselect.{status_after, asleep_after}
use Rattle.chip.specs.declared.model.BusState.TheVariants.{SpiOn}
use Rattle.chip.specs.declared.model.Model.{Model}
use Rattle.chip.specs.Check.{Sound}
use Rattle.chip.specs.Model.{model_of}
use Rattle.chip.proofs.CheckLaws.{SoundIn, sound_in}
use Rattle.byte_path.specs.declared.head.Head.{Head}
use Rattle.byte_path.specs.PinPath.{Back, last_si, bytes_of, first_driven, driven_count, Selection, selection_of}
use Rattle.byte_path.specs.ByBytes.{AtBorder, undriven, phase_after_bytes, back_after_bytes, end_levels, by_bytes}
use Rattle.byte_path.specs.Head.{is_head, head_from, Bordered}
use Rattle.byte_rest.specs.Rest.{rest_back, rest_memory, phase_end}
use Rattle.byte_path.proofs.ByteLaws.{AllBytes}
use Rattle.byte_path.proofs.ByBytes.{EachByte, first_border, by_bytes_lem}
use Rattle.byte_rest.proofs.RestLaws.{memory_ended, waits, Ends, over_back, over_memory, over_ends, headed}
use Rattle.byte_rest.proofs.BackLaws.{quiet_bytes, quiet_first, quiet_count, all_quiet, memory_leading, register_leading, identity_leading}

-- a slice of bytes, byte by byte
pub each_byte : (vs : List ℕ) → AllBytes vs → EachByte vs
each_byte [] h = tt
each_byte (v ∷ vs) h = (h 0, each_byte vs (λ i. h (suc i)))

-- ---- the last bit

over_one : (v : ℕ) → v / 1 ≡ v
over_one v = omega arith

pub last_bit_lem : (si : Bool) (vs : List ℕ) → 0 < length vs → last_si si vs ≡ eqb (get_or vs (length vs - 1) 0 % 2) 1
last_bit_lem si [] l = absurd (omega arith)
last_bit_lem si (v ∷ []) l = ap (λ (k : ℕ). eqb (k % 2) 1) (over_one v)
last_bit_lem si (v ∷ w ∷ vs) l = last_bit_lem (bit_at v 7) (w ∷ vs) (omega arith) ∙ ap (λ (k : ℕ). eqb (get_or (v ∷ w ∷ vs) k 0 % 2) 1) same
  where
    same : suc (suc (length vs) - 1) ≡ suc (suc (length vs)) - 1
    same = omega arith

pub no_bit : (vs : List ℕ) → length vs ≡ 0 → false ≡ last_si false vs
no_bit [] l = refl
no_bit (v ∷ vs) l = absurd (omega arith)

-- what lies from n on, as a slice of it
pub from_on : (vs : List ℕ) (n : ℕ) → take (length vs - n) (drop n vs) ≡ drop n vs
from_on vs n = take_all (length vs - n) (drop n vs) (omega (arith, length-drop n vs))

-- the first of count bytes that are driven
pub first_none : (count k whole at x : ℕ) → count ≡ k → count ≡ 0 → cond (eqb k 0) whole at ≡ x → whole ≡ x
first_none count k whole at x e z h = rw (eq-eqb k 0 (omega arith)) at h

pub first_some : (count k whole at x : ℕ) → count ≡ k → 0 < count → cond (eqb k 0) whole at ≡ x → at ≡ x
first_some count k whole at x e z h = rw (ne_eqb k 0 (λ q. omega arith)) at h

-- ---- a buffer whose first n bytes are 255

module _ (out : List ℕ) (n : ℕ) (l : n ≤ length out) where
  pub filled_take : take n (replicate n 255 ++ drop n out) ≡ replicate n 255
  filled_take = take_at (replicate n 255) (drop n out) n (length-replicate n 255)

  pub filled_length : length (replicate n 255 ++ drop n out) ≡ length out
  filled_length = length-append (replicate n 255) (drop n out) ∙ rw (length-replicate {A = ℕ} n 255, length-drop n out) (omega (arith, l))

  -- how many follow them
  pub rest_long : (input : List ℕ) → length out ≡ length input
      → length (take (length (replicate n 255 ++ drop n out) - n) (drop n (replicate n 255 ++ drop n out))) ≡ length input - n
  rest_long input e =
      let filled = replicate n 255 ++ drop n out in
      rw (from_on filled n) (omega (arith, length-drop n filled, filled_length, e))

  -- others put in their place
  pub rest_put : (back : List ℕ) → put_mid n (length (replicate n 255 ++ drop n out) - n) (replicate n 255 ++ drop n out) back ≡ replicate n 255 ++ back
  rest_put back =
      let filled = replicate n 255 ++ drop n out in
      let none : drop (length filled - n) (drop n filled) ≡ [] = drop_all (length filled - n) (drop n filled) (omega (arith, length-drop n filled)) in
      rw (filled_take, none, append-nil)

-- ---- the rest, whether the head was whole or not

module _ (p : Part) (st : Status) where
  none_memory : (ph : Phase) (m : List ℕ) → waits ph ≡ false → memory_ended p st ph m [] ≡ rest_memory p st m ph []
  none_memory Rest m u = refl
  none_memory Ignoring m u = refl
  none_memory (Taking Opcode n v) m u = refl
  none_memory (Taking ReadAddress n v) m u = refl
  none_memory (Taking FastAddress n v) m u = refl
  none_memory (Taking WriteAddress n v) m u = refl
  none_memory (Taking (Dummy a) n v) m u = refl
  none_memory (Taking (Data a y) n v) m u = by st.wel
    where
      by : (t : Bool) → m ≡ cond t m m
      by true = refl
      by false = refl
  none_memory (Taking StatusByte n v) m u = refl
  none_memory (Showing s k) m u = refl
  none_memory (Waiting a) m u = refl
  none_memory (Pending v a) m u = absurd (false≢true (sym u))

  none_back : (ph : Phase) (m : List ℕ) → [] ≡ rest_back p st m ph 0
  none_back Rest m = refl
  none_back Ignoring m = refl
  none_back (Taking f n v) m = refl
  none_back (Showing s k) m = refl
  none_back (Waiting a) m = refl
  none_back (Pending v a) m = refl

  none_end : (ph : Phase) → ph ≡ phase_end ph false
  none_end Rest = refl
  none_end Ignoring = refl
  none_end (Taking Opcode n v) = refl
  none_end (Taking ReadAddress n v) = refl
  none_end (Taking FastAddress n v) = refl
  none_end (Taking WriteAddress n v) = refl
  none_end (Taking (Dummy a) n v) = refl
  none_end (Taking (Data a y) n v) = refl
  none_end (Taking StatusByte n v) = refl
  none_end (Showing s k) = refl
  none_end (Waiting a) = refl
  none_end (Pending v a) = refl

  -- by the number of bytes
  pub record Rests (wp z : Bool) (ph : Phase) (m vs : List ℕ) : Type 0 where
    pub back : back_after_bytes p st ph m vs ≡ rest_back p st m ph (length vs)
    pub memory : memory_ended p st ph m vs ≡ rest_memory p st m ph vs
    pub ends : Ends p st wp z (phase_after_bytes p st ph vs) (phase_end ph (ltb 0 (length vs)))

  rests : (wp z : Bool) (ph : Phase) (m vs : List ℕ) → AtBorder p ph → (0 < length vs → is_head ph ≡ false) → waits ph ≡ false → length m ≡ p.size → Rests wp z ph m vs
  rests wp z ph m [] b o u l =
      record { back = none_back ph m; memory = none_memory ph m u; ends = record { status = ap (status_after st wp) (none_end ph); asleep = ap (asleep_after z) (none_end ph) } }
  rests wp z ph m (v ∷ vs) b o u l =
      let n = o (omega arith) in
      record { back = over_back p st ph (v ∷ vs) m b n; memory = over_memory p st ph (v ∷ vs) m b n u l; ends = over_ends p st wp z ph (v ∷ vs) b n }

  -- the driven bytes of the rest come first
  rest_leading : (m : List ℕ) (ph : Phase) (n : ℕ) → PhaseIn p ph
      → first_driven (rest_back p st m ph n) ≡ cond (eqb (driven_count (rest_back p st m ph n)) 0) n 0
  rest_leading m Rest n h = let l = all_quiet n in rw l.count l.first
  rest_leading m Ignoring n h = let l = all_quiet n in rw l.count l.first
  rest_leading m (Taking f k v) n h = let l = all_quiet n in rw l.count l.first
  rest_leading m (Showing (Memory a) k) n h = let l = memory_leading p st m n a in rw l.count l.first
  rest_leading m (Showing Register k) n h = let l = register_leading p st m n in rw l.count l.first
  rest_leading m (Showing (Identity i) k) n h = let l = identity_leading p st m n i h.source in rw l.count l.first
  rest_leading m (Waiting a) n h = let l = all_quiet n in rw l.count l.first
  rest_leading m (Pending v a) n h = let l = all_quiet n in rw l.count l.first

-- ---- the whole

-- the driven bytes after n others
after_quiet : (n k c : ℕ) → n + cond (eqb c 0) k 0 ≡ cond (eqb c 0) (n + k) n
after_quiet n k c = by (eqb c 0)
  where
    by : (t : Bool) → n + cond t k 0 ≡ cond t (n + k) n
    by true = refl
    by false = omega arith

-- a byte is left exactly if the head is shorter
left_test : (n k : ℕ) → n ≤ k → ltb 0 (k - n) ≡ ltb n k
left_test n k l = by (ltb n k) refl
  where
    by : (t : Bool) → ltb n k ≡ t → ltb 0 (k - n) ≡ t
    by true e = lt-ltb 0 (k - n) (omega (arith, ltb-true n k e))
    by false e = le-ltb 0 (k - n) (omega (arith, ltb-false n k e))

-- no data byte waits when CS# has fallen
first_settled : (z : Bool) → waits (selected z) ≡ false
first_settled true = refl
first_settled false = refl

module _ (part pins : ℕ) (st : Status) (x : Spi) (m input : List ℕ) (wp : Bool) where
  abbrev row : Part
  row = part_of part

  abbrev head : Head
  head = head_from row (selected x.asleep) input

  -- what comes back after the head
  abbrev pub backs : List Back
  backs = rest_back row st m head.phase (length input - head.at)

  abbrev pub end_of : Phase
  end_of = phase_end head.phase (ltb head.at (length input))

  pub record Selects (t : Selection) : Type 0 where
    pub model : model_of part pins (status_after st wp end_of)
        (SpiOn (record { last = end_levels (last_si false input) wp; asleep = asleep_after x.asleep end_of; shown = HighZ; phase = Rest }))
        ≡ t.model
    pub memory : rest_memory row st m head.phase (drop head.at input) ≡ t.memory
    pub output : replicate head.at 255 ++ bytes_of backs ≡ bytes_of t.back
    pub first : cond (eqb (driven_count backs) 0) (length input) head.at ≡ first_driven t.back
    pub count : driven_count backs ≡ driven_count t.back

  pub selects : Bordered row (selected x.asleep) → length m ≡ row.size → EachByte input → Selects (by_bytes wp (model_of part pins st (SpiOn x)) x m input)
  selects b l each =
      let h = headed row st input (selected x.asleep) m each b in
      let vs = drop head.at input in
      let n : length vs ≡ length input - head.at = length-drop head.at input in
      let r = rests row st wp x.asleep head.phase m vs h.bordered.border (λ k. h.over (omega (arith, n))) (h.settled (first_settled x.asleep)) l in
      let sum : head.at + (length input - head.at) ≡ length input = omega (arith, h.within) in
      let some : ltb 0 (length vs) ≡ ltb head.at (length input) = ap (ltb 0) n ∙ left_test head.at (length input) h.within in
      let whole : back_after_bytes row st (selected x.asleep) m input ≡ replicate head.at undriven ++ backs =
      h.back ∙ ap (λ (k : List Back). replicate head.at undriven ++ k) (r.back ∙ ap (rest_back row st m head.phase) n) in
      let s : status_after st wp end_of ≡ status_after st wp (phase_after_bytes row st (selected x.asleep) input) =
      sym (ap (status_after st wp) h.phase ∙ r.ends.status ∙ ap (λ (t : Bool). status_after st wp (phase_end head.phase t)) some) in
      let z : asleep_after x.asleep end_of ≡ asleep_after x.asleep (phase_after_bytes row st (selected x.asleep) input) =
      sym (ap (asleep_after x.asleep) h.phase ∙ r.ends.asleep ∙ ap (λ (t : Bool). asleep_after x.asleep (phase_end head.phase t)) some) in
      record {
        model = rw (s, z);
        memory = sym (ap₂ (λ (e : Phase) (k : List ℕ). applied (end_write row st e) k) h.phase h.memory ∙ r.memory);
        output = sym (ap bytes_of whole ∙ quiet_bytes head.at backs);
        first = sym (ap first_driven whole ∙ quiet_first head.at backs ∙ rw (rest_leading row st m head.phase (length input - head.at) h.bordered.inside)
            (after_quiet head.at (length input - head.at) (driven_count backs) ∙ ap (λ (k : ℕ). cond (eqb (driven_count backs) 0) k head.at) sum));
        count = sym (ap driven_count whole ∙ quiet_count head.at backs);
      }

-- ---- a state that passed the tests, with CS# at 1

module _ (s : Model) (x : Spi) (m input : List ℕ) (wp : Bool) (bus : s.bus ≡ SpiOn x) (sound : Sound s m) where
  abbrev in_range_lem : SoundIn s m
  in_range_lem = sound_in s m sound

  spi_part : is_spi (part_of s.part).bus ≡ true
  spi_part = (and_both _ _ (rw bus at in_range_lem.bus)).0

  pub first_bordered : Bordered (part_of s.part) (selected x.asleep)
  first_bordered =
      let f = part_fits s.part in_range_lem.model.known in
      record {
        fit = f;
        bytewise = bytewise s.part in_range_lem.model.known spi_part;
        border = first_border (part_of s.part) x.asleep;
        inside = selected_in (part_of s.part) f x.asleep;
      }

  -- where the head ends, and its phase
  pub record Begun : Type 0 where
    pub within : (head_from (part_of s.part) (selected x.asleep) input).at ≤ length input
    pub inside : PhaseIn (part_of s.part) (head_from (part_of s.part) (selected x.asleep) input).phase

  pub begun : AllBytes input → Begun
  begun bytes =
      let h = headed (part_of s.part) s.status input (selected x.asleep) m (each_byte input bytes) first_bordered in
      record { within = h.within; inside = h.bordered.inside }

  pub taken : x.last.cs ≡ true → AllBytes m → AllBytes input → Selects s.part s.pins s.status x m input wp (selection_of wp s m input)
  taken up fits bytes =
      let q : s ≡ model_of s.part s.pins s.status (SpiOn x) = ap (model_of s.part s.pins s.status) bus in
      let b = first_bordered in
      let e = by_bytes_lem s.part s.pins s.status x m wp b.fit.wide b.bytewise (identity_bytes s.part in_range_lem.model.known) up fits input (each_byte input bytes) in
      subst (λ (k : Model). Selects s.part s.pins s.status x m input wp (selection_of wp k m input)) (sym q)
      (subst (Selects s.part s.pins s.status x m input wp) (sym e)
      (selects s.part s.pins s.status x m input wp b in_range_lem.sized (each_byte input bytes)))
