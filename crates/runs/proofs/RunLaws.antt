-- The laws of a run, one event at a time: what holds of every run, and what is left of one after c events and o bytes. Assumes
-- nothing.
use Prim.Native.Nat.{ℕ, zero, suc, ◌+◌, ◌-◌, ◌<◌, ◌≤◌}
use mathlib.Core.Path.{◌≡◌, refl, sym, ap, ◌∙◌}
use mathlib.Core.Bool.{Bool, true, false}
use mathlib.Core.List.{List}
use native.Mathlib.Nat.{add-zero, add_assoc}
use native.Mathlib.Numerals.{add-one}
use native.Mathlib.Omega.{arith}
use lib.Dec.{eqb}
use lib.ListN.{length, take, drop, set, get_or, length-drop}
use lib.Seq.{drop-drop, sets}
use borrow.Author.Tests.{eq-eqb, ne_eqb, eqb-true, eqb-false}
use Rattle.parts.specs.declared.part.Part.{Part}
use Rattle.parts.specs.declared.refusal.Refusal.{Refusal}
use Rattle.parts.specs.Numbers.{refusal_number}
use Rattle.parts.specs.Table.{part_of}
use Rattle.parts.proofs.NumberLaws.{number_positive}
use Rattle.trace.specs.declared.event.Event.{Event}
use Rattle.trace.specs.Read.{event_length, read_of, place_of, Read, Whole, Refused}
use Rattle.events.specs.Reply.{Reply}
use Rattle.chip.specs.declared.model.Model.{Model}
use Rattle.events.specs.Event.{Outcome, advance_of}
use Rattle.chip.specs.Check.{Sound}
use Rattle.events.specs.Flag.{first_flag, flag_at}
use Rattle.events.proofs.FlagLaws.{first_none, first_step}
use Rattle.events.proofs.Stays.{stays}
use Rattle.samples.proofs.SamplesLaws.{tail_part, none_left}
use Rattle.runs.specs.Figures.{Figures}
use Rattle.runs.specs.Event.{event_of}
use Rattle.runs.specs.Run.{Run, ran, stop, stop_at, after, loop_of}
use Rattle.runs.proofs.EventLaws.{event_whole, event_refused, event_taken, event_keeps}

-- the bytes that an event at the front takes
abbrev pub taken : List ℕ → ℕ
taken t = event_length (get_or t 0 0)

-- where the reader points, if it refuses the event at the front
abbrev pub fault : Model → List ℕ → ℕ
fault s t = place_of (read_of (part_of s.part) t)

module _ (t : List ℕ) (s : Model) (m : List ℕ) where
  -- at the end of the trace
  pub loop_over : (q : ℕ) → length t ≡ 0 → loop_of q t s m ≡ stop 0 t s m
  unfolding loop_of
  loop_over zero h = refl
  loop_over (suc q) h = rw (eq-eqb _ _ h)

  -- at a refused event
  pub loop_refused : (q : ℕ) → (length t ≡ 0 → ⊥) → ((event_of s m t).result.number ≡ 0 → ⊥)
      → loop_of (suc q) t s m ≡ stop_at (event_of s m t).result.number (fault s t) t s m
  unfolding loop_of
  loop_refused q h n = rw (ne_eqb _ _ h, ne_eqb _ _ n)

  -- at an accepted one
  pub loop_accepted : (q : ℕ) → (length t ≡ 0 → ⊥) → (event_of s m t).result.number ≡ 0
      → loop_of (suc q) t s m
      ≡ after (event_of s m t).result.answer (event_of s m t).result.flag (taken t) (loop_of q (drop (taken t) t) (event_of s m t).result.model (event_of s m t).memory)
  unfolding loop_of
  loop_accepted q h n = rw (ne_eqb _ _ h, eq-eqb _ _ n)

-- ---- what holds of every run

-- a run of q events stops at once, with the number n, and points at a place: no quota, no byte, or a refused event
pub data Stops (t : List ℕ) (s : Model) (m : List ℕ) : ℕ → ℕ → ℕ → Type 0 where
  at_quota : Stops t s m 0 0 0
  at_end : {q : ℕ} → length t ≡ 0 → Stops t s m (suc q) 0 0
  at_refusal : {q : ℕ} → (length t ≡ 0 → ⊥) → ((event_of s m t).result.number ≡ 0 → ⊥) → Stops t s m (suc q) (event_of s m t).result.number (fault s t)

-- what holds of a run that stops, and of a run with one accepted event more if it holds of the rest
module _ (P : ℕ → List ℕ → Model → List ℕ → Run → Type 0)
    (stops : (q : ℕ) (t : List ℕ) (s : Model) (m : List ℕ) (n place : ℕ) → Stops t s m q n place → P q t s m (stop_at n place t s m))
    (goes_on : (q : ℕ) (t : List ℕ) (s : Model) (m : List ℕ) → (length t ≡ 0 → ⊥) → (event_of s m t).result.number ≡ 0 → (r : Run)
    → P q (drop (taken t) t) (event_of s m t).result.model (event_of s m t).memory r
    → P (suc q) t s m (after (event_of s m t).result.answer (event_of s m t).result.flag (taken t) r)) where
  pub loop_induction : (q : ℕ) (t : List ℕ) (s : Model) (m : List ℕ) → P q t s m (loop_of q t s m)
  unfolding loop_of
  loop_induction zero t s m = stops 0 t s m 0 0 at_quota
  loop_induction (suc q) t s m =
      by (eqb (length t) 0) (eqb (event_of s m t).result.number 0) refl refl
      (loop_induction q (drop (taken t) t) (event_of s m t).result.model (event_of s m t).memory)
    where
      next : Run
      next = loop_of q (drop (taken t) t) (event_of s m t).result.model (event_of s m t).memory

      by : (a b : Bool) → eqb (length t) 0 ≡ a → eqb (event_of s m t).result.number 0 ≡ b
          → P q (drop (taken t) t) (event_of s m t).result.model (event_of s m t).memory next → P (suc q) t s m (loop_of (suc q) t s m)
      by true b x y k = let z = eqb-true _ _ x in rw (loop_over t s m (suc q) z) (stops (suc q) t s m 0 0 (at_end z))
      by false true x y k =
          let some = eqb-false _ _ x in
          let none = eqb-true _ _ y in
          rw (loop_accepted t s m q some none) (goes_on q t s m some none next k)
      by false false x y k =
          let some = eqb-false _ _ x in
          let not-0 = eqb-false _ _ y in
          rw (loop_refused t s m q some not-0) (stops (suc q) t s m _ _ (at_refusal some not-0))

-- what is read there, of the part of the state
pub read_on : (p : Part) (s : Model) (t : List ℕ) (o : ℕ) {r : Read} → p ≡ part_of s.part → read_of p (take (length t - o) (drop o t)) ≡ r
    → read_of (part_of s.part) (drop o t) ≡ r
read_on p s t o e h = rw (tail_part t o, e) at h

-- ---- a run that has got so far

-- all that a run gives back
pub record Final : Type 0 where
  pub ended : Figures
  pub memory : List ℕ
  pub answers : List ℕ

abbrev pub final_of : Figures → List ℕ → List ℕ → Final
final_of r m buf = record { ended = r; memory = m; answers = buf }

-- the run r after c events and o bytes of a trace of n bytes, with the first flag so far at f and the answers so far in buf
abbrev pub final : ℕ → ℕ → ℕ → ℕ → List ℕ → Run → Final
final n f c o buf r =
    final_of (ran r.number r.model (c + r.count) (o + r.offset) (first_flag n f (o + r.flag))) r.memory (sets buf c r.answers)

-- what is left of q events at offset o of t
module _ (t : List ℕ) (q f c o : ℕ) (s : Model) (m buf : List ℕ) (within : o ≤ length t) where
  abbrev pub left : Run
  left = loop_of (q - c) (drop o t) s m

  stopped : (n place : ℕ) → left ≡ stop_at n place (drop o t) s m → final (length t) f c o buf left ≡ final_of (ran n s c (o + place) f) m buf
  stopped n place e = rw (e, add-zero c, none_left t o within, first_none (length t) f)

  stopped_here : (n : ℕ) → left ≡ stop n (drop o t) s m → final (length t) f c o buf left ≡ final_of (ran n s c o f) m buf
  stopped_here n e = rw (add-zero o) at (stopped n 0 e)

  pub left_used : q ≤ c → final (length t) f c o buf left ≡ final_of (ran 0 s c o f) m buf
  unfolding loop_of
  left_used h = let e : q - c ≡ 0 = omega arith in stopped_here 0 (rw e)

  pub left_over : length t ≤ o → final (length t) f c o buf left ≡ final_of (ran 0 s c o f) m buf
  left_over h = stopped_here 0 (loop_over (drop o t) s m (q - c) (rw length-drop (omega arith)))

  module _ (more : c < q) (inside : o < length t) where
    some : length (drop o t) ≡ 0 → ⊥
    some z = omega (arith, length-drop o t)

    one_more_lem : q - c ≡ suc (q - (c + 1))
    one_more_lem = omega arith

    pub left_refused : ((event_of s m (drop o t)).result.number ≡ 0 → ⊥)
        → final (length t) f c o buf left ≡ final_of (ran (event_of s m (drop o t)).result.number s c (o + fault s (drop o t)) f) m buf
    left_refused n = stopped _ _ (rw one_more_lem (loop_refused (drop o t) s m (q - (c + 1)) some n))

    pub left_accepted : (event_of s m (drop o t)).result.number ≡ 0
        → final (length t) f c o buf left
        ≡ final (length t) (flag_at (length t) f o (event_of s m (drop o t)).result.flag) (c + 1) (o + taken (drop o t)) (set buf c (event_of s m (drop o t)).result.answer)
        (loop_of (q - (c + 1)) (drop (o + taken (drop o t)) t) (event_of s m (drop o t)).result.model (event_of s m (drop o t)).memory)
    left_accepted n =
        rw (one_more_lem, loop_accepted (drop o t) s m (q - (c + 1)) some n, drop-drop, first_step (length t) f o (taken (drop o t)) _ _ inside, ← add_assoc, ← add_assoc, add-one c)

-- ---- the same by what the reader finds, on a state and a memory that passed

module _ (t : List ℕ) (q f c o : ℕ) (s : Model) (m buf : List ℕ) (within : o ≤ length t) (sound : Sound s m) (more : c < q) (inside : o < length t) where
  pub left_unread : (r : Refusal) (place : ℕ) → read_of (part_of s.part) (drop o t) ≡ Refused r place
      → final (length t) f c o buf (left t q f c o s m buf within) ≡ final_of (ran (refusal_number r) s c (o + place) f) m buf
  left_unread r place h =
      let e = event_refused s m (drop o t) sound r place h in
      let k : (event_of s m (drop o t)).result.number ≡ refusal_number r = ap (λ (x : Outcome). x.result.number) e in
      left_refused t q f c o s m buf within more inside (λ z. number_positive r (sym k ∙ z))
      ∙ rw h (ap (λ (n : ℕ). final_of (ran n s c (o + place) f) m buf) k)

  -- a whole event, with what carrying it out gave: a result r and a memory w
  module _ (e : Event) (n : ℕ) (h : read_of (part_of s.part) (drop o t) ≡ Whole e n)
      (r : Reply) (w : List ℕ) (result : r ≡ (advance_of s m e).result) (memory : w ≡ (advance_of s m e).memory) where
    pub left_unmoved : (r.number ≡ 0 → ⊥) → final (length t) f c o buf (left t q f c o s m buf within) ≡ final_of (ran r.number s c o f) w buf
    left_unmoved z =
        let x = rw (event_whole s m (drop o t) sound e n h, h, ← result, add-zero o) at (left_refused t q f c o s m buf within more inside) in
        let k = rw (← result) at (stays s m e).refused_memory in
        rw (memory, k z) (x z)

    pub left_moved : r.number ≡ 0
        → final (length t) f c o buf (left t q f c o s m buf within)
        ≡ final (length t) (flag_at (length t) f o r.flag) (c + 1) (o + n) (set buf c r.answer) (loop_of (q - (c + 1)) (drop (o + n) t) r.model w)
    left_moved z =
        let x = rw (event_whole s m (drop o t) sound e n h, event_taken s m (drop o t) sound e n h, ← result, ← memory) at
        (left_accepted t q f c o s m buf within more inside) in
        x z

    pub moved_sound : Sound r.model w
    moved_sound = rw (result, memory) (event_keeps s m (drop o t) sound e n h)

    pub moved_part : r.model.part ≡ s.part
    moved_part = rw result (stays s m e).part_stays

-- the parts of two equal ends
pub three : (a b : Final) → a ≡ b → (a.ended ≡ b.ended) × (a.memory ≡ b.memory) × (a.answers ≡ b.answers)
three a b e = (ap (λ (f : Final). f.ended) e, ap (λ (f : Final). f.memory) e, ap (λ (f : Final). f.answers) e)
