-- Consecutive samples and expected answers are events of a run: a run is these, and then the run of what is left. By induction on
-- the quota. Assumes nothing.
use Prim.Native.Nat.{ℕ, zero, suc, ◌+◌, ◌-◌, ◌<◌, ◌≤◌}
use mathlib.Core.Path.{◌≡◌, refl, sym, ap, ◌∙◌}
use mathlib.Core.Bool.{Bool, true, false}
use mathlib.Core.List.{List, ◌++◌}
use native.Mathlib.Nat.{zero-add, add_assoc, sub-zero}
use native.Mathlib.Omega.{arith}
use lib.ListN.{length, drop, length-drop}
use lib.Seq.{drop-drop, sets}
use Rattle.parts.specs.declared.part.Part.{Part}
use Rattle.parts.specs.Table.{part_of}
use Rattle.trace.specs.Read.{read_of, Read, Whole, Refused}
use Rattle.trace.specs.Sample.{first_event}
use Rattle.trace.proofs.ReadLaws.{taken_within}
use Rattle.chip.specs.declared.model.Model.{Model}
use Rattle.chip.specs.Check.{Sound}
use Rattle.events.specs.Flag.{first_flag}
use Rattle.events.proofs.FlagLaws.{first_later, first_behind, first_joined}
use Rattle.events.proofs.Stays.{stays}
use Rattle.samples.specs.declared.progress.Progress.{Progress}
use Rattle.steps.specs.Other.{ReadOtherThanSample}
use Rattle.samples.specs.Samples.{Samples, none, one, stays_on, first_done, samples_of, progress_by}
use Rattle.samples.proofs.NextLaws.{next_read, next_other, next_accepted}
use Rattle.samples.proofs.SamplesLaws.{none_left, samples_zero, samples_none, samples_one}
use Rattle.runs.specs.Run.{Run, after, loop_of}
use Rattle.runs.proofs.EventLaws.{event_whole, event_taken, event_keeps}
use Rattle.runs.proofs.RunLaws.{Final, final, loop_accepted}
use Rattle.runs.proofs.SetsLaws.{sets_append}

-- consecutive samples and expected answers of a trace of n bytes, then a run: counts and offsets added, answers put together, the first
-- flag
abbrev pub before : ℕ → Samples → Run → Run
before n r u =
    record {
      number = u.number;
      model = u.model;
      count = r.count + u.count;
      offset = r.offset + u.offset;
      flag = first_flag n r.flag (r.offset + u.flag);
      memory = u.memory;
      answers = r.answers ++ u.answers;
    }

-- what the samples r at the front of q events leave
abbrev pub rest : ℕ → List ℕ → Samples → Run
rest q t r = loop_of (q - r.count) (drop r.offset t) r.model r.memory

-- all that is to be known of the samples r at the front of a run
pub record Front (q : ℕ) (t : List ℕ) (s : Model) (m : List ℕ) (r : Samples) : Type 0 where
  pub run : loop_of q t s m ≡ before (length t) r (rest q t r)
  pub sound : Sound r.model r.memory
  pub part : r.model.part ≡ s.part
  pub quota : r.count ≤ q
  pub within : r.offset ≤ length t
  pub counted : length r.answers ≡ r.count
  pub over : r.count < q → stays_on r.model.bus (drop r.offset t) ≡ false

front_none : (q : ℕ) (t : List ℕ) (s : Model) (m : List ℕ) → Sound s m → (0 < q → stays_on s.bus t ≡ false) → Front q t s m (none t s m)
front_none q t s m h n =
    record {
      run = rw (sub-zero q, zero-add (loop_of q t s m).count, zero-add (loop_of q t s m).offset, zero-add (loop_of q t s m).flag, first_later (length t) (loop_of q t s m).flag);
      sound = h;
      part = refl;
      quota = omega arith;
      within = omega arith;
      counted = refl;
      over = n;
    }

before_one : (n k : ℕ) → n ≡ 2 + k → (a : ℕ) (f : Bool) (r : Samples) (u : Run) → after a f 2 (before k r u) ≡ before n (one a f r) u
before_one n k e a f r u =
    rw (add_assoc 1 r.count u.count, add_assoc 2 r.offset u.offset, add_assoc 2 r.offset u.flag, first_behind n k 2 e r.flag (r.offset + u.flag) f (omega arith))

module _ (q : ℕ) (t : List ℕ) (s : Model) (m : List ℕ) (sound : Sound s m) (next : stays_on s.bus t ≡ true) where
  step : loop_of (suc q) t s m ≡ after (first_done s m t).result.answer (first_done s m t).result.flag 2 (loop_of q (drop 2 t) (first_done s m t).result.model (first_done s m t).memory)
  step =
      let h = next_read s m sound t next in
      let w = event_whole s m t sound (first_event t) 2 h in
      let k = event_taken s m t sound (first_event t) 2 h in
      let l = taken_within _ t _ 2 h in
      rw (w, k) at (loop_accepted t s m q (λ z. omega arith) (rw w (next_accepted s m sound t next)))

  pub first_sound : Sound (first_done s m t).result.model (first_done s m t).memory
  first_sound = event_keeps s m t sound (first_event t) 2 (next_read s m sound t next)

  front_one : (r : Samples) → Front q (drop 2 t) (first_done s m t).result.model (first_done s m t).memory r → Front (suc q) t s m (one (first_done s m t).result.answer (first_done s m t).result.flag r)
  front_one r f =
      let l = taken_within _ t _ 2 (next_read s m sound t next) in
      record {
        run = step ∙ rw (f.run, drop-drop, sub_suc) (before_one (length t) (length (drop 2 t)) (rw length-drop (omega arith)) (first_done s m t).result.answer (first_done s m t).result.flag r _);
        sound = f.sound;
        part = f.part ∙ (stays s m (first_event t)).part_stays;
        quota = omega (arith, f.quota);
        within = omega (arith, f.within, length-drop 2 t, l);
        counted = omega (arith, f.counted);
        over = λ z. rw drop-drop at (f.over (omega arith));
      }
    where
      sub_suc : suc q - (1 + r.count) ≡ q - r.count
      sub_suc = omega arith

pub front : (q : ℕ) (t : List ℕ) (s : Model) (m : List ℕ) → Sound s m → Front q t s m (samples_of q t s m)
front zero t s m h = rw (samples_zero t s m) (front_none zero t s m h (λ z. absurd (omega arith)))
front (suc q) t s m h = by (stays_on s.bus t) refl (front q (drop 2 t) (first_done s m t).result.model (first_done s m t).memory)
  where
    by : (y : Bool) → stays_on s.bus t ≡ y
        → (Sound (first_done s m t).result.model (first_done s m t).memory → Front q (drop 2 t) (first_done s m t).result.model (first_done s m t).memory (samples_of q (drop 2 t) (first_done s m t).result.model (first_done s m t).memory))
        → Front (suc q) t s m (samples_of (suc q) t s m)
    by true e ih = rw (samples_one t s m q e) (front_one q t s m h e _ (ih (first_sound q t s m h e)))
    by false e ih = rw (samples_none t s m (suc q) e) (front_none (suc q) t s m h (λ z. e))

-- ---- a run that has got so far takes the samples at hand

-- where it is then: what is left leads to the goal, and another event is next
pub record Here (p : Part) (t : List ℕ) (q : ℕ) (goal : Final) (c : ℕ) (r : Progress) (m buf : List ℕ) : Type 0 where
  pub sound : Sound r.model m
  pub part : p ≡ part_of r.model.part
  pub onward : c ≤ r.count
  pub quota : r.count ≤ q
  pub within : r.offset ≤ length t
  pub over : r.count < q → stays_on r.model.bus (drop r.offset t) ≡ false
  pub left : final (length t) r.flag r.count r.offset buf (loop_of (q - r.count) (drop r.offset t) r.model m) ≡ goal

module _ (p : Part) (t : List ℕ) (q f c o : ℕ) (s : Model) (m buf : List ℕ) (goal : Final) (sound : Sound s m) (part : p ≡ part_of s.part)
    (more : c < q) (inside : o ≤ length t) (left : final (length t) f c o buf (loop_of (q - c) (drop o t) s m) ≡ goal) where
  abbrev taken_samples : Samples
  taken_samples = samples_of (q - c) (drop o t) s m

  onward_left : final (length t) (first_flag (length t) f (o + taken_samples.flag)) (c + taken_samples.count) (o + taken_samples.offset) (sets buf c taken_samples.answers)
      (loop_of (q - (c + taken_samples.count)) (drop (o + taken_samples.offset) t) taken_samples.model taken_samples.memory) ≡ goal
  onward_left =
      let h = front (q - c) (drop o t) s m sound in
      let e : (q - c) - taken_samples.count ≡ q - (c + taken_samples.count) = omega arith in
      rw (h.run, drop-drop, e, sets_append, h.counted, first_joined (length t) (length (drop o t)) o (sym (none_left t o inside)), ← add_assoc, ← add_assoc, ← add_assoc) at left

  pub samples_here : (r : Progress) (w b : List ℕ) → r ≡ progress_by (length t) f c o taken_samples → w ≡ taken_samples.memory → b ≡ sets buf c taken_samples.answers
      → Here p t q goal c r w b
  samples_here r w b x y z =
      let h = front (q - c) (drop o t) s m sound in
      rw (x, y, z)
      (record {
        sound = h.sound;
        part = part ∙ ap part_of (sym h.part);
        onward = omega arith;
        quota = omega (arith, h.quota);
        within = omega (arith, h.within, length-drop o t);
        over = λ k. rw drop-drop at (h.over (omega arith));
        left = onward_left;
      })

-- an event there is no sample under power
pub here_other : (p : Part) (t : List ℕ) (q : ℕ) (goal : Final) (c : ℕ) (r : Progress) (m buf : List ℕ) → Here p t q goal c r m buf → r.count < q
    → ReadOtherThanSample (read_of p (drop r.offset t)) r.model.bus
here_other p t q goal c r m buf h more = by (read_of p (drop r.offset t)) refl
  where
    by : (x : Read) → read_of p (drop r.offset t) ≡ x → ReadOtherThanSample x r.model.bus
    by (Whole e n) k = next_other r.model m h.sound (drop r.offset t) e n (h.over more) (rw h.part at k)
    by (Refused f place) k = tt
