-- One event that is no sample under power, at the place that a run has come to: what is left after it leads to the same goal. By what
-- is read there. Assumes nothing.
use Prim.Native.Nat.{ℕ, ◌+◌, ◌-◌, ◌<◌, ◌≤◌}
use mathlib.Core.Path.{◌≡◌, refl, sym, ap, ◌∙◌}
use mathlib.Core.Bool.{Bool, true, false, cond}
use mathlib.Core.List.{List}
use mathlib.Core.Logic.{◌⊎◌, ⊎_elim}
use native.Mathlib.Omega.{arith}
use lib.Dec.{eqb}
use lib.ListN.{length, drop, set, length-drop}
use borrow.Author.Tests.{eqb-true, eqb-false}
use Rattle.parts.specs.declared.part.Part.{Part}
use Rattle.parts.specs.Table.{part_of}
use Rattle.parts.proofs.NumberLaws.{number_positive}
use Rattle.trace.specs.Read.{read_of, Read, Whole, Refused}
use Rattle.trace.proofs.ReadLaws.{taken_within, place_within}
use Rattle.chip.specs.Check.{Sound}
use Rattle.events.specs.Reply.{Reply}
use Rattle.events.specs.Event.{advance_of}
use Rattle.events.specs.Flag.{flag_at}
use Rattle.events.specs.OtherEvent.{OtherThanSample}
use Rattle.events.proofs.FlagLaws.{first_none}
use Rattle.events.proofs.OtherEventLaws.{other_keeps, other_clear}
use Rattle.samples.specs.declared.progress.Progress.{Progress}
use Rattle.steps.specs.Other.{Standing, other, other_of, other_noted}
use Rattle.runs.specs.Run.{ran, loop_of}
use Rattle.runs.proofs.RunLaws.{Final, final, final_of, left_over, left_used, left_unread, left_unmoved, left_moved, moved_sound, moved_part}
use Rattle.runs.proofs.SamplesRun.{Here, here_other}

-- the run with the event x and the answers b: refused, it is over; accepted, it goes on
pub record Went (p : Part) (t : List ℕ) (q : ℕ) (goal : Final) (f c : ℕ) (m : List ℕ) (x : Standing) (b : List ℕ) : Type 0 where
  pub sound : Sound x.model m
  pub part : p ≡ part_of x.model.part
  pub within : x.offset ≤ length t
  pub over : (x.number ≡ 0 → ⊥) → final_of (ran x.number x.model c x.offset f) m b ≡ goal
  pub left : x.number ≡ 0 → final (length t) f (c + 1) x.offset b (loop_of (q - (c + 1)) (drop x.offset t) x.model m) ≡ goal

module _ (p : Part) (t : List ℕ) (q : ℕ) (goal : Final) (c : ℕ) (s : Progress) (m buf : List ℕ) (h : Here p t q goal c s m buf) where
  -- no quota, or the end of the trace
  pub used : (q ≤ s.count) ⊎ (length t ≤ s.offset) → final_of (ran 0 s.model s.count s.offset s.flag) m buf ≡ goal
  used z =
      ⊎_elim
      (λ u. sym (left_used t q s.flag s.count s.offset s.model m buf h.within u) ∙ h.left)
      (λ u. sym (left_over t q s.flag s.count s.offset s.model m buf h.within u) ∙ h.left)
      z

  module _ (more : s.count < q) (inside : s.offset < length t) where
    went_by : (r : Read) → read_of p (drop s.offset t) ≡ r
        → Went p t q goal s.flag s.count m (other_of r s.model m s.offset) (other_noted r s.model m s.count buf)
    went_by (Refused r place) k =
        record {
          sound = h.sound;
          part = h.part;
          within = omega (arith, rw k at (place_within p (drop s.offset t)), length-drop s.offset t);
          over = λ z. sym (left_unread t q s.flag s.count s.offset s.model m buf h.within h.sound more inside r place (rw h.part at k)) ∙ h.left;
          left = λ z. absurd (number_positive r z);
        }
    went_by (Whole e n) k = by (eqb a.number 0) refl
      where
        a : Reply
        a = (advance_of s.model m e).result

        read : read_of (part_of s.model.part) (drop s.offset t) ≡ Whole e n
        read = rw h.part at k

        no_sample_lem : OtherThanSample s.model.bus e
        no_sample_lem = rw k at (here_other p t q goal c s m buf h more)

        -- it sets no flag
        unflagged : flag_at (length t) s.flag s.offset a.flag ≡ s.flag
        unflagged = rw (other_clear s.model m e no_sample_lem) (first_none (length t) s.flag)

        kept : m ≡ (advance_of s.model m e).memory
        kept = sym (other_keeps s.model m e no_sample_lem)

        by : (y : Bool) → eqb a.number 0 ≡ y
            → Went p t q goal s.flag s.count m (cond y (other 0 a.model (s.offset + n)) (other a.number s.model s.offset)) (cond y (set buf s.count a.answer) buf)
        by true z =
            record {
              sound = moved_sound t q s.flag s.count s.offset s.model m buf h.within h.sound more inside e n read a m refl kept;
              part = h.part ∙ ap part_of (sym (moved_part t q s.flag s.count s.offset s.model m buf h.within h.sound more inside e n read a m refl kept));
              within = omega (arith, taken_within _ _ _ _ read, length-drop s.offset t);
              over = λ w. absurd (w refl);
              left = λ w. rw unflagged at (sym (left_moved t q s.flag s.count s.offset s.model m buf h.within h.sound more inside e n read a m refl kept (eqb-true _ _ z)) ∙ h.left);
            }
        by false z =
            record {
              sound = h.sound;
              part = h.part;
              within = h.within;
              over = λ w. sym (left_unmoved t q s.flag s.count s.offset s.model m buf h.within h.sound more inside e n read a m refl kept w) ∙ h.left;
              left = λ w. absurd (eqb-false _ _ z w);
            }

    pub went : (x : Standing) (b : List ℕ) → x ≡ other_of (read_of p (drop s.offset t)) s.model m s.offset
        → b ≡ other_noted (read_of p (drop s.offset t)) s.model m s.count buf → Went p t q goal s.flag s.count m x b
    went x b ex eb = rw (ex, eb) (went_by (read_of p (drop s.offset t)) refl)
