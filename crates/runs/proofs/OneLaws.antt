-- One event is a run of one, on a state and a memory that passed and bytes that are some. Assumes nothing.
use Prim.Native.Nat.{ℕ, ◌≤◌, ◌<◌}
use mathlib.Core.Path.{◌≡◌, refl, sym, ap, ◌∙◌}
use mathlib.Core.Bool.{Bool, true, false}
use mathlib.Core.List.{List, [], ◌∷◌}
use lib.Dec.{eqb}
use lib.ListN.{length, drop, get_or}
use lib.Seq.{sets}
use borrow.Author.Tests.{eq-eqb, ne_eqb, eqb-true, eqb-false}
use native.Mathlib.Omega.{arith}
use Rattle.parts.specs.declared.refusal.Refusal.{Refusal}
use Rattle.parts.specs.declared.refusal.Refusal.TheVariants.{Truncated}
use Rattle.parts.specs.Numbers as Numbers
use Rattle.parts.specs.Numbers.{refusal_number, answer_number}
use Rattle.parts.specs.Table.{part_of}
use Rattle.parts.proofs.NumberLaws.{number_positive, answer_numbered}
use Rattle.trace.specs.Read.{read_of, Read, Whole, Refused}
use Rattle.chip.specs.declared.model.Model.{Model}
use Rattle.chip.specs.Check.{Sound}
use Rattle.events.specs.Reply.{Reply}
use Rattle.events.specs.Event.{keeping, refused}
use Rattle.events.specs.Flag.{flag_from}
use Rattle.events.proofs.AnswerLaws.{answer_in}
use Rattle.samples.proofs.SamplesLaws.{none_left}
use Rattle.runs.specs.Figures.{Figures}
use Rattle.runs.specs.Event.{on_read, checked_event, event_of}
use Rattle.runs.specs.Run.{Run, ran_of, loop_of}
use Rattle.runs.proofs.EventLaws.{event_stays, accepted_within}
use Rattle.runs.proofs.RunLaws.{taken, loop_refused, loop_accepted}

-- what a run gives as an event, with its answers in a buffer of one byte that held 2
abbrev as_event : Run → Reply
as_event r = record { number = r.number; answer = get_or (sets (2 ∷ []) 0 r.answers) 0 0; flag = eqb r.flag 0; model = r.model }

module _ (s : Model) (m t : List ℕ) (sound : Sound s m) where
  -- without bytes
  pub nothing_read : length t ≡ 0 → checked_event s m t ≡ keeping m (refused Truncated s)
  unfolding read_of
  nothing_read h = rw (eq-eqb _ _ h)

  passed : event_of s m t ≡ checked_event s m t
  unfolding event_of
  passed = rw sound

  -- an accepted and a refused result, by their parts
  accepted_same : (r : Reply) → r.number ≡ 0 → ◌≡◌ {A = Reply} (record { number = 0; answer = r.answer; flag = r.flag; model = r.model }) r
  accepted_same r z = ap (λ (k : ℕ). record { number = k; answer = r.answer; flag = r.flag; model = r.model }) (sym z)

  refused_same : (r : Reply) → r.answer ≡ 2 → r.flag ≡ false → r.model ≡ s
      → ◌≡◌ {A = Reply} (record { number = r.number; answer = 2; flag = false; model = s }) r
  refused_same r a f k =
      ap (λ (x : ℕ). record { number = r.number; answer = x; flag = false; model = s }) (sym a)
      ∙ ap (λ (x : Bool). record { number = r.number; answer = r.answer; flag = x; model = s }) (sym f)
      ∙ ap (λ (x : Model). record { number = r.number; answer = r.answer; flag = r.flag; model = x }) (sym k)

  -- the first flag is at 0 if the event is flagged, else past the trace
  flag_here : (length t ≡ 0 → ⊥) → (n : ℕ) → n ≤ length t → (f : Bool) → eqb (flag_from f n (length (drop n t))) 0 ≡ f
  flag_here some n l true = refl
  flag_here some n l false = rw (none_left t n l, ne_eqb (length t) 0 some)

  one_event : (length t ≡ 0 → ⊥) → (as_event (loop_of 1 t s m) ≡ (event_of s m t).result) × ((loop_of 1 t s m).memory ≡ (event_of s m t).memory)
  unfolding loop_of
  one_event some = by (eqb (event_of s m t).result.number 0) refl
    where
      by : (y : Bool) → eqb (event_of s m t).result.number 0 ≡ y → (as_event (loop_of 1 t s m) ≡ (event_of s m t).result) × ((loop_of 1 t s m).memory ≡ (event_of s m t).memory)
      by true y = let z = eqb-true _ _ y in
          let f = flag_here some (taken t) (accepted_within s m t z) (event_of s m t).result.flag in
          rw (loop_accepted t s m 0 some z, f) (accepted_same (event_of s m t).result z, refl)
      by false y =
          let z = eqb-false _ _ y in
          let k = event_stays s m t in
          rw (loop_refused t s m 0 some z, ne_eqb (length t) 0 some)
          (refused_same (event_of s m t).result (k.refused_answer z) (k.refused_flag z) (k.refused_model z), sym (k.refused_memory z))

  -- what the call gave, as the event
  pub one : (length t ≡ 0 → ⊥) → (r : Figures) (w b : List ℕ) → r ≡ ran_of (loop_of 1 t s m) → w ≡ (loop_of 1 t s m).memory → b ≡ sets (2 ∷ []) 0 (loop_of 1 t s m).answers
      → (◌≡◌ {A = Reply} (record { number = r.number; answer = get_or b 0 0; flag = eqb r.flag 0; model = r.model }) (checked_event s m t).result) × (w ≡ (checked_event s m t).memory)
  one some r w b er ew eb = let e = one_event some in rw (er, ew, eb, ← passed) (e.0, e.1)

  -- it answers a number below 3
  pub answer_below : (checked_event s m t).result.answer < 3
  answer_below = by (read_of (part_of s.part) t)
    where
      by : (r : Read) → (on_read r s m).result.answer < 3
      by (Whole e n) = answer_in s m e
      by (Refused r place) = omega arith

  -- so the answer of that number is the one that has it
  pub answer_named : (x : Reply) → x ≡ (checked_event s m t).result → answer_number (Numbers.answer_in x.answer) ≡ x.answer
  answer_named x e = answer_numbered x.answer (rw e answer_below)

  -- of a refused one only the refusal counts
  pub refused_one : (r : Refusal) → (checked_event s m t).result.number ≡ refusal_number r → refused r s ≡ (checked_event s m t).result
  refused_one r e =
      let z : (event_of s m t).result.number ≡ 0 → ⊥ = rw passed (λ w. number_positive r (sym e ∙ w)) in
      let k = event_stays s m t in
      let same = refused_same (event_of s m t).result (k.refused_answer z) (k.refused_flag z) (k.refused_model z) in
      rw (passed, e) at same
