-- What passes 1 and 2 goes on to pass them: after a making, an event, a run and a selection as bytes, whatever these are given. From the
-- same fact for one event of a state and memory that passed. Assumes nothing.
use Prim.Native.Nat.{ℕ, ◌<◌}
use mathlib.Core.Path.{◌≡◌, refl}
use mathlib.Core.Bool.{Bool, true, false, cond}
use mathlib.Core.List.{List, [], ◌∷◌}
use native.Mathlib.Omega.{arith}
use lib.Dec.{ltb}
use lib.ListN.{length}
use borrow.Author.Tests.{ltb-true}
use Rattle.parts.specs.Status.{cleared}
use Rattle.parts.specs.Table.{part_of}
use Rattle.parts.proofs.Rows.{and_both}
use Rattle.trace.specs.declared.event.Event.TheVariants.{Sample}
use Rattle.chip.specs.declared.model.Model.{Model}
use Rattle.chip.specs.Check.{bits_clear, check_of, Sound, Verdict, Passed, Failed}
use Rattle.chip.specs.Model.{unpowered}
use Rattle.chip.proofs.CheckLaws.{model_test, sound_in}
use Rattle.events.proofs.Keeps.{keeps}
use Rattle.byte_path.specs.PinPath.{Pins, sampled, clocked_all, bits_of, bytes_taken, sample_of, last_si, fallen, risen, selection_of}
use Rattle.byte_path.specs.Select.{Select, select_of}
use Rattle.runs.specs.Event.{event_on_verdict, event_of}
use Rattle.runs.specs.Run.{loop_of, run_on_verdict, run_of}
use Rattle.runs.proofs.EventLaws.{event_sound}
use Rattle.runs.proofs.RunRule.{loop_sound}
use Rattle.model.specs.Made.{Made}
use Rattle.model.specs.Make.{status_of, make_in, make_of}
use Rattle.image.specs.Taken.{in_range}
use Rattle.calls.proofs.SelectCases.{select_by}

pub sound_range : (s : Model) (m : List ℕ) → Sound s m → in_range s ≡ true
sound_range s m h = let r = sound_in s m h in rw (model_test s r.model, r.bus)

-- ---- making

bits_clear_lem : (y : Bool) (bits : ℕ) → cond y (ltb bits 8) (ltb bits 1) ≡ true → cond y true (bits_clear (status_of bits)) ≡ true
bits_clear_lem true bits h = refl
bits_clear_lem false bits h =
    let l : bits < 1 = ltb-true bits 1 h in
    let z : bits ≡ 0 = omega arith in
    rw z

pub make_range : (part pins bits : ℕ) → in_range (make_of part pins bits).model ≡ true
unfolding make_of
make_range part pins bits = by (make_in part pins bits) refl
  where
    by : (y : Bool) → make_in part pins bits ≡ y
        → in_range (cond {A = Made} y (record { number = 0; model = unpowered part pins (status_of bits) }) (record { number = 1; model = unpowered 0 0 cleared })).model ≡ true
    by true e =
        let a = and_both (ltb part 5) _ e in
        let b = and_both (ltb pins (part_of part).pins) _ a.1 in
        rw (a.0, b.0, bits_clear_lem (part_of part).saved bits b.1)
    by false e = refl

-- ---- one event, and a run

pub event_range : (s : Model) (m t : List ℕ) → in_range s ≡ true → in_range (event_of s m t).result.model ≡ true
unfolding event_of
event_range s m t h = by (check_of s (length m)) refl
  where
    by : (v : Verdict) → check_of s (length m) ≡ v → in_range (event_on_verdict v s m t).result.model ≡ true
    by Passed c = rw c at (sound_range (event_of s m t).result.model (event_of s m t).memory (event_sound s m t c))
    by (Failed r) c = h

pub run_range : (q : ℕ) (t : List ℕ) (s : Model) (m : List ℕ) → in_range s ≡ true → in_range (run_of q t s m).model ≡ true
unfolding run_of
run_range q t s m h = by (check_of s (length m)) refl
  where
    by : (v : Verdict) → check_of s (length m) ≡ v → in_range (run_on_verdict v q t s m).model ≡ true
    by Passed c = sound_range (loop_of q t s m).model (loop_of q t s m).memory (loop_sound q t s m c)
    by (Failed r) c = h

-- ---- a selection as bytes

abbrev Passes : Pins → Type 0
Passes a = Sound a.model a.memory

sampled_passes : (a : Pins) (x : ℕ) → Passes a → Passes (sampled a x)
sampled_passes a x h = keeps a.model a.memory (Sample x) h tt

module _ (wp : Bool) where
  clocked_passes : (bs : List Bool) (a : Pins) → Passes a → Passes (clocked_all wp a bs)
  clocked_passes [] a h = h
  clocked_passes (b ∷ bs) a h =
      clocked_passes bs _
      (sampled_passes (sampled a (sample_of false true b wp)) (sample_of false false b wp) (sampled_passes a (sample_of false true b wp) h))

  bytes_passes : (vs : List ℕ) (a : Pins) → Passes a → Passes (bytes_taken wp a vs)
  bytes_passes [] a h = h
  bytes_passes (v ∷ vs) a h = bytes_passes vs _ (clocked_passes (bits_of v) a h)

  module _ (s : Model) (input output m : List ℕ) where
    pub selection_passes : Sound s m → Passes (risen wp s m input)
    selection_passes h =
        sampled_passes (bytes_taken wp (fallen wp s m input) input) (sample_of true false (last_si false input) wp)
        (bytes_passes input (fallen wp s m input) (sampled_passes (record { model = s; memory = m; answer = 2 }) (sample_of false false false wp) h))

    pub select_range : in_range s ≡ true → in_range (select_of wp s input output m).model ≡ true
    unfolding selection_of
    select_range h =
        select_by wp s input output m (λ (x : Select). in_range x.model ≡ true) (λ r e. h) h h h
        (λ c. sound_range (risen wp s m input).model (risen wp s m input).memory (selection_passes c))
