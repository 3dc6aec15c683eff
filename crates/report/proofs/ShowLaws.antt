-- What is shown of a run whose answers went to the front of a room for 65,536 of them. Assumes nothing.
use Prim.Native.Nat.{ℕ, ◌≤◌}
use mathlib.Core.Path.{◌≡◌, sym}
use mathlib.Core.Bool.{false}
use mathlib.Core.List.{List}
use native.Mathlib.Omega.{arith}
use lib.ListN.{length, take, replicate, length-replicate}
use lib.Seq.{take_at, length-sets, sets, sets-eq}
use borrow.Author.Tests.{le-ltb}
use Rattle.runs.specs.Figures.{Figures}
use Rattle.runs.specs.Run.{Run, ran_of}
use Rattle.runs.specs.Rules.{Counted}
use Rattle.made.proofs.MadeLaws.{made_counted}
use Rattle.report.specs.Report.{Printed, unlimited, shown_run, report_of, text_of, memory_after_run}
use Rattle.report.specs.Text.{text}

-- of a run on a part just made, and of the room for answers after it
pub record Shown (part : ℕ) (t m : List ℕ) (ran : Figures) (answers memory : List ℕ) : Type 0 where
  pub short : ran.count ≤ 65536
  pub fits : ran.count ≤ length answers
  pub taken : ran.count ≡ length (take ran.count answers)
  pub reported : {n : ℕ} → n ≡ length (text 0 (take ran.count answers))
      → ◌≡◌ {A = Printed} (record { long = false; number = ran.number; count = ran.count; offset = ran.offset; length = n }) (report_of part t m)
  pub remembered : memory ≡ memory_after_run part t m
  pub written : (out : List ℕ) → sets out 0 (text 0 (take ran.count answers)) ≡ sets out 0 (text_of part t m)

-- the answers are found again at the front of any room that is wide enough
stored : (n : ℕ) (r : Run) (room : List ℕ) → Counted n r → n ≤ length room → take r.count (sets room 0 r.answers) ≡ r.answers
stored n r room k wide = rw (sets-eq r.answers room 0 (omega (arith, k.answered, k.within))) (take_at r.answers _ r.count k.answered)

pub shown : (part : ℕ) (t m : List ℕ) {room : List ℕ} {ran : Figures} {answers memory : List ℕ} → length t ≤ 65536 → room ≡ replicate 65536 0
    → ran ≡ ran_of (shown_run part t m) → memory ≡ (shown_run part t m).memory → answers ≡ sets room 0 (shown_run part t m).answers
    → Shown part t m ran answers memory
shown part t m {room} {ran} {answers} {memory} few empty k w a =
    record {
      short = short;
      fits = rw (a, length-sets) (omega (arith, short, wide));
      taken = rw (again, k) (sym counted.answered);
      reported = λ {n} h. rw (h, again, k, le-ltb _ _ few);
      remembered = rw (w, le-ltb _ _ few);
      written = λ out. rw (again, le-ltb _ _ few);
    }
  where
    wide : length room ≡ 65536
    wide = rw (empty, length-replicate)

    counted : Counted (length t) (shown_run part t m)
    counted = made_counted part 0 0 unlimited t m

    short : ran.count ≤ 65536
    short = rw k (omega (arith, counted.within))

    again : take ran.count answers ≡ (shown_run part t m).answers
    again = rw (a, k) (stored (length t) (shown_run part t m) room counted (omega (arith, wide)))
