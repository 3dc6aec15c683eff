-- Our own cases hold, by the same statement as document 01's examples. Computed, list by list. Assumes nothing.
use Prim.Native.Nat.{ℕ}
use mathlib.Core.Path.{◌≡◌, refl}
use mathlib.Core.Bool.{true}
use Rattle.parts.specs.Status.{protected_start}
use Rattle.trace.specs.Read.{read_of}
use Rattle.selection.specs.Opcode.{command_of}
use Rattle.transfer.specs.Word.{word_of}
use Rattle.chip.specs.Check.{check_of}
use Rattle.model.specs.Make.{make_of}
use Rattle.worked_examples.specs.Cases.{Holds, Every}
use Rattle.worked_examples.specs.OwnCases.{run_cases, status_cases, protected_cases, late_cases, top_cases, word_cases, transfer_cases, own_cases}
use Rattle.worked_examples.proofs.Trail.{loop_by}
use Rattle.worked_examples.proofs.Tests.{all, all_hold}

run_tested : (g : ℕ → ℕ) → all g run_cases ≡ true
unfolding run_cases protected_start read_of command_of word_of check_of make_of loop_by
run_tested g = refl

status_tested : (g : ℕ → ℕ) → all g status_cases ≡ true
unfolding status_cases protected_start read_of command_of word_of check_of make_of loop_by
status_tested g = refl

protected_tested : (g : ℕ → ℕ) → all g protected_cases ≡ true
unfolding protected_cases protected_start read_of command_of word_of check_of make_of loop_by
protected_tested g = refl

late_tested : (g : ℕ → ℕ) → all g late_cases ≡ true
unfolding late_cases protected_start read_of command_of word_of check_of make_of loop_by
late_tested g = refl

top_tested : (g : ℕ → ℕ) → all g top_cases ≡ true
unfolding top_cases protected_start read_of command_of word_of check_of make_of loop_by
top_tested g = refl

word_tested : (g : ℕ → ℕ) → all g word_cases ≡ true
unfolding word_cases protected_start read_of command_of word_of check_of make_of loop_by
word_tested g = refl

transfer_tested : (g : ℕ → ℕ) → all g transfer_cases ≡ true
unfolding transfer_cases protected_start read_of command_of word_of check_of make_of loop_by
transfer_tested g = refl

pub own_cases_lem : Every (Every Holds) own_cases
unfolding own_cases
own_cases_lem = (
  all_hold run_cases run_tested,
  (
    all_hold status_cases status_tested,
    (
      all_hold protected_cases protected_tested,
      (
        all_hold late_cases late_tested,
        (
          all_hold top_cases top_tested,
          (
            all_hold word_cases word_tested,
            (
              all_hold transfer_cases transfer_tested,
              tt,
            ),
          ),
        ),
      ),
    ),
  ),
)
