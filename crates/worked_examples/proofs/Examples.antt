-- Document 01's examples 1 to 11 hold, all by a single theorem on the list of them. Computed. Assumes nothing.
use Prim.Native.Nat.{ℕ}
use mathlib.Core.Path.{◌≡◌, refl}
use mathlib.Core.Bool.{true}
use Rattle.parts.specs.Status.{protected_start}
use Rattle.trace.specs.Read.{read_of}
use Rattle.selection.specs.Opcode.{command_of}
use Rattle.transfer.specs.Word.{word_of}
use Rattle.chip.specs.Check.{check_of}
use Rattle.model.specs.Make.{make_of}
use Rattle.worked_examples.specs.Cases.{Holds, Every}
use Rattle.worked_examples.specs.Examples.{examples}
use Rattle.worked_examples.proofs.Trail.{loop_by}
use Rattle.worked_examples.proofs.Tests.{all, all_hold}

tested : (g : ℕ → ℕ) → all g examples ≡ true
unfolding examples protected_start read_of command_of word_of check_of make_of loop_by
tested g = refl

pub all_examples : Every Holds examples
all_examples = all_hold examples tested
