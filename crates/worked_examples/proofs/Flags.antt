-- The warning flag is set and clear where each clause of the request says so. Computed. Assumes nothing.
use Prim.Native.Nat.{ℕ}
use mathlib.Core.Path.{◌≡◌, refl, ap, ◌∙◌}
use mathlib.Core.List.{List, [], ◌∷◌, map}
use lib.ListN.{length, get_or}
use Rattle.selection.specs.Opcode.{command_of}
use Rattle.trace.specs.Read.{read_of}
use Rattle.transfer.specs.Word.{word_of}
use Rattle.chip.specs.Check.{check_of}
use Rattle.model.specs.Make.{make_of}
use Rattle.runs.specs.Run.{Run}
use Rattle.worked_examples.specs.Cases.{Every, made_of}
use Rattle.worked_examples.specs.Flags.{Move, trace_of, flag_wanted, offset_wanted, Points, spi_moves, i2c_moves}
use Rattle.worked_examples.proofs.Refusals.{head_same, tail_same}
use Rattle.worked_examples.proofs.Trail.{loop_by, run_by, run_by_lem}

-- number, offset and flag
pub record Figures : Type 0 where
  pub number : ℕ
  pub offset : ℕ
  pub flag : ℕ

-- with g for the bytes of the memory
abbrev figures_given : (ℕ → ℕ) → Move → Figures
figures_given g x =
    let r = run_by (length (trace_of x)) x.size (trace_of x) (made_of x.part 0 0) g in
    record { number = r.number; offset = r.offset; flag = r.flag }

abbrev figures_wanted : Move → Figures
figures_wanted x = record { number = x.number; offset = offset_wanted x; flag = flag_wanted x }

pointing : (xs : List Move) → ((g : ℕ → ℕ) → map (figures_given g) xs ≡ map figures_wanted xs) → Every Points xs
pointing [] h = tt
pointing (x ∷ xs) h = (
  λ m e.
      let f = head_same (h (λ a. get_or m a 0)) in
      let r = run_by_lem (length (trace_of x)) x.size (trace_of x) (made_of x.part 0 0) m (λ a. get_or m a 0) e (λ a. refl) in
      record {
        number = ap (λ (k : Run). k.number) r ∙ ap (λ (k : Figures). k.number) f;
        offset = ap (λ (k : Run). k.offset) r ∙ ap (λ (k : Figures). k.offset) f;
        flag = ap (λ (k : Run). k.flag) r ∙ ap (λ (k : Figures). k.flag) f;
      },
  pointing xs (λ g. tail_same (h g)),
)

spi_tested : (g : ℕ → ℕ) → map (figures_given g) spi_moves ≡ map figures_wanted spi_moves
unfolding spi_moves check_of read_of make_of loop_by command_of
spi_tested g = refl

pub spi_moves_lem : Every Points spi_moves
spi_moves_lem = pointing spi_moves spi_tested

i2c_tested : (g : ℕ → ℕ) → map (figures_given g) i2c_moves ≡ map figures_wanted i2c_moves
unfolding i2c_moves check_of read_of make_of loop_by word_of
i2c_tested g = refl

pub i2c_moves_lem : Every Points i2c_moves
i2c_moves_lem = pointing i2c_moves i2c_tested
