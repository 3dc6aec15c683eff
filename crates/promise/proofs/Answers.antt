-- The answers of all five parts are those that the history says. From the same on each bus, by the part's bus. Assumes nothing.
use Prim.Native.Nat.{ℕ}
use mathlib.Core.Path.{◌≡◌, refl}
use mathlib.Core.Bool.{Bool, true, false}
use mathlib.Core.List.{List, [], ◌∷◌, ◌++◌}
use Rattle.parts.specs.Table.{is_spi, part_of}
use Rattle.promise.specs.Answers.{Answers, ledger_answer}
use Rattle.promise.specs.Promise.{made_by, history_of}
use Rattle.promise.specs.SpiAnswers.{observed_after}
use Rattle.promise.proofs.SpiAnswers.{spi_answers}
use Rattle.promise.proofs.I2cSaid.{i2c_answers}

pub answers : (part pins bits : ℕ) (first : List ℕ) → Answers part pins bits first
answers part pins bits first es t z = by (is_spi (part_of (made_by part pins bits).part).bus) refl
  where
    by : (y : Bool) → is_spi (part_of (made_by part pins bits).part).bus ≡ y
        → (observed_after (made_by part pins bits) first es t).answer
        ≡ ledger_answer (made_by part pins bits) first (history_of (made_by part pins bits) first (es ++ (t ∷ [])))
    by true q = rw q (spi_answers part pins bits first q es t z)
    by false q = rw q ((i2c_answers part pins bits first es q).next_answer t z)
