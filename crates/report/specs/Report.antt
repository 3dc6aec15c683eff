-- What a program shows of a trace: a making with pins and bits 0, and a run with no limit on events.
use Rattle.std.specs.Prelude.{ℕ, Bool, true, false, cond, List, [], ltb, length, Option, Some, None}
use Rattle.parts.specs.Numbers.{number_of}
use Rattle.runs.specs.Run.{Run}
use Rattle.made.specs.MadeRun.{made_run}
use Rattle.report.specs.declared.show.Report.{Report}
use Rattle.report.specs.Text.{text}

-- more events than any trace has
abbrev pub unlimited : ℕ
unlimited = 18446744073709551615

abbrev pub shown_run : ℕ → List ℕ → List ℕ → Run
shown_run part t m = made_run part 0 0 unlimited t m

-- over 65,536 bytes a trace is too long, and nothing is run
abbrev pub too_long : List ℕ → Bool
too_long t = ltb 65536 (length t)

-- what is printed: that the trace is too long, or the run's number, count and offset and how many bytes the text has
pub record Printed : Type 0 where
  pub long : Bool
  pub number : ℕ
  pub count : ℕ
  pub offset : ℕ
  pub length : ℕ

-- what the code returns amounts to that
abbrev pub printed_of : Option Report → Printed
printed_of None = record { long = true; number = 0; count = 0; offset = 0; length = 0 }
printed_of (Some r) = record { long = false; number = number_of r.refusal; count = r.count; offset = r.offset; length = r.length }

abbrev pub report_of : ℕ → List ℕ → List ℕ → Printed
report_of part t m =
    cond (too_long t) (record { long = true; number = 0; count = 0; offset = 0; length = 0 })
    (record {
      long = false;
      number = (shown_run part t m).number;
      count = (shown_run part t m).count;
      offset = (shown_run part t m).offset;
      length = length (text 0 (shown_run part t m).answers);
    })

-- the bytes that go to the front of the output
abbrev pub text_of : ℕ → List ℕ → List ℕ → List ℕ
text_of part t m = cond (too_long t) [] (text 0 (shown_run part t m).answers)

abbrev pub memory_after_run : ℕ → List ℕ → List ℕ → List ℕ
memory_after_run part t m = cond (too_long t) m (shown_run part t m).memory
