-- What the run rule makes of two runs, and what holds of the count of a run.
use Rattle.std.specs.Prelude.{ℕ, ◌+◌, ◌≤◌, ◌≡◌, ◌++◌, length}
use Rattle.events.specs.Flag.{first_flag}
use Rattle.runs.specs.Run.{Run}

-- one run of a trace of n bytes, and another on the rest: counts and offsets added, answers put together. The first run's flag stands if
-- it has one, else the second's with the first's offset added. The rest is from the second
abbrev pub joined_runs : ℕ → Run → Run → Run
joined_runs n a b =
    record {
      number = b.number;
      model = b.model;
      count = a.count + b.count;
      offset = a.offset + b.offset;
      flag = first_flag n a.flag (a.offset + b.flag);
      memory = b.memory;
      answers = a.answers ++ b.answers;
    }

-- a run on n bytes: as many answers as accepted events, and no more of these than bytes
pub record Counted (n : ℕ) (r : Run) : Type 0 where
  pub answered : length r.answers ≡ r.count
  pub within : r.count ≤ n
