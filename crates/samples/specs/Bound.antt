-- One bound for quota and trace: where consecutive samples end at the latest, since each takes two bytes. These definitions only say how
-- the loops know that they are to go on.
use Rattle.std.specs.Prelude.{ℕ, ◌+◌, ◌*◌, ◌-◌, ◌/◌, Bool, false, cond, List, ltb, drop}
use Rattle.trace.specs.Sample.{stays_first}

-- as many as the quota q still allows after c events, or as the trace of n bytes has room for from offset o on
abbrev pub turns_of : ℕ → ℕ → ℕ → ℕ → ℕ
turns_of n q c o = cond (ltb (q - c) ((n - o) / 2)) (q - c) ((n - o) / 2)

abbrev pub latest : ℕ → ℕ → ℕ → ℕ → ℕ
latest n q c o = o + 2 * turns_of n q c o

-- whether offset o lies before the bound e, and t has a sample below the limit there, or this expected answer
abbrev pub next_before : ℕ → ℕ → ℕ → ℕ → List ℕ → Bool
next_before limit answer e o t = cond (ltb o e) (stays_first limit answer (drop o t)) false
