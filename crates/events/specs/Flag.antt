-- Where the first flagged event of a trace stands (document 02, ask 2). The length of the trace says that there is none.
use Rattle.std.specs.Prelude.{ℕ, ◌+◌, Bool, cond, eqb}

-- from the kind byte of an event of n bytes, flagged or not; `behind` is counted from its end
abbrev pub flag_from : Bool → ℕ → ℕ → ℕ
flag_from flagged n behind = cond flagged 0 (n + behind)

-- in a trace of n bytes: the flag at `before`, if there is one, else the one at `later`
abbrev pub first_flag : ℕ → ℕ → ℕ → ℕ
first_flag n before later = cond (eqb before n) later before

-- the same once the event at offset o is taken, flagged or not
abbrev pub flag_at : ℕ → ℕ → ℕ → Bool → ℕ
flag_at n before o flagged = first_flag n before (cond flagged o n)
