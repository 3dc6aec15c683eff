-- A case: a run, and what it must give on every memory of a length: the events that are to be accepted with their answers, why the run
-- stops after them, and the bytes that are written.
use Rattle.std.specs.Prelude.{ℕ, suc, ◌≡◌, List, [], ◌∷◌, ◌++◌, length, get_or, set}
use Rattle.chip.specs.declared.model.Model.{Model}
use Rattle.model.specs.Make.{make_of}
use Rattle.runs.specs.Run.{Run, run_of}
use Rattle.worked_examples.specs.Traces.{Step, step_bytes, step_answers}

-- the byte at an address
pub record Cell : Type 0 where
  pub address : ℕ
  pub value : ℕ

abbrev pub cell : ℕ → ℕ → Cell
cell a v = record { address = a; value = v }

-- a memory with some bytes set, one after the other, and all others as they were
abbrev pub with_cells : List ℕ → List Cell → List ℕ
with_cells m [] = m
with_cells m (k ∷ ks) = with_cells (set m k.address k.value) ks

pub record Case : Type 0 where
  -- the state before
  pub model : Model
  -- the length of the memory, and bytes that it holds before, others being any
  pub size : ℕ
  pub first : List Cell
  pub quota : ℕ
  -- the events that are accepted, with their answers
  pub steps : List Step
  -- the bytes of the trace after them
  pub rest : List ℕ
  -- 0, or the number of the refusal at the rest: one that points at the kind byte
  pub number : ℕ
  -- the bytes that are written
  pub cells : List Cell

-- what a run on a memory gives: the number, the count of the steps, the length of their bytes, every answer, and the whole memory
pub record Gives (c : Case) (m : List ℕ) (r : Run) : Type 0 where
  pub number : r.number ≡ c.number
  pub count : r.count ≡ length c.steps
  pub offset : r.offset ≡ length (step_bytes c.steps)
  pub answers : r.answers ≡ step_answers c.steps
  pub memory : r.memory ≡ with_cells m c.cells

abbrev pub trace_of : Case → List ℕ
trace_of c = step_bytes c.steps ++ c.rest

-- on a memory
abbrev pub HoldsOn : Case → List ℕ → Type 0
HoldsOn c m = Gives c m (run_of c.quota (trace_of c) c.model m)

-- on every memory of the length that holds the first bytes
abbrev pub Holds : Case → Type 0
Holds c = (m : List ℕ) → length m ≡ c.size → HoldsOn c (with_cells m c.first)

-- of every entry of a list
abbrev pub Every : {A : Type 0} → (A → Type 0) → List A → Type 0
Every P [] = Unit {0}
Every P (x ∷ xs) = P x × Every P xs

-- ---- a part just made

-- the bytes of each part, as the sheets have them
abbrev pub size_of : ℕ → ℕ
size_of part = get_or (4096 ∷ 131072 ∷ 262144 ∷ 8192 ∷ 131072 ∷ []) part 0

abbrev pub made_of : ℕ → ℕ → ℕ → Model
made_of part pins bits = (make_of part pins bits).model

-- part, address pins and saved bits of the making, bytes that the memory holds, the steps, the bytes written: the whole trace is
-- accepted, with a quota of one event more
abbrev pub made : ℕ → ℕ → ℕ → List Cell → List Step → List Cell → Case
made part pins bits first steps cells =
    record {
      model = made_of part pins bits;
      size = size_of part;
      first = first;
      quota = suc (length steps);
      steps = steps;
      rest = [];
      number = 0;
      cells = cells;
    }
