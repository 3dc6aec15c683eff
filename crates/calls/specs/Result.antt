-- What a call gives besides its number, in a buffer of exactly 32 bytes: its figures, then zeros. A buffer of another length is left as it
-- is.
use Rattle.std.specs.Prelude.{ℕ, Bool, cond, List, ◌∷◌, ◌++◌, eqb, length, replicate}
use Rattle.parts.specs.Status.{bit}
use Rattle.image.specs.Bytes.{bytes_of}

abbrev pub written : List ℕ → List ℕ → List ℕ
written figures buffer = cond (eqb (length buffer) 32) figures buffer

-- of an event: the answer and the flag, a byte each
abbrev pub event_result : ℕ → Bool → List ℕ → List ℕ
event_result answer flag = written (answer ∷ bit flag ∷ replicate 30 0)

-- of a run: count, offset and flag offset, eight bytes each, most significant first
abbrev pub run_result : ℕ → ℕ → ℕ → List ℕ → List ℕ
run_result count offset flag = written (bytes_of 8 count ++ (bytes_of 8 offset ++ (bytes_of 8 flag ++ replicate 8 0)))

-- of a selection as bytes: first and count
abbrev pub select_result : ℕ → ℕ → List ℕ → List ℕ
select_result first count = written (bytes_of 8 first ++ (bytes_of 8 count ++ replicate 16 0))
