-- Block protection in the words of the sheets, by quarters of the memory: for the laws on the protected start and for what is said of
-- it over the wires. No code is held to these, and nothing is divided.
use Rattle.std.specs.Prelude.{ℕ, zero, suc, ◌+◌, ◌-◌, ◌*◌, Bool, true, false, not, ltb, leb}
use Rattle.parts.specs.declared.part.Part.{Part}
use Rattle.parts.specs.declared.status.Status.{Status}
use Rattle.parts.specs.Status.{bit, protected_start}

-- how many quarters of the memory BP1 BP0 protect: none, one, two, all four
abbrev pub quarters : Bool → Bool → ℕ
quarters false false = 0
quarters false true = 1
quarters true false = 2
quarters true true = 4

-- an address of a memory lies in its top k quarters: four times it reaches the size times the quarters below
abbrev pub in_top : ℕ → ℕ → ℕ → Bool
in_top k size a = leb ((4 - k) * size) (4 * a)

-- block protection covers an address that is not below the protected start
abbrev pub covers : Status → Part → ℕ → Bool
covers s p a = not (ltb a (protected_start s p))

-- how many numbers below n pass a test
abbrev pub count_below : (ℕ → Bool) → ℕ → ℕ
count_below test zero = 0
count_below test (suc a) = count_below test a + bit (test a)
