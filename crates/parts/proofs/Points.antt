-- The rule gives the twelve starting points that document 01 lists ('Protected ranges'). Computed. Assumes nothing.
use Prim.Native.Nat.{ℕ}
use mathlib.Core.Path.{◌≡◌, refl}
use mathlib.Core.Bool.{Bool, true, false}
use mathlib.Core.List.{List, [], ◌∷◌, ◌++◌}
use Rattle.parts.specs.declared.part.Part.{Part}
use Rattle.parts.specs.Status.{protected_start}
use Rattle.parts.specs.Table.{part_of}

-- of parts 0, 1 and 2, each for BP1 BP0 = 00, 01, 10, 11; for 00 it is the size itself
abbrev twelve : List ℕ
twelve =
    0x1000 ∷ 0xc00 ∷ 0x800 ∷ 0 ∷
    0x20000 ∷ 0x18000 ∷ 0x10000 ∷ 0 ∷
    0x40000 ∷ 0x30000 ∷ 0x20000 ∷ 0 ∷ []

-- the starts of a part, whatever SRWD and WEL are
module _ (srwd wel : Bool) where
  abbrev start : Bool → Bool → Part → ℕ
  start bp1 bp0 p = protected_start (record { srwd = srwd; bp1 = bp1; bp0 = bp0; wel = wel }) p

  abbrev starts : ℕ → List ℕ
  starts n = start false false (part_of n) ∷ start false true (part_of n) ∷ start true false (part_of n) ∷ start true true (part_of n) ∷ []

  pub twelve_points : starts 0 ++ starts 1 ++ starts 2 ≡ twelve
  unfolding protected_start
  twelve_points = refl
