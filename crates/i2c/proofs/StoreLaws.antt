-- Only a data byte that comes in is written. Assumes nothing.
use Prim.Native.Nat.{ℕ}
use mathlib.Core.Path.{◌≡◌, refl}
use mathlib.Core.Bool.{Bool, true, false, cond}
use mathlib.Core.List.{List, [], ◌∷◌}
use types.Run.{OneOf, miss}
use denote.Enum.Declared.{tag_of}
use lib.Dec.{ltb}
use Rattle.std.specs.Prelude.{None}
use Rattle.transfer.specs.declared.phase.Field.{Field}
use Rattle.transfer.specs.declared.phase.Field.TheVariants.{Word, HighByte, LowByte, Data}
use Rattle.transfer.specs.declared.phase.Phase.{Phase}
use Rattle.transfer.specs.declared.phase.Phase.TheVariants.{Rest, Ignoring, Taking, Sending}
use Rattle.i2c.specs.Store.{field_write, rise_write}
use Rattle.transfer.specs.contracts.phase.Field as field
use Rattle.transfer.specs.contracts.phase.Phase as phase

-- the variants besides `Taking`
abbrev others : List ℕ
others = 0 ∷ 1 ∷ 3 ∷ []

pub none_taken : (ph : Phase) (wp : Bool) → OneOf others (tag_of phase.the_type ph) → rise_write ph wp ≡ None
none_taken Rest wp h = refl
none_taken Ignoring wp h = refl
none_taken (Taking f n v) wp h = absurd (miss others 2 tt h)
none_taken (Sending a n) wp h = refl

-- the variants besides `Data`
abbrev before : List ℕ
before = 0 ∷ 1 ∷ 2 ∷ []

pub no_data : (f : Field) (n v : ℕ) (wp : Bool) → OneOf before (tag_of field.the_type f) → rise_write (Taking f n v) wp ≡ None
no_data f n v wp h = by (ltb n 8)
  where
    byte : (x : Field) → OneOf before (tag_of field.the_type x) → field_write x v wp ≡ None
    byte Word i = refl
    byte (HighByte a16) i = refl
    byte (LowByte a16 high) i = refl
    byte (Data a) i = absurd (miss before 3 tt i)

    by : (t : Bool) → cond t None (field_write f v wp) ≡ None
    by true = refl
    by false = byte f h
