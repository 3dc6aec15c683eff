-- Two levels differ exactly if they are not the same. By their cases. Assumes nothing.
use mathlib.Core.Path.{◌≡◌, refl, sym}
use mathlib.Core.Bool.{Bool, true, false, false≢true}
use Rattle.serial.specs.Level.{differ}

pub same_level : (y : Bool) → differ y y ≡ false
same_level true = refl
same_level false = refl

pub apart : (a b : Bool) → differ a b ≡ true → a ≡ b → ⊥
apart true true h e = false≢true h
apart true false h e = false≢true (sym e)
apart false true h e = false≢true e
apart false false h e = false≢true h

pub differs : (a b : Bool) → (a ≡ b → ⊥) → differ a b ≡ true
differs true true n = absurd (n refl)
differs true false n = refl
differs false true n = refl
differs false false n = absurd (n refl)
