-- A write keeps the memory's length. Assumes nothing.
use Prim.Native.Nat.{ℕ}
use mathlib.Core.Path.{◌≡◌, refl}
use mathlib.Core.List.{List}
use lib.ListN.{length, length-set}
use Rattle.std.specs.Prelude.{None, Option, Some}
use Rattle.serial.specs.declared.write.Write.{Write}
use Rattle.serial.specs.Write.{applied}

pub length_applied : (w : Option Write) (m : List ℕ) → length (applied w m) ≡ length m
length_applied None m = refl
length_applied (Some w) m = length-set m w.address w.value
