-- The bits of an I2C part's byte apart from its phase, which is how the loop keeps them: of nine rises eight change nothing else. These
-- definitions only say how the code takes such rises.
use Rattle.std.specs.Prelude.{ℕ}
use Rattle.transfer.specs.declared.phase.Phase.{Phase}
use Rattle.transfer.specs.declared.phase.Phase.TheVariants.{Rest, Ignoring, Taking, Sending}

-- how many rises of a byte are in
abbrev pub bits_of : Phase → ℕ
bits_of Rest = 0
bits_of Ignoring = 0
bits_of (Taking f n v) = n
bits_of (Sending a n) = n

-- the number that the bits of a byte that comes in make
abbrev pub value_of : Phase → ℕ
value_of Rest = 0
value_of Ignoring = 0
value_of (Taking f n v) = v
value_of (Sending a n) = 0

-- the phase with n rises, whose bits make v, in the place of its own
abbrev pub with_bits : Phase → ℕ → ℕ → Phase
with_bits Rest n v = Rest
with_bits Ignoring n v = Ignoring
with_bits (Taking f m u) n v = Taking f n v
with_bits (Sending a m) n v = Sending a n
