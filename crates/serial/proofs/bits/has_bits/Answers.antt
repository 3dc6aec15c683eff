-- `has_bits` meets its contract: a shift tests the count of bits. Assumes nothing.
use Rattle.serial.proofs.BitLaws.{shifted_out}
use Rattle.serial.proofs.bits.has_bits.Goals as goal

pub returns : goal.returns
returns c = shifted_out c.args.count c.args.value
