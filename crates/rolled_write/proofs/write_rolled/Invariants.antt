-- `write_rolled` meets its contract. The loop's invariant: the stretches that are left, written from 0 on, complete the whole. Assumes nothing.
use Rattle.std.proofs.Common.{◌≡◌, ◌<◌, length}
use Rattle.rolled_write.specs.Written.{written_from}
use Rattle.rolled_write.proofs.write_rolled.Given as goal

abbrev pub invariant-loop-stretch : goal.invariant-loop-stretch
invariant-loop-stretch l = record {
  some : 0 < length l.memory;
  size : l.stretch-iterator.size ≡ length l.memory;
  whole : written_from l.start l.memory 0 l.stretch-iterator.rest.now ≡ written_from l.start l.fn.memory l.address l.bytes;
}
