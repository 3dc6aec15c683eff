-- `read_rolled` meets its contract. The loop's invariant: `ahead` is the memory from an address on, and what is before the place, with
-- what is still to be read from that address, is the whole. Assumes nothing.
use Rattle.std.proofs.Common.{◌≡◌, ◌-◌, ◌<◌, ◌≤◌, ◌++◌, length, take, drop}
use Rattle.rolled_read.specs.Rolled.{rolled_from}
use Rattle.rolled_read.proofs.read_rolled.Given as goal

abbrev pub invariant-loop-at : goal.invariant-loop-at
invariant-loop-at l = record {
  within : l.at ≤ length l.output;
  some_ahead : 0 < length l.ahead;
  part_ahead : length l.ahead ≤ length l.memory;
  ahead : l.ahead ≡ drop (length l.memory - length l.ahead) l.memory;
  whole :
      take l.at l.output ++ rolled_from l.memory (length l.memory - length l.ahead) (length l.initial.output - l.at)
      ≡ rolled_from l.memory l.address (length l.initial.output);
}

abbrev pub decreases-loop-at : goal.decreases-loop-at
decreases-loop-at l = length l.initial.output - l.at
