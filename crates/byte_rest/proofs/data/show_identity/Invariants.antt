-- `show_identity` meets its contract. The loop's invariant: the bytes so far, with the identity from the index on up to the end, are
-- the whole. Assumes nothing.
use Rattle.std.proofs.Common.{◌≡◌, ◌-◌, ◌++◌, length, take}
use Rattle.byte_rest.specs.Rest.{identity_from}
use Rattle.byte_rest.proofs.data.show_identity.Given as goal

abbrev pub invariant-loop-byte : goal.invariant-loop-byte
invariant-loop-byte l =
    take l.byte-index l.output ++ identity_from l.part.identity l.index (length l.fn.output - l.byte-index)
    ≡ identity_from l.part.identity l.first (length l.fn.output)
