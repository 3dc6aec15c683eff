-- `show_identity` meets its contract: one byte of the identity more. Assumes nothing.
use Rattle.std.proofs.Common.{◌∙◌, rules}
use Rattle.byte_rest.proofs.BackLaws.{identity_on}
use Rattle.byte_rest.proofs.data.show_identity.Goals as goal

pub loop-byte-preserved : goal.loop-byte-preserved
loop-byte-preserved c =
    let l = c.loop-byte in
    rw (c.identity_byte.ensures, c.next_index-index.ensures) (identity_on _ l.output l.byte-index _ _ (search rules) (search rules) ∙ l.invariant)
