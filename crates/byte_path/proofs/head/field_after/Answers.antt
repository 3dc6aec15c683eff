-- `field_after` meets its contract: there is room for the byte, and the number of the field stays small. Assumes nothing.
use native.Mathlib.Omega.{arith}
use Rattle.byte_path.proofs.HeadLaws.{more_below}
use Rattle.byte_path.proofs.head.field_after.Goals as goal

pub phase_after_field-requires : goal.phase_after_field-requires
phase_after_field-requires c =
    let b = c.requires in
    (b.fit, b.inside.field, more_below _ _ _ _ _ b (omega arith))
