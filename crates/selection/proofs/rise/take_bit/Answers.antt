-- `take_bit` meets its contract: the bits of an unfinished field fit, and the last one fills it. Assumes nothing.
use Rattle.selection.proofs.RangeLaws.{last_within}
use Rattle.selection.proofs.rise.take_bit.Goals as goal

pub phase_after_field-requires : goal.phase_after_field-requires
phase_after_field-requires c = (c.requires.0, c.requires.1.field, rw c.shift_in-value.ensures (last_within _ _ _ _ c.args.si c.requires.1 (rw c.width.ensures at c.if-count-width.false)))
