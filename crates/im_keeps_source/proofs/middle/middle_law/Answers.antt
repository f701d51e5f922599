use Rattle.im_keeps_source.proofs.Lines.{middle}
use Rattle.im_keeps_source.proofs.middle.middle_law.Goals as goal

pub returns : goal.returns
returns c = middle c.registers_law.ensures c.placed_code_law.ensures c.recut_keeps_law.ensures c.code_bounds_law.ensures
