use Rattle.im_keeps_built.proofs.Kept.{kept}
use Rattle.im_keeps_built.proofs.laws.built_keeps_law.Goals as goal

pub returns : goal.returns
returns c =
    kept c.built_selects_law.ensures c.lowers_law.ensures c.middle_law.ensures c.program_keeps_law.ensures c.gap_bound_law.ensures c.registers_law.ensures c.force_keeps_law.ensures c.placed_code_law.ensures c.gap_apart_law.ensures c.ready_law.ensures
