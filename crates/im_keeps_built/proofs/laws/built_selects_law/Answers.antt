use Rattle.im_keeps_built.proofs.Selected.{selects}
use Rattle.im_keeps_built.proofs.laws.built_selects_law.Goals as goal

pub returns : goal.returns
returns c =
    selects c.ready_law.ensures c.placed_code_law.ensures c.recut_keeps_law.ensures c.linkable_law.ensures c.live_code_law.ensures c.executes_law.ensures c.selects_law.ensures
