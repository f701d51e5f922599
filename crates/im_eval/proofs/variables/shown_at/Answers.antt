use Rattle.im_eval.proofs.Showing.{shown-as}
use Rattle.im_eval.proofs.variables.shown_at.Goals as goal

pub returns : goal.returns
returns c = shown-as c.cell_shown.result c.static_value.result c.args.memory.now c.args.number c.args.cell.now.offset c.static_value.ensures c.cell_shown.ensures
