use Rattle.im_select.specs.Given.{given}
use Rattle.im_rv.specs.Lines.{code_lines}
use Rattle.im_select.proofs.Whole.{selection}
use Rattle.im_select.proofs.selection.select.Goals as goal

pub returns : goal.returns
returns c = selection (given c.args.names.now) c.args.number (code_lines c.in_ok-lines.lines.items) c.requires c.in_ok-lines.ensures
