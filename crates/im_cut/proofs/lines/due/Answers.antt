use Rattle.std.proofs.Common.{sym}
use Rattle.im_cut.proofs.Passing.{due_line}
use Rattle.im_cut.proofs.lines.due.Goals as goal

pub returns-in-Some : goal.returns-in-Some
returns-in-Some c = due_line c.args.tags.now c.args.exposed.now c.args.line.now c.in-Some.access c.due_for.result (sym c.in-Some.ensures) c.due_for.ensures
