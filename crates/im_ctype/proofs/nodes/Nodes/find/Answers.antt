use Rattle.std.proofs.Common.{sym}
use Rattle.im_ctype.proofs.nodes.Nodes.find.Goals as goal

pub returns-clause-found : goal.returns-clause-found
returns-clause-found c =
    rw c.self.view_is at (c.self.invariant.1.found c.args.node c.in_ok-number.number.now (sym c.in_ok-number.ensures.value))
