use Rattle.std.proofs.Common.{ap}
use Rattle.im_store.specs.Objects as o
use Rattle.im_eval_tasks.specs.Stack.{Placed, continues}
use Rattle.im_eval_tasks.proofs.expression.begin_place.Goals as goal

pub returns-in-Local : goal.returns-in-Local
returns-in-Local c = λ types g n ts s.
    rw c.in-Local.is
    (ap (λ x. continues types g n c.args.here ts (Placed (o.Pointer x 0)) s) (c.local.ensures))
