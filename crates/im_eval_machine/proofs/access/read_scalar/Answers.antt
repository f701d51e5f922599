use Rattle.std.proofs.Common.{subst}
use Rattle.im_eval_store.specs.Shown.{Checks, object_of}
use Rattle.im_eval_machine.proofs.Accessing.{read-here}
use Rattle.im_eval_machine.proofs.access.read_scalar.Goals as goal

pub returns-in-Pointer : goal.returns-in-Pointer
returns-in-Pointer c = λ last store h.
    let p = c.in-Pointer.place in
    rw c.in-Pointer.is (subst (Checks c.read_cell.result) (read-here store (object_of p.object) p.offset c.args.kind) (c.read_cell.ensures last store h))
