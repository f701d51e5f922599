use Rattle.std.proofs.Common.{subst}
use Rattle.im_eval_store.specs.Changes.{Stores}
use Rattle.im_eval_store.specs.Shown.{object_of, shown}
use Rattle.im_eval_machine.proofs.Accessing.{write-here}
use Rattle.im_eval_machine.proofs.access.write_scalar.Goals as goal

pub returns-in-Pointer : goal.returns-in-Pointer
returns-in-Pointer c = λ last store h.
    let p = c.in-Pointer.place in
    rw c.in-Pointer.is (subst (Stores c.write_cell.result c.write_cell.new.self last) (write-here store (object_of p.object) p.offset c.args.kind (shown c.args.value)) (c.write_cell.ensures last store h))
