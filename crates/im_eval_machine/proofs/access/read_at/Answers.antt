use Rattle.std.proofs.Common.{◌∙◌, ap, subst, refl, Err}
use Rattle.im_ctype.specs.Layout.{layout_at, layouts}
use Rattle.im_ctype.specs.Table.{structs_of}
use Rattle.std.proofs.lemmas.Result.{err_from_is_err_and}
use Rattle.im_store.specs.Access.{read_cells}
use Rattle.im_typed.specs.Runs.{checked, goes_on}
use Rattle.im_typed.specs.Values.{scalar}
use Rattle.im_eval_store.specs.Shown.{object_of, shown}
use Rattle.im_eval_machine.proofs.Accessing.{one-read, cells-stop}
use Rattle.im_eval_machine.specs.Accesses.{ReadsCells}
use Rattle.im_eval_machine.proofs.access.read_at.Goals as goal

pub returns-in_err-read_scalar-in-Scalar : goal.returns-in_err-read_scalar-in-Scalar
returns-in_err-read_scalar-in-Scalar c =
    let p = err_from_is_err_and c.from_residual.result c.from_residual.ensures.1 in
    rw (p.1, p.2, c.in-Scalar.is) (λ s h. one-read c.in-Scalar.kind (shown c.args.at) s ∙ ap (λ r. goes_on (checked r s) scalar) (c.in_err-read_scalar-in-Scalar.ensures c.args.machine.now.activations s.world.store h.held))

pub returns-in_ok-read_scalar-in-Scalar : goal.returns-in_ok-read_scalar-in-Scalar
returns-in_ok-read_scalar-in-Scalar c = λ s h.
    rw c.in-Scalar.is (one-read c.in-Scalar.kind (shown c.args.at) s ∙ ap (λ r. goes_on (checked r s) scalar) (c.in_ok-read_scalar-in-Scalar.ensures c.args.machine.now.activations s.world.store h.held))

pub returns-in_err-read_struct-in-Pointer : goal.returns-in_err-read_struct-in-Pointer
returns-in_err-read_struct-in-Pointer c =
    let p = err_from_is_err_and c.from_residual-in_err-read_struct-in-Pointer.result c.from_residual-in_err-read_struct-in-Pointer.ensures.1 in
    rw (p.1, p.2, c.in-Pointer.is, c.in-Struct.is) (λ s h.
    let q = c.in-Pointer.place in
    let all = (layout_at (layouts (structs_of c.args.code.prog.now.types)) c.in-Struct.number).cells in
    cells-stop c.in_err-read_struct-in-Pointer.field-0.0 (read_cells s.world.store (object_of q.object) q.offset all) s (checked (read_cells s.world.store (object_of q.object) q.offset all) s) refl
    (subst (λ cs. ReadsCells (Err c.in_err-read_struct-in-Pointer.field-0.0) (read_cells s.world.store (object_of q.object) q.offset cs)) c.cells_of-cells.ensures
    (c.in_err-read_struct-in-Pointer.ensures c.args.machine.now.activations s.world.store h.held)))
