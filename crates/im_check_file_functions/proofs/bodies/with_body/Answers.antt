use Rattle.std.proofs.Common.{sym, ◌∙◌}
use Rattle.std.proofs.lemmas.Result.{err_from_is_err_and}
use Rattle.im_ctree.specs.Shape.{block_items_of}
use Rattle.im_check_declarators.specs.Shape.{declared_of}
use Rattle.im_check_file_functions.proofs.Ending.{function_done, inside_fault}
use Rattle.im_check_file_functions.proofs.bodies.with_body.Goals as goal

pub returns-in_err-body : goal.returns-in_err-body
returns-in_err-body c =
    let p = err_from_is_err_and c.from_residual-in_err-body.result c.from_residual-in_err-body.ensures.1 in
    rw (p.1, p.2) (inside_fault (declared_of c.args.y.now) (block_items_of c.args.items.now) _ c.in_ok-ty.ensures c.in_ok-inside.ensures c.in_err-body.ensures)

pub returns : goal.returns
returns c =
    let complete = rw (c.deref.ensures.value, c.count-2.ensures) at (sym c.are_complete.ensures ∙ c.if-not-are_complete.false) in
    function_done _ c.in_ok-name.name c.in_ok-params.params c.result_kind-result.result _ c.in_ok-name.ensures c.in_ok-params.ensures c.in_ok-ty.ensures c.result_kind-result.ensures c.in_ok-inside.ensures c.in_ok-body.ensures (rw c.mark-mark.ensures at c.ended-objects.ensures.place) c.ended-objects.ensures.objects complete
