use Rattle.std.proofs.lemmas.Result.{err_from_is_err_and}
use Rattle.std.proofs.lemmas.List.{drop_all}
use Rattle.im_check_file_specifiers.proofs.Constants.{next}
use Rattle.im_check_file_specifiers.proofs.Members.{fields_none, fields_more, fields_fault, fields_all}
use Rattle.im_check_file_specifiers.proofs.fields.with_fields.Goals as goal

pub loop-d-init : goal.loop-d-init
loop-d-init c = fields_none _ _ _ _

pub loop-d-preserved : goal.loop-d-preserved
loop-d-preserved c =
    let at = next c.args.declarators.now c.loop-d.d-index c.d-item.result c.loop-d-test.true c.d-item.is in
    fields_more _ _ _ at c.loop-d.invariant c.in_ok-with_field.ensures

pub returns-in_err-with_field : goal.returns-in_err-with_field
returns-in_err-with_field c =
    let p = err_from_is_err_and c.from_residual.result c.from_residual.ensures.1 in
    let at = next c.args.declarators.now c.loop-d.d-index c.d-item.result c.loop-d-test.true c.d-item.is in
    rw (p.1, p.2) (fields_fault _ _ _ at c.loop-d.invariant c.in_err-with_field.ensures)

pub returns : goal.returns
returns c = fields_all _ _ (drop_all c.loop-d.d-index c.args.declarators.now c.loop-d-test.false) c.loop-d.invariant
