use Rattle.std.proofs.lemmas.Result.{err_from_is_err_and}
use Rattle.std.proofs.lemmas.List.{drop_all}
use Rattle.im_ctype.specs.Table.{structs_of}
use Rattle.im_check_file_specifiers.proofs.Constants.{next}
use Rattle.im_check_file_specifiers.proofs.MemberSizes.{fits_none, fits_more, fits_all, member_over}
use Rattle.im_check_file_specifiers.proofs.sizes.members_fit.Goals as goal

pub loop-field-init : goal.loop-field-init
loop-field-init c = fits_none (structs_of c.args.table.now) c.args.fields.now

pub loop-field-preserved : goal.loop-field-preserved
loop-field-preserved c =
    let at = next c.args.fields.now c.loop-field.field-index c.field-item.result c.loop-field-test.true c.field-item.is in
    fits_more at c.loop-field.invariant c.in_ok-all_fit.ensures

pub returns-in_err-all_fit : goal.returns-in_err-all_fit
returns-in_err-all_fit c =
    let p = err_from_is_err_and c.from_residual.result c.from_residual.ensures.1 in
    let at = next c.args.fields.now c.loop-field.field-index c.field-item.result c.loop-field-test.true c.field-item.is in
    rw (p.1, p.2) (member_over _ at c.loop-field.invariant c.in_err-all_fit.ensures)

pub returns : goal.returns
returns c = fits_all (drop_all c.loop-field.field-index c.args.fields.now c.loop-field-test.false) c.loop-field.invariant
