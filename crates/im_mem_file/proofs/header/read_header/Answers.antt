use Rattle.std.proofs.lemmas.Result.{err_from_is_err_and}
use Rattle.im_mem_file.proofs.Front.{wrong_version, wrong_form, wrong_count, right_header, header_is}
use Rattle.im_mem_file.proofs.header.read_header.Goals as goal

pub returns-in_err-version-clause-wrong : goal.returns-in_err-version-clause-wrong
returns-in_err-version-clause-wrong c =
    let p = err_from_is_err_and c.from_residual.result c.from_residual.ensures.1 in
    rw (p.1, p.2) (wrong_version c.args.bytes.now c.in_err-version.field-0.0 c.in_err-version.ensures.wrong)

pub returns-in_err-form-clause-wrong : goal.returns-in_err-form-clause-wrong
returns-in_err-form-clause-wrong c =
    let p = err_from_is_err_and c.from_residual-in_err-form.result c.from_residual-in_err-form.ensures.1 in
    rw (p.1, p.2) (wrong_form c.args.bytes.now c.in_ok-version.version c.in_err-form.field-0.0 c.in_ok-version.ensures.version c.in_ok-version.ensures.right c.in_err-form.ensures.wrong)

pub returns-in_err-pages-clause-wrong : goal.returns-in_err-pages-clause-wrong
returns-in_err-pages-clause-wrong c =
    let p = err_from_is_err_and c.from_residual-in_err-pages.result c.from_residual-in_err-pages.ensures.1 in
    rw (p.1, p.2) (wrong_count c.args.bytes.now c.in_ok-version.version c.count_place-count_place.result c.in_err-pages.field-0.0 c.in_ok-version.ensures.version c.count_place-count_place.ensures c.in_ok-version.ensures.right c.in_ok-form.ensures.right c.in_err-pages.ensures.wrong)

pub returns-clause-header : goal.returns-clause-header
returns-clause-header c =
    header_is c.args.bytes.now c.in_ok-version.version c.in_ok-form.form c.in_ok-pages.pages c.count_place-count_place.result c.in_ok-version.ensures.version c.in_ok-form.ensures.form c.count_place-count_place.ensures c.in_ok-pages.ensures.count

pub returns-clause-right : goal.returns-clause-right
returns-clause-right c =
    right_header c.args.bytes.now c.in_ok-version.version c.count_place-count_place.result c.in_ok-version.ensures.version c.count_place-count_place.ensures c.in_ok-version.ensures.right c.in_ok-form.ensures.right c.in_ok-pages.ensures.right
