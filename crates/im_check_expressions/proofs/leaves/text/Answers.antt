use Rattle.std.proofs.lemmas.Result.{err_from_is_err_and}
use Rattle.im_check_expression_parts.proofs.Forms.{string, string_fault}
use Rattle.im_check_expressions.proofs.leaves.text.Goals as goal

pub returns-in_err-text_fits : goal.returns-in_err-text_fits
returns-in_err-text_fits c =
    let p = err_from_is_err_and c.from_residual.result c.from_residual.ensures.1 in
    rw (p.1, p.2) (λ at. string_fault c.args.place.now at _ _ c.in_err-text_fits.ensures.fits)

pub returns : goal.returns
returns c = λ at. string c.args.place.now at _ c.in_ok-term.term (c.in_ok-term.ensures c.args.place.now.structs) c.in_ok-pass_string.ensures.passed c.in_ok-text_fits.ensures.fits
