use Rattle.std.proofs.lemmas.Result.{err_from_is_err_and}
use Rattle.im_ctype.specs.Table.{structs_of}
use Rattle.im_check_type_specifiers.specs.Specified.{qualified_of}
use Rattle.im_check_declarators.proofs.Steps.{array_made, array_refused, array_too_large}
use Rattle.im_check_declarators.proofs.suffixes.array.Goals as goal

pub returns-in_err-count : goal.returns-in_err-count
returns-in_err-count c =
    let p = err_from_is_err_and c.from_residual.result c.from_residual.ensures.1 in
    rw (p.1, p.2) (λ k known. array_refused k (qualified_of c.args.q) c.args.value c.args.at _ (c.in_err-count.ensures k c.args.q.constant known))

pub returns-in_err-fits : goal.returns-in_err-fits
returns-in_err-fits c =
    let p = err_from_is_err_and c.from_residual-in_err-fits.result c.from_residual-in_err-fits.ensures.1 in
    rw (p.1, p.2) (λ k known. array_too_large k (structs_of c.args.table.now) (qualified_of c.args.q) c.args.value c.in_ok-count.count _ c.args.at _ known (c.in_ok-count.ensures k c.args.q.constant known) c.in_ok-ty.ensures c.in_ok-is_within.ensures c.in_err-fits.ensures)

pub returns : goal.returns
returns c = λ k known.
    array_made k (structs_of c.args.table.now) (qualified_of c.args.q) c.args.value c.in_ok-count.count _ known (c.in_ok-count.ensures k c.args.q.constant known) c.in_ok-ty.ensures c.in_ok-fits.ensures
