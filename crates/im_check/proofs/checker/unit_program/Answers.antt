use Rattle.std.proofs.lemmas.Result.{err_from_is_err_and}
use Rattle.im_check.proofs.Answering.{checked, few_parameters, parameters_stop, statics_stop}
use Rattle.im_check.proofs.checker.unit_program.Goals as goal

pub returns-in_err-are_few : goal.returns-in_err-are_few
returns-in_err-are_few c u written parts same =
    let p = err_from_is_err_and c.from_residual.result c.from_residual.ensures.1 in
    rw (p.1, p.2) (parameters_stop parts same _ c.in_err-are_few.ensures)

pub returns-in_err-are_small : goal.returns-in_err-are_small
returns-in_err-are_small c u written parts same =
    let p = err_from_is_err_and c.from_residual-in_err-are_small.result c.from_residual-in_err-are_small.ensures.1 in
    rw (p.1, p.2) (statics_stop parts c.in_ok-prog.prog _ c.in_ok-prog.ensures c.in_err-are_small.ensures)

pub returns : goal.returns
returns c u written parts same =
    checked c.more_structs_law.ensures.statements c.more_structs_law.ensures.objects c.units_law.ensures parts c.in_ok-prog.prog c.in_ok-prog.ensures written (few_parameters parts same c.in_ok-are_few.ensures) c.in_ok-are_small.ensures
