use Rattle.std.proofs.Common.{sym}
use Rattle.std.proofs.lemmas.Result.{err_from_is_err_and}
use Rattle.im_check_type_specifiers.specs.Specified.{qualified_of}
use Rattle.im_check_locals.proofs.Locals.{undeclared, object_refused, object_over, local_no_rule, local_made}
use Rattle.im_check_locals.proofs.objects.local.Goals as goal

pub returns-in_err-written : goal.returns-in_err-written
returns-in_err-written c =
    let p = err_from_is_err_and c.from_residual.result c.from_residual.ensures.1 in
    rw (p.1, p.2) (undeclared (qualified_of c.args.q) c.args.body.now c.args.x.now _ c.in_err-written.ensures)

pub returns-in_err-object : goal.returns-in_err-object
returns-in_err-object c =
    let p = err_from_is_err_and c.from_residual-in_err-object.result c.from_residual-in_err-object.ensures.1 in
    rw (p.1, p.2) (object_refused c.args.x.now _ c.in_ok-written.ensures.0 c.in_ok-written.ensures.1 c.in_err-object.ensures)

pub returns-in_err-all_fit : goal.returns-in_err-all_fit
returns-in_err-all_fit c =
    let p = err_from_is_err_and c.from_residual-in_err-all_fit.result c.from_residual-in_err-all_fit.ensures.1 in
    rw (p.1, p.2) (object_over c.args.x.now c.table.result.now _ c.in_ok-written.ensures.0 c.in_ok-written.ensures.1 (c.in_ok-object.ensures 0).1 c.table.ensures c.in_err-all_fit.ensures)

pub returns-in_err-number : goal.returns-in_err-number
returns-in_err-number c =
    let p = err_from_is_err_and c.from_residual-in_err-number.result c.from_residual-in_err-number.ensures.1 in
    rw (p.1, p.2) (local_no_rule (qualified_of c.args.q) c.args.body.now c.args.x.now _ c.in_err-number.ensures)

pub returns : goal.returns
returns c =
    local_made _ c.begun.result (record {
      declares = c.in_ok-written.ensures.0;
      past = c.in_ok-written.ensures.1;
      meets = λ m. (c.in_ok-object.ensures m).0;
      is = (c.in_ok-object.ensures 0).1;
      kept = c.in_ok-number.ensures;
      within = c.in_ok-written.ensures.2;
      sizes = rw (sym c.table.ensures) c.in_ok-all_fit.ensures;
    }) c.begun.ensures
