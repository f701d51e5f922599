use Rattle.std.proofs.lemmas.Result.{err_from_is_err_and}
use Rattle.im_eval_store.specs.Shown.{shown}
use Rattle.im_eval_steps.proofs.Changing.{changed-to, no-number}
use Rattle.im_eval_steps.proofs.change.change_to.Goals as goal

pub returns-in_err-by-clause-step : goal.returns-in_err-by-clause-step
returns-in_err-by-clause-step c =
    let p = err_from_is_err_and c.from_residual.result c.from_residual.ensures.1 in
    rw (p.1, p.2) (no-number c.args.change (shown c.args.before) (shown c.args.place) (shown c.args.value) c.args.machine.now c.args.machine.now c.in_err-by.field-0.0 c.in_err-by.ensures)

pub returns-clause-step : goal.returns-clause-step
returns-clause-step c =
    changed-to c.args.change (shown c.args.before) (shown c.args.place) (shown c.args.value) c.args.machine.now c.change_by.new.machine c.in_ok-by.by.value c.change_by.result c.in_ok-by.ensures c.change_by.ensures.step
