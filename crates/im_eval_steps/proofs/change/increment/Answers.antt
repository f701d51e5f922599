use Rattle.std.proofs.Common.{Ok}
use Rattle.std.proofs.lemmas.Result.{err_from_is_err_and}
use Rattle.im_eval_store.specs.Shown.{shown}
use Rattle.im_eval_steps.proofs.Changing.{stepped-new, stepped-old, unread, unstepped}
use Rattle.im_eval_steps.proofs.change.increment.Goals as goal

pub returns-in_err-before-clause-step : goal.returns-in_err-before-clause-step
returns-in_err-before-clause-step c =
    let p = err_from_is_err_and c.from_residual.result c.from_residual.ensures.1 in
    rw (p.1, p.2) (unread c.args.change (shown c.args.place) c.args.machine.now c.args.old c.in_err-before.field-0.0 c.in_err-before.ensures.look)

pub returns-in_err-after-clause-step : goal.returns-in_err-after-clause-step
returns-in_err-after-clause-step c =
    let p = err_from_is_err_and c.from_residual-in_err-after.result c.from_residual-in_err-after.ensures.1 in
    rw (p.1, p.2) (unstepped c.args.change (shown c.args.place) c.args.machine.now c.change_by.new.machine c.in_ok-before.before c.in_ok-before.ensures.look c.args.old c.in_err-after.field-0.0 c.in_err-after.ensures.step)

pub returns-then-old-clause-step : goal.returns-then-old-clause-step
returns-then-old-clause-step c =
    rw c.if-old.true
    (stepped-old c.args.change (shown c.args.place) c.args.machine.now c.change_by.new.machine c.in_ok-before.before c.in_ok-before.ensures.look c.in_ok-after.after c.in_ok-after.ensures.step)

pub returns-else-old-clause-step : goal.returns-else-old-clause-step
returns-else-old-clause-step c =
    rw c.if-old.false
    (stepped-new c.args.change (shown c.args.place) c.args.machine.now c.change_by.new.machine c.in_ok-before.before c.in_ok-before.ensures.look (Ok c.in_ok-after.after) c.in_ok-after.ensures.step)
