use Rattle.std.proofs.lemmas.Result.{err_from_is_err_and}
use Rattle.im_typed.specs.Meaning.{served}
use Rattle.im_eval_machine.specs.Shown.{number_shown}
use Rattle.im_eval_machine.proofs.Steps.{then-charged, stop-charged}
use Rattle.im_eval_machine.proofs.streams.serve.Goals as goal

pub returns-in_err-pay : goal.returns-in_err-pay
returns-in_err-pay c =
    let p = err_from_is_err_and c.from_residual.result c.from_residual.ensures.1 in
    rw (p.1, p.2) (stop-charged number_shown c.in_err-pay.field-0.0 c.args.machine.now c.pay.new.machine (served c.args.capacity c.args.service c.args.argument.value) c.in_err-pay.ensures.step)

pub returns : goal.returns
returns c =
    then-charged number_shown c.work.result c.args.machine.now c.pay.new.machine c.work.new.machine (served c.args.capacity c.args.service c.args.argument.value) c.in_ok-pay.ensures.step c.work.ensures
