use Rattle.std.proofs.Common.{◌≡◌, ◌-◌, suc, arith}
use Rattle.im_eval_machine.proofs.Steps.{paid}
use Rattle.im_eval_machine.proofs.machine.pay.Goals as goal

pub returns-clause-step : goal.returns-clause-step
returns-clause-step c =
    let some = c.if-machine-eq0.false in
    let e : c.args.machine.now.fuel ≡ suc (c.args.machine.now.fuel - 1) = omega arith in
    paid tt c.args.machine.now (c.args.machine.now.fuel - 1) e
