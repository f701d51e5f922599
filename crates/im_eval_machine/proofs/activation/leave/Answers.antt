use Rattle.im_eval_machine.proofs.Stores.{left}
use Rattle.im_eval_machine.proofs.activation.leave.Goals as goal

pub returns : goal.returns
returns c = left tt c.args.machine.now c.end.new.self c.args.here.activation c.args.depth c.end.ensures
