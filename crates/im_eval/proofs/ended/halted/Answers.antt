use Rattle.im_eval.proofs.EndingTelling.{exhausted-is}
use Rattle.im_eval.proofs.ended.halted.Goals as goal

pub returns-in-StackExhausted : goal.returns-in-StackExhausted
returns-in-StackExhausted c =
    exhausted-is c.args.code c.args.machine c.args.why c.in-StackExhausted.is c.end_of.result c.end_of.ensures
