use Rattle.im_eval.proofs.Carried.{CarriedIn}
use Rattle.im_eval.proofs.program.finish.Given as goal

abbrev pub invariant-steps : goal.invariant-steps
invariant-steps l = CarriedIn l.code l.fn.run l.fn.first l.run l.now
