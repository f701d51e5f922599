use Rattle.im_eval.proofs.at_once.hasten_now.Goals as goal

pub returns-in-Evaluate-clause-goes : goal.returns-in-Evaluate-clause-goes
returns-in-Evaluate-clause-goes c = rw c.in-Evaluate.is (λ n ts s i. c.evaluate.ensures.goes n ts s i)
