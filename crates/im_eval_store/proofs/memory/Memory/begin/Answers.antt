use Rattle.std.proofs.Common.{sym, subst}
use Rattle.im_eval_store.specs.Living.{IsHeld}
use Rattle.im_eval_store.proofs.Lifetimes.{pushed}
use Rattle.im_eval_store.proofs.memory.Memory.begin.Goals as goal

pub returns : goal.returns
returns c = λ last store new h b.
    subst (λ xs. IsHeld xs c.args.activation.number new) (sym c.in_ok-push.ensures.items) (pushed c.args.self.now.activations.items c.args.activation last store new h b)
