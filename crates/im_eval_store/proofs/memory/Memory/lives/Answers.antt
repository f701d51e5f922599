use Rattle.std.proofs.Common.{◌∙◌}
use Rattle.im_eval_store.proofs.Finding.{lives-at}
use Rattle.im_eval_store.proofs.memory.Memory.lives.Goals as goal

pub returns : goal.returns
returns c = λ last store h.
    c.is_some.ensures ∙ lives-at last c.args.self.now.activations.items store c.args.place.object c.position.result h (c.position.ensures.found last h.ordered)
