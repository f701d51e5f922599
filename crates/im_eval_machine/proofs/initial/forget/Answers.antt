use Rattle.std.proofs.Common.{subst}
use Rattle.im_eval_store.specs.Living.{Holds}
use Rattle.im_typed.specs.Meaning.{forgotten}
use Rattle.im_eval_machine.specs.Activations.{local_in}
use Rattle.im_eval_machine.proofs.Stores.{restored}
use Rattle.im_eval_machine.proofs.initial.forget.Goals as goal

pub returns : goal.returns
returns c =
    restored tt c.args.machine.now c.forget.new.self (forgotten (local_in c.args.here c.args.local))
    (λ last store h. subst (λ q. Holds c.forget.new.self last (forgotten q store)) c.local.ensures (c.forget.ensures last store h))
