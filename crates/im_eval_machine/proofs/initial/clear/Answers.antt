use Rattle.std.proofs.Common.{subst}
use Rattle.im_eval_store.specs.Living.{Holds}
use Rattle.im_eval_store.specs.Shown.{object_of}
use Rattle.im_typed.specs.Meaning.{cleared}
use Rattle.im_eval_machine.specs.Activations.{local_in}
use Rattle.im_eval_machine.proofs.Stores.{restored, cleared-held}
use Rattle.im_eval_machine.proofs.initial.clear.Goals as goal

pub returns : goal.returns
returns c =
    restored tt c.args.machine.now c.clear.new.self (cleared c.args.given.now (local_in c.args.here c.args.local))
    (λ last store h. subst (λ q. Holds c.clear.new.self last (cleared c.args.given.now q store)) c.local.ensures
    (cleared-held c.clear.new.self last c.args.given.now (object_of c.local.result) store (c.clear.ensures last store h)))
