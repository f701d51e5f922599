use Rattle.std.proofs.Common.{sym}
use Rattle.im_typed.specs.Meaning.{value_of}
use Rattle.im_eval_store.specs.Shown.{shown}
use Rattle.im_eval_tasks.specs.Stack.{Valued, continues, in_activation}
use Rattle.im_eval_tasks.specs.Tasks.{expr_in, stores}
use Rattle.im_eval_tasks.proofs.Binds.{assoc}
use Rattle.im_eval_tasks.proofs.store.evaluate_for.Goals as goal

pub returns : goal.returns
returns c = λ types g n here ts s.
    sym (assoc (value_of (in_activation types g n here) (expr_in types c.args.value) s)
    (stores types c.args.access (shown c.args.target)) (λ vs. continues types g n here ts (Valued vs)))
