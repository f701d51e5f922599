use Rattle.std.proofs.Common.{ap, subst, Err}
use Rattle.im_typed.specs.Meaning.{value_of}
use Rattle.im_typed.specs.Runs.{goes_on}
use Rattle.im_eval_machine.specs.Settings.{setting_of}
use Rattle.im_eval_machine.specs.Shown.{one}
use Rattle.im_eval_tasks.specs.Stack.{Valued, in_activation}
use Rattle.im_eval_tasks.specs.Tasks.{expr_in}
use Rattle.im_eval_steps.specs.Seen.{Sees}
use Rattle.im_eval_steps.specs.Going.{follows, types_of}
use Rattle.im_eval.proofs.at_once.value_ahead.Goals as goal

pub returns-in-Ok-clause-ahead : goal.returns-in-Ok-clause-ahead
returns-in-Ok-clause-ahead c = λ code n ts s i.
    ap (λ r. goes_on r (λ vs. follows code n c.args.here ts (Valued vs)))
    (c.in-Ok.ensures (types_of code) (setting_of code) n c.args.machine.now.activations s i.held)

pub returns-in-Err-Undefined-clause-ahead : goal.returns-in-Err-Undefined-clause-ahead
returns-in-Err-Undefined-clause-ahead c = λ code n ts s i.
    let here = c.args.here in
    ap (λ r. goes_on r (λ vs. follows code n here ts (Valued vs)))
    (subst (λ w. Sees one (Err w) s (value_of (in_activation (types_of code) (setting_of code) n here) (expr_in (types_of code) c.args.expr) s)) c.in-Err-Undefined.field-0-is
    (c.in-Err-Undefined.ensures (types_of code) (setting_of code) n c.args.machine.now.activations s i.held))
