use Rattle.std.proofs.Common.{ap, subst, Err}
use Rattle.im_typed.specs.Meaning.{place_of}
use Rattle.im_typed.specs.Runs.{goes_on}
use Rattle.im_eval_store.specs.Shown.{shown}
use Rattle.im_eval_machine.specs.Settings.{setting_of}
use Rattle.im_eval_tasks.specs.Stack.{Placed, in_activation}
use Rattle.im_eval_tasks.specs.Tasks.{place_in}
use Rattle.im_eval_steps.specs.Seen.{Sees}
use Rattle.im_eval_steps.specs.Going.{follows, types_of}
use Rattle.im_eval.proofs.at_once.place_ahead.Goals as goal

pub returns-in-Ok-clause-ahead : goal.returns-in-Ok-clause-ahead
returns-in-Ok-clause-ahead c = λ code n ts s i.
    ap (λ r. goes_on r (λ v. follows code n c.args.here ts (Placed v)))
    (c.in-Ok.ensures (types_of code) (setting_of code) n c.args.machine.now.activations s i.held)

pub returns-in-Err-Undefined-clause-ahead : goal.returns-in-Err-Undefined-clause-ahead
returns-in-Err-Undefined-clause-ahead c = λ code n ts s i.
    let here = c.args.here in
    ap (λ r. goes_on r (λ v. follows code n here ts (Placed v)))
    (subst (λ w. Sees shown (Err w) s (place_of (in_activation (types_of code) (setting_of code) n here) (place_in (types_of code) c.args.place) s)) c.in-Err-Undefined.field-0-is
    (c.in-Err-Undefined.ensures (types_of code) (setting_of code) n c.args.machine.now.activations s i.held))
