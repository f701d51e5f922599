use Rattle.std.proofs.Common.{subst}
use Rattle.im_typed.specs.Runs.{checked, goes_on}
use Rattle.im_typed.specs.Values.{number_of, used}
use Rattle.im_eval_machine.specs.Shown.{one}
use Rattle.im_eval_steps.specs.Seen.{Sees, whole_of}
use Rattle.im_eval_steps.proofs.Seeing.{unseen}
use Rattle.im_eval_steps.proofs.operators.convert.Goals as goal

pub returns-in-Err : goal.returns-in-Err
returns-in-Err c = λ last s r h e.
    let read = goes_on (goes_on r used) (λ v. checked (number_of v)) in
    unseen whole_of one c.in-Err.why s read _ (subst (λ x. Sees whole_of x s read) c.in-Err.is (c.number.ensures last s r h e))
