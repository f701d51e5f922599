use Rattle.im_cmd_words.specs.Named.{evaluation_meaning}
use Rattle.im_cmd_lines.specs.Refusals.{refused_of}
use Rattle.im_cmd.specs.Evaluations.{eval_uncompiled, eval_no_input}
use Rattle.im_cmd.proofs.Evaluations.{evaluation_done, evaluation_starved}
use Rattle.im_cmd.proofs.evaluating.evaluate.Goals as goal

pub returns-in-Err : goal.returns-in-Err
returns-in-Err g c = eval_uncompiled (refused_of c.in-Err.refusal) c.in-Err.ensures

pub returns-in-Err-take_input : goal.returns-in-Err-take_input
returns-in-Err-take_input g c = eval_no_input c.in-Ok.whole.built _ (refused_of c.in-Err-take_input.refusal) c.in-Ok.ensures.compiles c.in-Err-take_input.ensures

pub returns-in-Ok-outcome_of : goal.returns-in-Ok-outcome_of
returns-in-Ok-outcome_of g c = evaluation_done _ _ (evaluation_meaning c.args.options) c.in-Ok.whole.prog c.in-Ok.whole.built _ _ _ _ _ c.in-Ok.ensures c.in-Ok-take_input.ensures (rw c.deref.ensures.value at c.in-Ok-outcome_of.ensures)

pub returns : goal.returns
returns g c = evaluation_starved _ _ (evaluation_meaning c.args.options) c.in-Ok.whole.prog c.in-Ok.whole.built _ _ _ _ c.in-Ok.ensures c.in-Ok-take_input.ensures
