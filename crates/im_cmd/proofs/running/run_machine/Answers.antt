use Rattle.std.proofs.Common.{sym, ◌∙◌}
use Rattle.im_cmd_lines.specs.Refusals.{refused_of}
use Rattle.im_cmd_words.specs.Named.{options_meaning}
use Rattle.im_cmd.proofs.Stages.{ran_on, run_periods_refused, run_torn, run_unbegun}
use Rattle.im_cmd.proofs.running.run_machine.Goals as goal

pub returns : goal.returns
returns g c =
    ran_on _ _ (options_meaning c.args.options) _ _ _ _ _ _ c.in-Ok.ensures c.in-Ok-read_periods.ensures
    (sym (rw c.output_form.ensures at c.needs_form.ensures) ∙ c.if-needs_form.false) c.run.ensures.device c.run.ensures.image

pub returns-then-needs_form : goal.returns-then-needs_form
returns-then-needs_form g c =
    run_torn _ _ _ (options_meaning c.args.options) _ _ _ _ _ c.in-Ok.ensures c.in-Ok-read_periods.ensures
    (sym (rw c.output_form.ensures at c.needs_form.ensures) ∙ c.if-needs_form.true)

pub returns-in-Err-read_periods : goal.returns-in-Err-read_periods
returns-in-Err-read_periods g c =
    run_periods_refused _ _ _ (options_meaning c.args.options) _ _ _ _ c.in-Ok.ensures (refused_of c.in-Err-read_periods.refusal) c.in-Err-read_periods.ensures

pub returns-in-Err : goal.returns-in-Err
returns-in-Err g c = run_unbegun _ _ _ (options_meaning c.args.options) _ _ (refused_of c.in-Err.refusal) c.in-Err.ensures
