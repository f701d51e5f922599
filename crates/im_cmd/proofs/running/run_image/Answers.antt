use Rattle.im_cmd_lines.specs.Refusals.{refused_of}
use Rattle.im_cmd_words.specs.Named.{options_meaning}
use Rattle.im_cmd.proofs.Stages.{ran, save_refused, variables_starved}
use Rattle.im_cmd.proofs.running.run_image.Goals as goal

pub returns-in-Ok-save_memory : goal.returns-in-Ok-save_memory
returns-in-Ok-save_memory g c = ran _ _ (options_meaning c.args.options) _ _ _ _ _ c.in-Ok.ensures c.in-Ok-shown_variables.ensures c.in-Ok-save_memory.ensures

pub returns-in-Err-OutOfMemory : goal.returns-in-Err-OutOfMemory
returns-in-Err-OutOfMemory g c = variables_starved _ _ _ (options_meaning c.args.options) _ _ _ c.in-Ok.ensures

pub returns : goal.returns
returns g c = save_refused _ _ _ (options_meaning c.args.options) _ _ _ _ c.in-Ok.ensures (refused_of c.in-Err-save_memory.refusal) c.in-Err-save_memory.ensures
