use Rattle.im_cmd_words.proofs.OptionLemmas.{exec_options, run_options}
use Rattle.im_cmd_words.proofs.laws.options_law.Goals as goal

pub returns-clause-exec : goal.returns-clause-exec
returns-clause-exec c = exec_options

pub returns-clause-run : goal.returns-clause-run
returns-clause-run c = run_options
