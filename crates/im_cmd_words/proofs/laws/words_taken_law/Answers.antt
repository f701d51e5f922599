use Rattle.std.proofs.Common.{refl}
use Rattle.clap.proofs.OnLiterals.{clap_on_literals}
use Rattle.im_cmd_words.proofs.laws.words_taken_law.Goals as goal

pub returns-clause-build : goal.returns-clause-build
unfolding clap_on_literals
returns-clause-build c = refl

pub returns-clause-run : goal.returns-clause-run
unfolding clap_on_literals
returns-clause-run c = refl

pub returns-clause-exec : goal.returns-clause-exec
unfolding clap_on_literals
returns-clause-exec c = refl

pub returns-clause-dump : goal.returns-clause-dump
unfolding clap_on_literals
returns-clause-dump c = refl

pub returns-clause-upgrade : goal.returns-clause-upgrade
unfolding clap_on_literals
returns-clause-upgrade c = refl

pub returns-clause-numbers : goal.returns-clause-numbers
unfolding clap_on_literals
returns-clause-numbers c = refl

pub returns-clause-report : goal.returns-clause-report
unfolding clap_on_literals
returns-clause-report c = refl

pub returns-clause-eval : goal.returns-clause-eval
unfolding clap_on_literals
returns-clause-eval c = refl

pub returns-clause-gap : goal.returns-clause-gap
unfolding clap_on_literals
returns-clause-gap c = refl

pub returns-clause-made : goal.returns-clause-made
unfolding clap_on_literals
returns-clause-made c = refl

pub returns-clause-save : goal.returns-clause-save
unfolding clap_on_literals
returns-clause-save c = refl

pub returns-clause-resume : goal.returns-clause-resume
unfolding clap_on_literals
returns-clause-resume c = refl

pub returns-clause-check : goal.returns-clause-check
unfolding clap_on_literals
returns-clause-check c = refl
