use Rattle.std.proofs.Common.{refl}
use Rattle.clap.proofs.OnLiterals.{clap_on_literals}
use Rattle.im_cmd_words.proofs.laws.words_refused_law.Goals as goal

pub returns-clause-few : goal.returns-clause-few
unfolding clap_on_literals
returns-clause-few c = refl

pub returns-clause-many : goal.returns-clause-many
unfolding clap_on_literals
returns-clause-many c = refl

pub returns-clause-help : goal.returns-clause-help
unfolding clap_on_literals
returns-clause-help c = refl

pub returns-clause-option : goal.returns-clause-option
unfolding clap_on_literals
returns-clause-option c = refl

pub returns-clause-range : goal.returns-clause-range
unfolding clap_on_literals
returns-clause-range c = refl

pub returns-clause-fuel : goal.returns-clause-fuel
unfolding clap_on_literals
returns-clause-fuel c = refl

pub returns-clause-sign : goal.returns-clause-sign
unfolding clap_on_literals
returns-clause-sign c = refl

pub returns-clause-zero : goal.returns-clause-zero
unfolding clap_on_literals
returns-clause-zero c = refl

pub returns-clause-stack : goal.returns-clause-stack
unfolding clap_on_literals
returns-clause-stack c = refl

pub returns-clause-output : goal.returns-clause-output
unfolding clap_on_literals
returns-clause-output c = refl

pub returns-clause-short : goal.returns-clause-short
unfolding clap_on_literals
returns-clause-short c = refl

pub returns-clause-long : goal.returns-clause-long
unfolding clap_on_literals
returns-clause-long c = refl

pub returns-clause-other : goal.returns-clause-other
unfolding clap_on_literals
returns-clause-other c = refl

pub returns-clause-none : goal.returns-clause-none
unfolding clap_on_literals
returns-clause-none c = refl

pub returns-clause-over : goal.returns-clause-over
unfolding clap_on_literals
returns-clause-over c = refl

pub returns-clause-plus : goal.returns-clause-plus
unfolding clap_on_literals
returns-clause-plus c = refl

pub returns-clause-padded : goal.returns-clause-padded
unfolding clap_on_literals
returns-clause-padded c = refl

pub returns-clause-resume : goal.returns-clause-resume
unfolding clap_on_literals
returns-clause-resume c = refl

pub returns-clause-save : goal.returns-clause-save
unfolding clap_on_literals
returns-clause-save c = refl

pub returns-clause-unnamed : goal.returns-clause-unnamed
unfolding clap_on_literals
returns-clause-unnamed c = refl

pub returns-clause-check : goal.returns-clause-check
unfolding clap_on_literals
returns-clause-check c = refl
