use Rattle.im_print_relation.proofs.Units.{spelled_again}
use Rattle.im_print_relation.proofs.laws.spelled_again_law.Goals as goal

pub returns : goal.returns
returns c = λ tree words spells fit. spelled_again tree words spells fit
