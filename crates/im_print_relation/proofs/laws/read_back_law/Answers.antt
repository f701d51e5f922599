use Rattle.im_print_relation.proofs.Texts.{read_as}
use Rattle.im_print_relation.proofs.laws.read_back_law.Goals as goal

pub returns : goal.returns
returns c = λ words fit. read_as words fit
