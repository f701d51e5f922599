use Rattle.im_lower_relation.proofs.Programs.{program-runs}
use Rattle.im_lower_relation.proofs.laws.lower_keeps_law.Goals as goal

pub returns : goal.returns
returns c = λ g u typed is input fuel bytes defined. program-runs g u input typed is fuel bytes defined
