use Rattle.im_lower_relation.proofs.Formed.{formed, all-ordered}
use Rattle.im_lower_relation.proofs.laws.lowered_form_law.Goals as goal

pub returns : goal.returns
returns c = λ g u typed limits is sized. (formed g u typed limits is sized, all-ordered g u typed limits is sized)
