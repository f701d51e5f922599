use Rattle.im_rules_sound.proofs.Assigns.{assigns, steps}
use Rattle.im_rules_sound.proofs.laws.assigns_law.Goals as goal

pub returns-clause-assigns : goal.returns-clause-assigns
returns-clause-assigns c = λ g f known op x y h hy moves e. assigns g f known op x y h hy moves e

pub returns-clause-steps : goal.returns-clause-steps
returns-clause-steps c = λ g f known op old x h moves e. steps g f known op old x h moves e
