use Rattle.im_rules_sound.proofs.Members.{place-sound}
use Rattle.im_rules_sound.proofs.laws.members_law.Goals as goal

pub returns : goal.returns
returns c = λ g f known k n p x complete h has small. place-sound g f known complete n x p h has small
