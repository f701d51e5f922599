use Rattle.im_rules_sound.proofs.Operations.{operations}
use Rattle.im_rules_sound.proofs.laws.operations_law.Goals as goal

pub returns : goal.returns
returns c = λ g f known op x y hx hy mx my e. operations g f known op x y hx hy mx my e
