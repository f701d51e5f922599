use Rattle.im_print_relation.proofs.Needed.{needed}
use Rattle.im_print_relation.proofs.laws.needed_parentheses_law.Goals as goal

pub returns : goal.returns
returns c = λ names p q n expression again words derives fit less binds same. needed names p q n expression again words derives fit less binds same
