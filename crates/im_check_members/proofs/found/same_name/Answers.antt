use Rattle.im_check_members.proofs.Named.{told_same}
use Rattle.im_check_members.proofs.found.same_name.Goals as goal

pub returns : goal.returns
returns c = told_same _ _ _ c.is_equal.ensures
