use Rattle.im_check_file_names.proofs.Counted.{told_same}
use Rattle.im_check_file_names.proofs.names.same_name.Goals as goal

pub returns : goal.returns
returns c = told_same _ _ _ c.is_equal.ensures
