use Rattle.im_check_file_names.proofs.Counted.{none_taken}
use Rattle.im_check_file_names.proofs.bodies.is_none.Goals as goal

pub returns : goal.returns
returns c = none_taken c.args.parameters.now
