use Rattle.im_keeps_run.proofs.Kept.{end_kept}
use Rattle.im_keeps_run.proofs.laws.end_kept_law.Goals as goal

pub returns : goal.returns
returns c = end_kept
