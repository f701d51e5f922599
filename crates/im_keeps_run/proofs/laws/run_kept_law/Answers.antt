use Rattle.im_keeps_run.proofs.Kept.{run_kept}
use Rattle.im_keeps_run.proofs.laws.run_kept_law.Goals as goal

pub returns : goal.returns
returns c = run_kept
