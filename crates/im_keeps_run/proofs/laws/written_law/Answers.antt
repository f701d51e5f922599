use Rattle.im_keeps_run.proofs.Loading.{all}
use Rattle.im_keeps_run.proofs.laws.written_law.Goals as goal

pub returns : goal.returns
returns c = all c.loaded_law.ensures c.boot_law.ensures
