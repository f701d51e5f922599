use Rattle.im_compile_dependences.proofs.Recutting.{recut}
use Rattle.im_compile_dependences.proofs.laws.recut_names_law.Goals as goal

pub returns : goal.returns
returns c = recut
