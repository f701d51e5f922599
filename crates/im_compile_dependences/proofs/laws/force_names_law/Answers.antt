use Rattle.im_compile_dependences.proofs.Forcing.{forced}
use Rattle.im_compile_dependences.proofs.laws.force_names_law.Goals as goal

pub returns : goal.returns
returns c = forced
