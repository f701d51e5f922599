use Rattle.im_compile_dependences.proofs.Uncut.{uncut}
use Rattle.im_compile_dependences.proofs.laws.uncut_names_law.Goals as goal

pub returns : goal.returns
returns c = uncut
