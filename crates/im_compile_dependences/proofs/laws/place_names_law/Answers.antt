use Rattle.im_compile_dependences.proofs.Placing.{placed}
use Rattle.im_compile_dependences.proofs.laws.place_names_law.Goals as goal

pub returns : goal.returns
returns c = placed
