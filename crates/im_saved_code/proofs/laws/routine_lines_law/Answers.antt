use Rattle.im_saved_code.proofs.Routines.{routine_lines}
use Rattle.im_saved_code.proofs.laws.routine_lines_law.Goals as goal

pub returns : goal.returns
returns c = routine_lines
