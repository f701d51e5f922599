use Rattle.im_saved_code.proofs.Blocks.{function_lines}
use Rattle.im_saved_code.proofs.laws.function_lines_law.Goals as goal

pub returns : goal.returns
returns c = function_lines
