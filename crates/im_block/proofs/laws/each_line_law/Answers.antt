use Rattle.im_block.proofs.Cost.{each_once}
use Rattle.im_block.proofs.laws.each_line_law.Goals as goal

pub returns : goal.returns
returns c = each_once
