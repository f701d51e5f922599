use Rattle.im_block.proofs.Sections.{no_war}
use Rattle.im_block.proofs.laws.section_law.Goals as goal

pub returns : goal.returns
returns c = no_war
