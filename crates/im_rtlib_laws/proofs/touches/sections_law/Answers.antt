use Rattle.im_rtlib_laws.proofs.Sections.{sections_law}
use Rattle.im_rtlib_laws.proofs.touches.sections_law.Goals as goal

pub returns : goal.returns
returns c = sections_law
