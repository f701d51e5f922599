use Rattle.im_serve.proofs.Rows.{law_of}
use Rattle.im_serve.proofs.laws.services_law.Goals as goal

pub returns : goal.returns
returns c = law_of
