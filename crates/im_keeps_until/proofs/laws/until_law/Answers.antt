use Rattle.im_keeps_until.proofs.Always.{always}
use Rattle.im_keeps_until.proofs.Ended.{ended}
use Rattle.im_keeps_until.proofs.laws.until_law.Goals as goal

pub returns : goal.returns
returns c = record { always = always; ended = ended }
