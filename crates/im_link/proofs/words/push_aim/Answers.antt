use Rattle.std.proofs.Common.{refl}
use Rattle.im_link.proofs.Keeping.{adds_aim}
use Rattle.im_link.proofs.words.push_aim.Goals as goal

pub returns : goal.returns
returns c = adds_aim c.args.at c.args.instr c.in-Some.label c.args.target _ _ _ c.in-Some.is c.in_ok-push.ensures.items refl refl refl
