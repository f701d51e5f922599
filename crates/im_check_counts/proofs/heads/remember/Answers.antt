use Rattle.im_ctree.specs.Shape.{declarator_of}
use Rattle.im_rules_limits.specs.Limits.{head_in}
use Rattle.im_check_counts.proofs.Declarators.{pushed}
use Rattle.im_check_counts.proofs.heads.remember.Goals as goal

pub returns : goal.returns
returns c = pushed _ _ c.in_ok-one.one (head_in (declarator_of c.args.d.now)) c.in_ok-push.ensures.items c.in_ok-one.ensures
