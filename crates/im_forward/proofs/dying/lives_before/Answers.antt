use Rattle.std.proofs.Common.{length, get_or, subst}
use Rattle.im_block.specs.declared.code.Exit.{Exit}
use Rattle.im_block.specs.Wellformed.{ExitThere}
use Rattle.im_forward.proofs.dying.lives_before.Goals as goal

pub lives_at-requires : goal.lives_at-requires
lives_at-requires c k d lt = subst (λ (z : Exit). ExitThere (length (get_or c.args.groups.now k d).items) z) c.in-Jump.is (c.requires k d lt)

pub lives_at-requires-in-Turn : goal.lives_at-requires-in-Turn
lives_at-requires-in-Turn c k d lt = subst (λ (z : Exit). ExitThere (length (get_or c.args.groups.now k d).items) z) c.in-Turn.is (c.requires k d lt)

pub lives_at-requires-else-register-on : goal.lives_at-requires-else-register-on
lives_at-requires-else-register-on c k d lt =
    (subst (λ (z : Exit). ExitThere (length (get_or c.args.groups.now k d).items) z) c.in-Branch.is (c.requires k d lt)).0

pub lives_at-requires-else-lives_at : goal.lives_at-requires-else-lives_at
lives_at-requires-else-lives_at c k d lt =
    (subst (λ (z : Exit). ExitThere (length (get_or c.args.groups.now k d).items) z) c.in-Branch.is (c.requires k d lt)).1
