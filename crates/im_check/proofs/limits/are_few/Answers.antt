use Rattle.im_check_counts.specs.Heads.{heads_in}
use Rattle.im_check_scopes.specs.Shape.{scopes_of}
use Rattle.im_check.proofs.Answering.{told}
use Rattle.im_check.proofs.limits.are_few.Goals as goal

pub returns-in-None : goal.returns-in-None
returns-in-None c = rw c.in-None.is at c.in_ok-first_crowded.ensures

pub returns-in-Some : goal.returns-in-Some
returns-in-Some c =
    told (scopes_of c.args.scope.now) (heads_in c.args.heads.now) c.in-Some.function c.crowded.result (rw c.in-Some.is at c.in_ok-first_crowded.ensures) c.crowded.ensures
