use Rattle.std.proofs.Common.{drop}
use Rattle.im_ctree_parts.specs.Lists.{stars_in}
use Rattle.im_check_type_specifiers.specs.Specified.{qualified_of}
use Rattle.im_check_declarators.proofs.Reached.{StarsReached}
use Rattle.im_check_declarators.proofs.stars.with_stars.Given as goal

abbrev pub invariant-loop-star : goal.invariant-loop-star
invariant-loop-star l = StarsReached (qualified_of l.fn.q) (stars_in l.stars) (qualified_of l.behind) (stars_in (drop l.star-index l.stars))
