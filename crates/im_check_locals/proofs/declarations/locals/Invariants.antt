use Rattle.im_check_type_specifiers.specs.Specified.{qualified_of}
use Rattle.im_check_locals.proofs.Reaching.{LocalsReached}
use Rattle.im_check_locals.proofs.declarations.locals.Given as goal

abbrev pub invariant-loop-x : goal.invariant-loop-x
invariant-loop-x l = LocalsReached (qualified_of l.q) l.fn.body l.body l.fn.done.items l.done.items l.declarators l.x-index
