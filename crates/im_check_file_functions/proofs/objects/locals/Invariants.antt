use Rattle.im_check_file_functions.proofs.Counted.{HaveObjects}
use Rattle.im_check_file_functions.proofs.objects.locals.Given as goal

abbrev pub invariant-loop-formal : goal.invariant-loop-formal
invariant-loop-formal l = HaveObjects l.formals l.formal-index l.done.items
