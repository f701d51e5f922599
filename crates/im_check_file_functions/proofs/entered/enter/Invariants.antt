use Rattle.im_check_file_functions.proofs.Entering.{EnteredTo}
use Rattle.im_check_file_functions.proofs.entered.enter.Given as goal

abbrev pub invariant-loop-i : goal.invariant-loop-i
invariant-loop-i l = EnteredTo l.fn.place l.written l.formals l.i l.place
