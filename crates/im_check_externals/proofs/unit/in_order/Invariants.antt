use Rattle.std.proofs.Common.{length}
use Rattle.im_check_externals.proofs.Reached.{Reached}
use Rattle.im_check_externals.proofs.unit.in_order.Given as goal

abbrev pub invariant-loop-x : goal.invariant-loop-x
invariant-loop-x l = Reached l.fn.file l.file l.done l.fn.list.items (length l.yielded)
