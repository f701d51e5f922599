use Rattle.std.proofs.Common.{◌≡◌, ◌++◌}
use Rattle.im_select.specs.Emitted.{others_below, laid_order}
use Rattle.im_select.proofs.order.laid_order.Given as goal

-- what is put and what is left
abbrev pub invariant-loop-number : goal.invariant-loop-number
invariant-loop-number l = l.order.items ++ others_below l.entry l.number ≡ laid_order l.entry l.count
