use Rattle.std.proofs.Common.{◌≡◌, ◌++◌}
use Rattle.im_gap.specs.Table.{behind}
use Rattle.im_gap.proofs.table.push_behind.Given as goal

abbrev pub invariant-loop-i : goal.invariant-loop-i
invariant-loop-i l = l.targets.items ≡ l.fn.targets.items ++ behind l.register l.words l.i
