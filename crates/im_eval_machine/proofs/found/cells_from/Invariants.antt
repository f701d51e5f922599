use Rattle.std.proofs.Common.{◌≡◌, ◌≤◌, ◌-◌, ◌+◌, ◌++◌, take, drop, length}
use Rattle.im_eval_machine.specs.Shown.{shown_all, values}
use Rattle.im_eval_machine.proofs.found.cells_from.Given as goal

abbrev pub invariant-copy : goal.invariant-copy
invariant-copy l =
    (length l.part.items ≤ l.count)
    × (take l.count (drop l.from (values l.found)) ≡ shown_all l.part.items ++ take (l.count - length l.part.items) (drop (l.from + length l.part.items) (values l.found)))

abbrev pub decreases-copy : goal.decreases-copy
decreases-copy l = l.count - length l.part.items
