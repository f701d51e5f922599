use Rattle.std.proofs.Common.{◌≡◌, ◌++◌, drop}
use Rattle.im_eval_machine.specs.Initials.{offsets_from}
use Rattle.im_eval_machine.proofs.initial.push_offsets.Given as goal

abbrev pub invariant-loop-cell : goal.invariant-loop-cell
invariant-loop-cell l =
    l.given.items ++ offsets_from l.by (drop l.cell-index l.cells) ≡ l.initial.given.items ++ offsets_from l.by l.cells
