use Rattle.std.proofs.Common.{◌≡◌, ◌+◌, length}
use Rattle.im_trial_machine.specs.Numbered.{AreNumbered}
use Rattle.im_trial_machine.proofs.parts.lines_between.Given as goal

abbrev pub invariant-loop-i : goal.invariant-loop-i
invariant-loop-i l = record {
  numbered : AreNumbered l.first l.lines.items;
  count : l.first + length l.lines.items ≡ l.i;
}
