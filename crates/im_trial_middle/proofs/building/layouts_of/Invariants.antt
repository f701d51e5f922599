use Rattle.std.proofs.Common.{◌≡◌, length}
use Rattle.im_trial_middle.proofs.Laid.{Laid}
use Rattle.im_trial_middle.proofs.building.layouts_of.Given as goal

abbrev pub invariant-loop-number : goal.invariant-loop-number
invariant-loop-number l = record {
  count : length l.layouts.items ≡ l.number;
  laid : Laid l.functions l.layouts.items;
}
