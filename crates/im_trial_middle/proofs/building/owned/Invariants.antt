use Rattle.std.proofs.Common.{◌≡◌, length}
use Rattle.im_trial_middle.proofs.building.owned.Given as goal

abbrev pub invariant-loop-name : goal.invariant-loop-name
invariant-loop-name l = length l.strings.items ≡ l.name-index
