use Rattle.std.proofs.Common.{◌-◌, ◌≤◌, length}
use Rattle.im_cut_gap.specs.Starts.{AreBlank}
use Rattle.im_cut_gap.proofs.starts.blank_costs.Given as goal

-- those so far are blank, and not too many
abbrev pub invariant-places : goal.invariant-places
invariant-places l = record {
  blank : AreBlank l.costs.items;
  few : length l.costs.items ≤ l.count;
}

abbrev pub decreases-places : goal.decreases-places
decreases-places l = l.count - length l.costs.items
