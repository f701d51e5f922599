use Rattle.std.proofs.Common.{◌-◌, ◌≤◌, length}
use Rattle.im_cut.specs.Blocks.{AreBlank}
use Rattle.im_cut.proofs.starts.blank_table.Given as goal

-- those so far are blank, and not too many
abbrev pub invariant-places : goal.invariant-places
invariant-places l = record {
  blank : AreBlank l.table.items;
  few : length l.table.items ≤ l.count;
}

abbrev pub decreases-places : goal.decreases-places
decreases-places l = l.count - length l.table.items
