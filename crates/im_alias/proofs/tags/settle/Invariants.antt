use Rattle.std.proofs.Common.{length}
use Rattle.im_alias.specs.Least.{IsLeastAt}
use Rattle.im_alias.specs.Sets.{IsPart, points, room}
use Rattle.im_alias.proofs.tags.settle.Given as goal

abbrev pub invariant-loop-found : goal.invariant-loop-found
invariant-loop-found l = record {
  part : IsPart l.unit l.table;
  least : IsLeastAt (points l.table) l.unit;
}

abbrev pub decreases-loop-found : goal.decreases-loop-found
decreases-loop-found l = room (length l.table.objects.items) l.table
