use Rattle.std.proofs.Common.{take}
use Rattle.im_alias.specs.PointsAt.{union}
use Rattle.im_alias.specs.Scan.{Alike}
use Rattle.im_alias.specs.Sets.{points}
use Rattle.im_alias.proofs.place.loaded_from.Given as goal

abbrev pub invariant-loop-object : goal.invariant-loop-object
invariant-loop-object l = Alike l.set.members.items (union (points l.table).object (take l.object-index l.object-items))
