use Rattle.std.proofs.Common.{◌-◌, length, map}
use Rattle.im_word.specs.Shown.{shown}
use Rattle.im_ctree.specs.Shape.{external_of}
use Rattle.im_ctree.specs.Units.{predeclared_names}
use Rattle.im_parse.proofs.UnitLines.{InExternals}
use Rattle.im_parse.proofs.units.unit.Given as goal

abbrev pub invariant-loop-next : goal.invariant-loop-next
invariant-loop-next l = InExternals predeclared_names (map shown l.words) (map external_of l.externals.items) l.names l.next

abbrev pub decreases-loop-next : goal.decreases-loop-next
decreases-loop-next l = length (map shown l.words) - l.next
