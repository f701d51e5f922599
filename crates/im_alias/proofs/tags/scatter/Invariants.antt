use Rattle.im_alias.specs.Scan.{IsScattered}
use Rattle.im_alias.proofs.tags.scatter.Given as goal

abbrev pub invariant-loop-each : goal.invariant-loop-each
invariant-loop-each l = IsScattered l.each-index l.accesses l.of.items
