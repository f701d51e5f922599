use Rattle.std.proofs.Common.{drop}
use Rattle.im_block.specs.Sections.{Has}
use Rattle.im_dep.proofs.pairs.is_among.Given as goal

-- it is among those that are left, if at all
abbrev pub invariant-loop-other : goal.invariant-loop-other
invariant-loop-other l = Has l.objects l.object → Has (drop l.other-index l.objects) l.object
