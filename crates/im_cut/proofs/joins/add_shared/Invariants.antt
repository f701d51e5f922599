use Rattle.std.proofs.Common.{take}
use Rattle.im_cut.proofs.Commons.{SharedSoFar}
use Rattle.im_cut.proofs.joins.add_shared.Given as goal

-- what the spans so far share with this one is there
abbrev pub invariant-loop-other : goal.invariant-loop-other
invariant-loop-other l = SharedSoFar (take l.other-index l.ours) l.span l.initial.common.items l.common.items
