use Rattle.std.proofs.Common.{take}
use Rattle.im_cut.proofs.Commons.{CommonSoFar}
use Rattle.im_cut.proofs.joins.common_spans.Given as goal

-- what both hold, of those so far
abbrev pub invariant-loop-index : goal.invariant-loop-index
invariant-loop-index l = CommonSoFar l.ours (take l.index l.theirs) l.common.items
