use Rattle.std.proofs.Common.{◌≡◌}
use Rattle.im_promote.specs.Promote.{promoted}
use Rattle.im_promote.specs.Homes.{homes_from}
use Rattle.im_promote.proofs.Lists.{mapped_to}
use Rattle.im_promote.proofs.rewrite.rewrite_block.Given as goal

abbrev pub invariant-loop-line : goal.invariant-loop-line
invariant-loop-line l = l.line-items ≡ mapped_to (promoted (homes_from l.first l.homes)) l.line-index l.fn.block.lines.items
