use Rattle.std.proofs.Common.{[]}
use Rattle.im_forward.specs.Known.{AreKnown}
use Rattle.im_forward.proofs.Using.{behind_of, UsesTo}
use Rattle.im_forward.proofs.sources.use_sources.Given as goal

-- the lines so far use what was copied, and copies are known behind them
abbrev pub invariant-loop-line : goal.invariant-loop-line
invariant-loop-line l = record {
  lines : UsesTo l.free l.line-index [] l.fn.block.lines.items l.line-items;
  known : AreKnown l.free (behind_of l.line-index [] l.fn.block.lines.items) l.copies.items;
}
