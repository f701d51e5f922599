use Rattle.std.proofs.Common.{drop}
use Rattle.im_alias.proofs.Blocks.{InBlock}
use Rattle.im_alias.proofs.flow.flow_block.Given as goal

abbrev pub invariant-loop-line : goal.invariant-loop-line
invariant-loop-line l =
    InBlock l.unit l.number l.block.lines.items l.block.exit l.initial.table l.initial.found l.table l.found l.spot (drop l.line-index l.block.lines.items) l.changed
