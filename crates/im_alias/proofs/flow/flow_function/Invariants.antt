use Rattle.std.proofs.Common.{take}
use Rattle.im_block.specs.Wellformed.{accesses_of_blocks}
use Rattle.im_alias.specs.Scan.{FlowedBlocks}
use Rattle.im_alias.specs.Sets.{IsPart}
use Rattle.im_alias.proofs.flow.flow_function.Given as goal

abbrev pub invariant-loop-block : goal.invariant-loop-block
invariant-loop-block l = record {
  part : IsPart l.unit l.table;
  flowed : FlowedBlocks l.block-index l.unit l.number l.function.blocks.items (accesses_of_blocks (take l.block-index l.function.blocks.items)) l.initial.table l.table l.initial.found l.found l.changed;
}
