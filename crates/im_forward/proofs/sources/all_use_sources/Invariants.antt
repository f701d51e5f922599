use Rattle.std.proofs.Common.{◌≡◌}
use Rattle.im_alloc_placed.specs.Placeable.{first_free}
use Rattle.im_forward.specs.Known.{UsesSources}
use Rattle.im_block.proofs.Unitwise.{ZipTo}
use Rattle.im_forward.proofs.sources.all_use_sources.Given as goal

-- the blocks so far use what was copied, the others are as they were
abbrev pub invariant-loop-block : goal.invariant-loop-block
invariant-loop-block l = record {
  free_is : l.free ≡ first_free l.fn.function;
  blocks : ZipTo (UsesSources (first_free l.fn.function)) l.block-index l.fn.function.blocks.items l.block-items;
}
