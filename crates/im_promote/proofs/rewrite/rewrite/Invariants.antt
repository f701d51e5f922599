use Rattle.std.proofs.Common.{◌≡◌}
use Rattle.im_promote.specs.Homes.{homes_from, RewritesBlock}
use Rattle.im_block.proofs.Unitwise.{ZipTo}
use Rattle.im_promote.proofs.rewrite.rewrite.Given as goal

-- the blocks so far are rewritten, the others are as they were
abbrev pub invariant-loop-block : goal.invariant-loop-block
invariant-loop-block l = record {
  first_is : l.first ≡ l.fn.function.first_object;
  blocks : ZipTo (RewritesBlock (homes_from l.fn.function.first_object l.homes.of.items)) l.block-index l.fn.function.blocks.items l.block-items;
}
