use Rattle.std.proofs.Common.{◌≡◌, ◌+◌, take, drop}
use Rattle.im_alloc_relation.specs.Placing.{PlacedBlocks}
use Rattle.im_alloc_laws.specs.Numbered.{numbers_of_blocks}
use Rattle.im_alloc_intervals.specs.Homes.{home_at}
use Rattle.im_alloc.proofs.placing.place_blocks.Given as goal

-- the blocks so far are placed, the others are as they were
abbrev pub invariant-loop-block : goal.invariant-loop-block
invariant-loop-block l =
    let old = l.fn.blocks in
    record {
      done : PlacedBlocks (home_at l.homes) l.fn.number (take l.block-index old) (take l.block-index l.blocks);
      left : drop l.block-index l.blocks ≡ drop l.block-index old;
      next_is : l.next ≡ l.fn.number + numbers_of_blocks (take l.block-index old);
    }
