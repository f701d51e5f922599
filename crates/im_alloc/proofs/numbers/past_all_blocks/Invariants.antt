use Rattle.std.proofs.Common.{◌≡◌, drop}
use Rattle.im_alloc.specs.Numbers.{past_blocks}
use Rattle.im_alloc.proofs.numbers.past_all_blocks.Given as goal

abbrev pub invariant-loop-block : goal.invariant-loop-block
invariant-loop-block l = past_blocks l.next (drop l.block-index l.blocks) ≡ past_blocks l.fn.number l.blocks
