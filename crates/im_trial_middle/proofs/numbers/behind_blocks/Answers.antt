use Rattle.std.proofs.Common.{◌<◌, ◌≤◌, length, subst, arith}
use Rattle.im_block.specs.Wellformed.{accesses_of_lines}
use Rattle.im_trial_middle.specs.Unplaced.{Leads}
use Rattle.im_trial_middle.proofs.Rising.{blocks_step, blocks_end}
use Rattle.im_trial_middle.proofs.numbers.behind_blocks.Goals as goal

pub loop-block-preserved : goal.loop-block-preserved
loop-block-preserved c m rest =
    let blocks = c.args.blocks.now in
    let i = c.loop-block.block-index in
    let within : i < length blocks = omega arith in
    let one = subst (λ lines. Leads c.loop-block.next (accesses_of_lines lines) c.in_ok-next.next) c.deref.ensures.value c.in_ok-next.ensures in
    c.loop-block.invariant m (blocks_step c.loop-block.next c.in_ok-next.next blocks i c.block-item.result within c.block-item.is one m rest)

pub returns : goal.returns
returns c =
    let all : length c.args.blocks.now ≤ c.loop-block.block-index = omega arith in
    c.loop-block.invariant c.loop-block.next (blocks_end c.loop-block.next c.loop-block.block-index c.args.blocks.now all)
