use Rattle.std.proofs.Common.{◌<◌, ◌≤◌, length, subst, take_all, arith}
use Rattle.std.specs.Prelude.{All}
use Rattle.std.proofs.lemmas.List.Elements.{All-more}
use Rattle.im_trial_middle.specs.Unplaced.{IsOpenBlock}
use Rattle.im_trial_middle.proofs.unplaced.are_open_blocks.Goals as goal

pub loop-block-preserved : goal.loop-block-preserved
loop-block-preserved c =
    let blocks = c.args.blocks.now in
    let i = c.loop-block.block-index in
    let block = c.block-item.result in
    let within : i < length blocks = omega arith in
    let IsOpen = IsOpenBlock c.args.function.now in
    All-more IsOpen blocks i block within c.loop-block.invariant (subst IsOpen c.block-item.is (c.is_block.ensures c.if-not-is_block.false))

pub returns : goal.returns
returns c e =
    let blocks = c.args.blocks.now in
    let all : length blocks ≤ c.loop-block.block-index = omega arith in
    subst (All (IsOpenBlock c.args.function.now)) (take_all c.loop-block.block-index blocks all) c.loop-block.invariant
