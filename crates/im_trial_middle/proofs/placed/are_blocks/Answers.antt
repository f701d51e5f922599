use Rattle.std.proofs.Common.{◌<◌, ◌≤◌, length, subst, take_all, arith}
use Rattle.std.specs.Prelude.{All}
use Rattle.std.proofs.lemmas.List.Elements.{All-more}
use Rattle.im_alloc_placed.specs.Placed.{IsPlacedBlock}
use Rattle.im_select.specs.Given.{given}
use Rattle.im_select.specs.Selects.{IsClosedBlock}
use Rattle.im_trial_middle.proofs.placed.are_blocks.Goals as goal

pub loop-block-preserved : goal.loop-block-preserved
loop-block-preserved c =
    let names = c.args.names.now in
    let blocks = c.args.blocks.now in
    let i = c.loop-block.block-index in
    let block = c.block-item.result in
    let within : i < length blocks = omega arith in
    let yes = c.if-not-is_block.false in
    let IsPlaced = IsPlacedBlock (length names.statics.now) names.function.now in
    record {
      placed = All-more IsPlaced blocks i block within c.loop-block.invariant.placed (subst IsPlaced c.block-item.is (c.is_block.ensures.placed yes));
      closed = All-more (IsClosedBlock (given names)) blocks i block within c.loop-block.invariant.closed (subst (IsClosedBlock (given names)) c.block-item.is (c.is_block.ensures.closed yes));
    }

pub returns : goal.returns
returns c e =
    let names = c.args.names.now in
    let blocks = c.args.blocks.now in
    let all : length blocks ≤ c.loop-block.block-index = omega arith in
    let whole = take_all c.loop-block.block-index blocks all in
    (subst (All (IsPlacedBlock (length names.statics.now) names.function.now)) whole c.loop-block.invariant.placed, subst (All (IsClosedBlock (given names))) whole c.loop-block.invariant.closed)
