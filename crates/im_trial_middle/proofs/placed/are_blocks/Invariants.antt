use Rattle.std.proofs.Common.{length, take}
use Rattle.std.specs.Prelude.{All}
use Rattle.im_alloc_placed.specs.Placed.{IsPlacedBlock}
use Rattle.im_select.specs.Given.{given}
use Rattle.im_select.specs.Selects.{IsClosedBlock}
use Rattle.im_trial_middle.proofs.placed.are_blocks.Given as goal

abbrev pub invariant-loop-block : goal.invariant-loop-block
invariant-loop-block l = record {
  placed : All (IsPlacedBlock (length l.names.statics.now) l.names.function.now) (take l.block-index l.blocks);
  closed : All (IsClosedBlock (given l.names)) (take l.block-index l.blocks);
}
