use Rattle.std.proofs.Common.{take}
use Rattle.std.specs.Prelude.{All}
use Rattle.im_trial_middle.specs.Unplaced.{IsOpenBlock}
use Rattle.im_trial_middle.proofs.unplaced.are_open_blocks.Given as goal

abbrev pub invariant-loop-block : goal.invariant-loop-block
invariant-loop-block l = All (IsOpenBlock l.function) (take l.block-index l.blocks)
