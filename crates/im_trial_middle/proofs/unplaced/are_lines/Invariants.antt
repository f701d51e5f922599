use Rattle.std.proofs.Common.{take}
use Rattle.std.specs.Prelude.{All}
use Rattle.im_block.specs.Wellformed.{LineWithin}
use Rattle.im_alloc_placed.specs.Placeable.{IsPlaceableLine}
use Rattle.im_trial_middle.specs.Unplaced.{CallsSecond}
use Rattle.im_trial_middle.proofs.unplaced.are_lines.Given as goal

abbrev pub invariant-loop-line : goal.invariant-loop-line
invariant-loop-line l = record {
  within : All (LineWithin 32) (take l.line-index l.lines);
  calls : All CallsSecond (take l.line-index l.lines);
  placeable : All (IsPlaceableLine 0 l.function) (take l.line-index l.lines);
}
