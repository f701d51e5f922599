use Rattle.std.proofs.Common.{length, take}
use Rattle.std.specs.Prelude.{All}
use Rattle.im_alloc_placed.specs.Placed.{IsPlacedLine}
use Rattle.im_select.specs.Places.{CallsBelow}
use Rattle.im_trial_middle.proofs.placed.are_lines.Given as goal

abbrev pub invariant-loop-line : goal.invariant-loop-line
invariant-loop-line l = record {
  placed : All (IsPlacedLine (length l.names.statics.now) l.names.function.now) (take l.line-index l.lines);
  calls : All (CallsBelow l.names.functions) (take l.line-index l.lines);
}
