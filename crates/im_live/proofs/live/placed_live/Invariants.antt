use Rattle.std.proofs.Common.{take}
use Rattle.im_live.specs.Words.{starts_have, AllPoints}
use Rattle.im_live.proofs.live.placed_live.Given as goal

abbrev pub invariant-loop-block : goal.invariant-loop-block
invariant-loop-block l = AllPoints (starts_have l.live.items) (take l.block-index l.function.blocks.items) l.words.items
