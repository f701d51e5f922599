use Rattle.std.proofs.Common.{◌≡◌, ℕ, ◌+◌, ◌<◌, false, take}
use Rattle.std.specs.Prelude.{All}
use Rattle.im_block.specs.declared.code.Line.{Line}
use Rattle.im_block.specs.declared.code.Block.{Block}
use Rattle.im_promote.specs.Words.{has, breaks}
use Rattle.im_promote.proofs.candidates.spoiled_by_blocks.Given as goal

abbrev pub invariant-loop-block : goal.invariant-loop-block
invariant-loop-block l =
    (j : ℕ) → j < 32 → has l.all j ≡ false → All (λ (block : Block). All (λ (line : Line). breaks line (l.base + j) ≡ false) block.lines.items) (take l.block-index l.blocks)
