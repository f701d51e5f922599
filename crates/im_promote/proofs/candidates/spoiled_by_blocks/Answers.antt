use Rattle.std.proofs.Common.{◌≡◌, ◌+◌, false, arith, subst, take_all}
use Rattle.std.specs.Prelude.{All}
use Rattle.im_block.specs.declared.code.Line.{Line}
use Rattle.im_block.specs.declared.code.Block.{Block}
use Rattle.im_promote.specs.Words.{breaks}
use Rattle.im_promote.proofs.Spoiling.{spoiled_block_more}
use Rattle.im_promote.proofs.candidates.spoiled_by_blocks.Goals as goal

pub loop-block-preserved : goal.loop-block-preserved
loop-block-preserved c =
    let l = c.loop-block in
    let t = c.loop-block-test.true in
    λ j small. spoiled_block_more (λ (block : Block). All (λ (line : Line). breaks line (c.args.base + j) ≡ false) block.lines.items) j c.args.blocks.now l.block-index l.all c.spoiled_by_block-all.result c.block-item.result (omega arith) c.block-item.is (c.spoiled_by_block-all.ensures j small) (l.invariant j small)

pub returns : goal.returns
returns c j small e =
    let l = c.loop-block in
    let t = c.loop-block-test.false in
    subst (λ z. All (λ (block : Block). All (λ (line : Line). breaks line (c.args.base + j) ≡ false) block.lines.items) z) (take_all l.block-index c.args.blocks.now (omega arith)) (l.invariant j small e)
