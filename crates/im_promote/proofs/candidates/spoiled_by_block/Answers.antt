use Rattle.std.proofs.Common.{◌<◌, arith}
use Rattle.im_promote.proofs.Spoiling.{spoiled_more}
use Rattle.im_promote.proofs.candidates.spoiled_by_block.Goals as goal

pub loop-left-preserved : goal.loop-left-preserved
loop-left-preserved c =
    let l = c.loop-left in
    let pos : 0 < l.left = (let t = c.loop-left-test.true in omega arith) in
    let le = l.invariant.0 in
    (omega arith, λ j lt e. spoiled_more c.args.base j c.args.block.now.lines.items l.left l.all c.spoiled-all.result c.index-line.result.now pos le c.index-line.ensures (c.spoiled-all.ensures j lt) (l.invariant.1 j lt) e)
