use Rattle.std.proofs.Common.{◌<◌, arith}
use Rattle.im_block_live.proofs.Pointed.{points_step}
use Rattle.im_block_live.proofs.liveness.points.Goals as goal

pub loop-left-preserved : goal.loop-left-preserved
loop-left-preserved c =
    let l = c.loop-left in
    let pos : 0 < l.left = (let t = c.loop-left-test.true in omega arith) in
    points_step c.args.base c.args.starts.now c.args.block.now.lines.items c.args.block.now.exit l.words.items l.left c.index.result.now c.index-behind.result.now c.before-in-loop-left.result pos l.invariant c.index-behind.ensures c.index.ensures c.before-in-loop-left.ensures
