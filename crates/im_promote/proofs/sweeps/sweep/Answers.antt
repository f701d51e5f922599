use Rattle.std.proofs.Common.{arith}
use Rattle.im_promote.proofs.Sweeping.{swept_more, idle_of, there_is}
use Rattle.im_promote.proofs.sweeps.sweep.Goals as goal

pub loop-number-preserved : goal.loop-number-preserved
loop-number-preserved c =
    let l = c.loop-number in
    let t = c.loop-number-test.true in
    let q = c.requires.count in
    let k = l.invariant.count in
    let blocks = c.args.blocks.now in
    let block = c.index-blocks-number.result in
    swept_more c.args.base blocks l.number block l.starts c.join_block-is_news.new.starts l.is_news c.join_block-is_news.result (there_is blocks l.number block (omega arith) c.index-blocks-number.is) (omega arith) c.join_block-is_news.ensures c.args.starts.now l.invariant

pub returns-clause-idle : goal.returns-clause-idle
returns-clause-idle c =
    let l = c.loop-number in
    let t = c.loop-number-test.false in
    idle_of c.args.base c.args.blocks.now l.number c.args.starts.now l.starts l.is_news (omega arith) l.invariant
