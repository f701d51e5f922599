use Rattle.std.proofs.Common.{refl}
use Rattle.im_gap.proofs.Tables.{behind_on}
use Rattle.im_gap.proofs.table.push_behind.Goals as goal

pub loop-i-preserved : goal.loop-i-preserved
loop-i-preserved c = behind_on _ _ _ c.args.register c.args.words.now c.loop-i.i _ c.loop-i-test.true refl c.loop-i.invariant c.in_ok-push_if_linked.ensures
