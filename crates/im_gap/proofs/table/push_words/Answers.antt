use Rattle.std.proofs.Common.{refl, rules}
use Rattle.im_gap.proofs.Tables.{drawn_on}
use Rattle.im_gap.proofs.table.push_words.Goals as goal

pub loop-i-preserved : goal.loop-i-preserved
loop-i-preserved c = drawn_on _ _ _ _ _ _ _ _ _ _ c.loop-i.invariant c.loop-i-test.true refl c.way_of.ensures.turn c.way_of.ensures.imm c.in_ok-push_successors.ensures c.in_ok-push.ensures.items (search rules) (search rules) refl
