use Rattle.std.proofs.Common.{sym, subst, arith}
use Rattle.im_alias.specs.Sets.{HaveNothing}
use Rattle.im_alias.proofs.Making.{nothing_push}
use Rattle.im_alias.proofs.made.push_empty.Goals as goal

pub loop-number-preserved : goal.loop-number-preserved
loop-number-preserved c =
    let l = c.loop-number in
    record {
      count = omega (arith, c.in_ok-push.ensures.len);
      nothing = λ h. subst HaveNothing (sym c.in_ok-push.ensures.items) (nothing_push l.sets.items c.new.result c.new.ensures (l.invariant.nothing h));
    }
