use Rattle.std.proofs.Common.{nat_le, ap, sym}
use Rattle.im_check_shapes.proofs.Alone.{count}
use Rattle.im_check_shapes.proofs.rule.is_at_most.Goals as goal

pub returns : goal.returns
returns c = ap (λ k. nat_le k c.args.most) (sym (count c.args.items.now))
