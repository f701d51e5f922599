use Rattle.std.proofs.Common.{◌∙◌, sym, ap, subst}
use Rattle.im_store.specs.Checks.{Fine}
use Rattle.im_store.specs.Numbers.{apply}
use Rattle.im_store.proofs.Bounds.{IsSmall, remainder_small, same_remainder}
use Rattle.im_store.proofs.arithmetic.remainder.Goals as goal

pub invariant_of-result : goal.invariant_of-result
invariant_of-result c =
    let left : IsSmall c.args.left.value = record { low = c.args.left.low; high = c.args.left.high } in
    let right : IsSmall c.args.right.value = record { low = c.args.right.low; high = c.args.right.high } in
    let same = same_remainder c.args.left.value c.args.right.value left right in
    let small = subst IsSmall (sym same) (remainder_small c.args.left.value c.args.right.value left) in
    record { low = small.low; high = small.high }

pub returns-in-None : goal.returns-in-None
unfolding apply
returns-in-None c =
    let left : IsSmall c.args.left.value = record { low = c.args.left.low; high = c.args.left.high } in
    let right : IsSmall c.args.right.value = record { low = c.args.right.low; high = c.args.right.high } in
    c.in-None.ensures.remainder ∙ ap Fine (sym (same_remainder c.args.left.value c.args.right.value left right))
