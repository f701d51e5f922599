use Rattle.std.proofs.Common.{refl, arith}
use Rattle.im_alloc_intervals.proofs.Firsts.{first_begin, first_next}
use Rattle.im_alloc_intervals.proofs.scan.first_homes.Goals as goal

pub loop-parameter-init : goal.loop-parameter-init
loop-parameter-init c = first_begin c.args.count c.in_ok-of.of.items (c.in_ok-of.ensures.items_if_clones_equal (λ y h. h))

pub loop-parameter-preserved : goal.loop-parameter-preserved
loop-parameter-preserved c =
    let l = c.loop-parameter in
    first_next l.parameter c.args.count l.of.items _ (let lt = c.loop-parameter-test.true in let w = c.requires.within in omega arith) l.invariant refl
