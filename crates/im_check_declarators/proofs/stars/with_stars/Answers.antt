use Rattle.std.proofs.lemmas.Result.{err_from_is_err_and}
use Rattle.im_check_type_specifiers.specs.Specified.{qualified_of}
use Rattle.im_check_declarators.proofs.Reached.{star_step, star_fault}
use Rattle.im_check_declarators.proofs.stars.with_stars.Goals as goal

pub returns-in_err-behind : goal.returns-in_err-behind
returns-in_err-behind c =
    let p = err_from_is_err_and c.from_residual.result c.from_residual.ensures.1 in
    rw (p.1, p.2) (star_fault (qualified_of c.args.q) c.args.stars.now c.loop-star.star-index (record { consts = 0 }) (qualified_of c.loop-star.behind) c.args.at _ c.loop-star-test.true c.loop-star.invariant c.in_err-behind.ensures)

pub loop-star-preserved : goal.loop-star-preserved
loop-star-preserved c = star_step (qualified_of c.args.q) c.args.stars.now c.loop-star.star-index _ (qualified_of c.loop-star.behind) (qualified_of c.in_ok-behind.behind) c.loop-star-test.true c.loop-star.invariant c.in_ok-behind.ensures
