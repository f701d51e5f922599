use Rattle.std.proofs.Common.{refl, arith, below_more}
use Rattle.im_lex.proofs.runs.number_end.Goals as goal

pub loop-end-preserved : goal.loop-end-preserved
loop-end-preserved c =
    (omega arith, omega arith, below_more _ _ c.loop-end.invariant.2 (λ pos. c.if-goes_on.ensures.0 refl))
