use Rattle.std.proofs.Common.{arith}
use Rattle.std.proofs.lemmas.List.{take_all}
use Rattle.im_tok.proofs.DigitsGrow.{too_large}
use Rattle.im_tok.proofs.digits.digits_value.Goals as goal

pub returns-in_err-value : goal.returns-in_err-value
returns-in_err-value c =
    rw c.from_residual.ensures (too_large _ _ _ _ _ (omega arith) c.loop-digit-test.true c.loop-digit.invariant.0 c.in_err-value.ensures)

pub returns : goal.returns
returns c =
    let all = take_all c.loop-digit.digit-index c.args.digits.now (omega arith) in
    let is = rw all at c.loop-digit.invariant.0 in
    (omega (arith, is), is)
