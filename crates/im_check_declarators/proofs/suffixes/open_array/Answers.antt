use Rattle.std.proofs.Common.{ap}
use Rattle.std.proofs.lemmas.Result.{err_from_is_err_and}
use Rattle.im_ctype.specs.Types.{CType}
use Rattle.im_rules.specs.Declared.{Qualified}
use Rattle.im_check_declarators.proofs.suffixes.open_array.Goals as goal

pub returns-in_err-element : goal.returns-in_err-element
returns-in_err-element c =
    let p = err_from_is_err_and c.from_residual.result c.from_residual.ensures.1 in
    rw (p.1, p.2) (λ k e. c.in_err-element.ensures.asked k c.args.q.constant e)

pub returns : goal.returns
returns c = λ k e.
    let plain : CType → Qualified = λ a. record { constant = c.args.q.constant; type = a } in
    (c.in_ok-element.ensures.asked k c.args.q.constant e, ap plain c.in_ok-ty.ensures)
