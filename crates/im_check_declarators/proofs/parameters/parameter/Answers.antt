use Rattle.std.proofs.Common.{subst}
use Rattle.std.proofs.lemmas.Result.{err_from_is_err_and}
use Rattle.im_rules.specs.Declared as d
use Rattle.im_rules.specs.Demands.{Meets}
use Rattle.im_check_stop.specs.Answers.{IsRefusal}
use Rattle.im_check_type_specifiers.specs.Specified.{at_place}
use Rattle.im_check_declarators.proofs.parameters.parameter.Goals as goal

pub returns-in_err-asked-clause-asked : goal.returns-in_err-asked-clause-asked
returns-in_err-asked-clause-asked c =
    let p = err_from_is_err_and c.from_residual.result c.from_residual.ensures.1 in
    rw (p.1, p.2) (λ k lists. subst (λ (y : d.Declared). IsRefusal (d.parameter_asks (at_place k c.args.scope.now lists) c.args.number y) c.args.at c.in_err-asked.field-0.0) c.adjusted-p.ensures (c.in_err-asked.ensures.asked k lists c.args.number))

pub returns-clause-asked : goal.returns-clause-asked
returns-clause-asked c = λ k lists.
    subst (λ (y : d.Declared). Meets (d.parameter_asks (at_place k c.args.scope.now lists) c.args.number y)) c.adjusted-p.ensures (c.in_ok-asked.ensures.asked k lists c.args.number)
