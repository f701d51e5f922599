use Rattle.std.proofs.Common.{refl}
use Rattle.std.proofs.lemmas.Result.{MatchResult-weaker}
use Rattle.im_check_locals.specs.im_rules.Statements.{condition_asks}
use Rattle.im_check_locals.specs.im_ctree_parts.Lists.{expression_in}
use Rattle.im_check_statement_forms.proofs.Begun.{tests_by, tests_none, maybe_fault}
use Rattle.im_check_statement_forms.proofs.heads.condition.Goals as goal

pub returns-in-None : goal.returns-in-None
returns-in-None c = rw c.in-None.is (tests_none c.args.body.now _ refl)

pub returns-in-Some : goal.returns-in-Some
returns-in-Some c =
    let e = expression_in c.in-Some.e in
    rw c.in-Some.is (MatchResult-weaker c.tested.result c.tested.ensures (λ x d. tests_by d) (λ f h. maybe_fault condition_asks c.args.body.now e c.args.at f h))
