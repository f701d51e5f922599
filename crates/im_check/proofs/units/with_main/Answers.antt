use Rattle.im_check_scopes.specs.Shape.{scopes_of}
use Rattle.im_rules.specs.FileScope.{main_asks}
use Rattle.im_check.proofs.units.with_main.Goals as goal

pub of_rule-requires : goal.of_rule-requires
of_rule-requires c = (main_asks (scopes_of c.args.scope.now), c.in-Err.ensures)

pub returns-in-Err : goal.returns-in-Err
returns-in-Err c = c.of_rule.ensures (main_asks (scopes_of c.args.scope.now)) c.in-Err.ensures
