use Rattle.std.proofs.Common.{sym}
use Rattle.im_check_expressions.specs.im_rules.Statements.{forgets}
use Rattle.im_check_expression_parts.proofs.Places.{behind_none}
use Rattle.im_check_initialisers.proofs.declaration.initialisation.Goals as goal

pub returns-in-None : goal.returns-in-None
returns-in-None c = rw c.in-None.is (forgets, sym (behind_none c.args.place.now), tt)
