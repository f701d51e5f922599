use Rattle.std.proofs.Common.{sym}
use Rattle.im_ctree.specs.Shape.{initializer_of}
use Rattle.im_check_shapes.proofs.Alone.{is_expression, no_expression}
use Rattle.im_check_shapes.proofs.rule.is_one_expression.Goals as goal

pub returns-in-Some : goal.returns-in-Some
returns-in-Some c = sym ((is_expression (initializer_of c.args.i.now) _ c.in-Some.ensures).told)

pub returns-in-None : goal.returns-in-None
returns-in-None c = sym ((no_expression (initializer_of c.args.i.now) c.in-None.ensures).told)
