use Rattle.std.proofs.Common.{ap, sym}
use Rattle.im_ctree.specs.Tree as t
use Rattle.im_check_expression_parts.specs.im_rules.Breaks.{parameter_token}
use Rattle.im_ctree_parts.proofs.Shapes.{declarator_shape}
use Rattle.im_check_expressions.proofs.formals.token_of.Goals as goal

pub returns-in-Some : goal.returns-in-Some
returns-in-Some c =
    rw (c.in-Some.is, c.deref.ensures) (ap (λ z. parameter_token c.args.first (t.a_declarator z)) (sym (declarator_shape c.in-Some.d.value)))
