use Rattle.std.proofs.Common.{◌≡◌, IfOk, sym, subst}
use Rattle.im_ctype.specs.Types.{CType}
use Rattle.im_check_operations.specs.im_rules.Conversions.{casted}
use Rattle.im_check_operations.specs.im_rules.Terms.{Value}
use Rattle.im_types.specs.Shape.{type_of}
use Rattle.im_check_operands.specs.Shape.{value_in}
use Rattle.im_check_operations.proofs.NoIntegers.{casted-else}
use Rattle.im_check_operations.proofs.unary.casted.Goals as goal

pub returns-in-Some : goal.returns-in-Some
returns-in-Some c = λ types.
    subst (λ (t : CType). IfOk c.cast_to.result (λ r. value_in types r ≡ casted t (value_in types c.args.x))) (sym c.in-Some.ensures) (c.cast_to.ensures types)

pub returns-in-None : goal.returns-in-None
returns-in-None c = λ types.
    let x = value_in types c.args.x in
    subst (λ (z : Value). IfOk c.discarded.result (λ r. value_in types r ≡ z)) (sym (casted-else (type_of c.args.ty) x c.in-None.ensures)) (c.discarded.ensures types)
