use Rattle.std.proofs.Common.{sym, ap, ◌∙◌}
use Rattle.im_typed.specs.ProgramOf.{expr_of}
use Rattle.im_check_constancy.specs.im_rules.Terms.{is_zero}
use Rattle.im_check_constancy.proofs.ToldValues.{told-value}
use Rattle.im_check_operands.proofs.operand.is_null.Goals as goal

pub returns : goal.returns
returns c = λ types.
    let v = c.args.v.now in
    c.is_zero.ensures ∙ ap is_zero (sym (told-value v.constancy (expr_of types v.tree) (v.told types)))
