use Rattle.std.proofs.Common.{ap}
use Rattle.im_num.specs.Kinds.{wrap}
use Rattle.im_typed.specs.ProgramOf.{expr_of}
use Rattle.im_check_constancy.proofs.ToldValues.{told-one}
use Rattle.im_check_constancy.proofs.annotated.conversion.Goals as goal

pub invariant_of-result : goal.invariant_of-result
invariant_of-result c =
    let x = c.args.operand in
    record {
      told = λ types. told-one (wrap c.args.kind) x.constancy (expr_of types c.in_ok-new.field-0.value) (expr_of types x.tree) _ (ap (λ e. expr_of types e) c.in_ok-new.ensures.ok) (x.told types) c.converted_value.ensures;
    }
