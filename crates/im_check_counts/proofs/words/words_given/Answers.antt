use Rattle.std.proofs.Common.{◌≡◌, IfOk, ap, sym, subst, ◌∙◌}
use Rattle.im_ctype.specs.Types.{function}
use Rattle.im_check_outline.specs.im_rules.TypeTests.{parameters_of}
use Rattle.im_rules_limits.specs.Limits.{words_in}
use Rattle.im_types.specs.Shape.{type_of, types_in}
use Rattle.im_types.proofs.Rows.{function-of}
use Rattle.im_check_counts.proofs.words.words_given.Goals as goal

pub returns-in-Function : goal.returns-in-Function
returns-in-Function c =
    let r = c.in-Function.field-0 in
    let ps = c.in-Function.parameters in
    let e : type_of c.args.ty.now ≡ function (type_of r.value) (types_in ps.items) = ap type_of c.in-Function.is ∙ function-of r ps in
    subst (λ a. IfOk c.words_in.result (λ n. n ≡ words_in (parameters_of a))) (sym e) (rw c.deref.ensures.value at c.words_in.ensures)
