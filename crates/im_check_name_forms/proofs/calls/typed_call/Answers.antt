use Rattle.std.proofs.Common.{◌≡◌, ap, ◌∙◌}
use Rattle.im_ctype.specs.Types.{function}
use Rattle.im_types.specs.Shape.{type_of, types_in}
use Rattle.im_types.proofs.Rows.{function-of}
use Rattle.im_check_name_forms.proofs.calls.typed_call.Goals as goal

pub returns-in-Function : goal.returns-in-Function
returns-in-Function c =
    let r = c.in-Function.returned in
    let ps = c.in-Function.parameters in
    let e : type_of c.args.ty.now ≡ function (type_of r.value) (types_in ps.items) = ap type_of c.in-Function.is ∙ function-of r ps in
    rw e (rw c.deref.ensures at (rw c.deref-in-Function.ensures.value at c.function_term.ensures))
