use Rattle.std.proofs.Common.{◌≡◌, ap, sym, ◌∙◌}
use Rattle.im_ctype.specs.Types.{function}
use Rattle.im_check_declarators.specs.im_rules.Rules as u
use Rattle.im_types.specs.Shape.{type_of, types_in}
use Rattle.im_types.proofs.Rows.{function-of}
use Rattle.im_check_file_names.proofs.bodies.takes_nothing.Goals as goal

pub returns-in-Function : goal.returns-in-Function
returns-in-Function c =
    let r = c.in-Function.field-0 in
    let ps = c.in-Function.parameters in
    let e : type_of c.args.ty.now ≡ function (type_of r.value) (types_in ps.items) = ap type_of c.in-Function.is ∙ function-of r ps in
    let told = rw c.deref.ensures.value at (c.is_none.ensures (type_of r.value)) in
    told ∙ ap u.takes_nothing (sym e)
