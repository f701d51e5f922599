use Rattle.std.proofs.Common.{◌≡◌, ◌&&◌, sym, ap, ◌∙◌}
use Rattle.im_ctype.specs.Types.{function, same_type, same_types}
use Rattle.im_types.specs.Compared.{same_result, same_parameters}
use Rattle.im_types.specs.Shape.{type_of, types_in}
use Rattle.im_types.proofs.Lists.{lengths-differ, by-parts}
use Rattle.im_types.proofs.Rows.{function-of}
use Rattle.im_types.proofs.compare.+same.Goals as goal

pub all_same-returns-then-first-second : goal.all_same-returns-then-first-second
all_same-returns-then-first-second t c = sym (lengths-differ c.args.first.now c.args.second.now c.if-first-second.true)

pub same-returns-in-Function : goal.same-returns-in-Function
same-returns-in-Function t c =
    let other = type_of c.args.second.now in
    let r = c.in-Function.returned in
    let ps = c.in-Function.parameters in
    let e : type_of c.args.first.now ≡ function (type_of r.value) (types_in ps.items) = ap type_of c.in-Function.is ∙ function-of r ps in
    c.both.ensures
    ∙ ap (λ x. x && c.are_parameters_too.result) c.is_result_too.ensures
    ∙ ap (λ y. same_result (type_of c.deref-in-Function.result.now) other && y) c.are_parameters_too.ensures
    ∙ ap (λ x. same_result (type_of x) other && same_parameters (types_in c.deref-in-Function-2.result.now) other) c.deref-in-Function.ensures
    ∙ ap (λ xs. same_result (type_of r.value) other && same_parameters (types_in xs) other) c.deref-in-Function-2.ensures.value
    ∙ sym (by-parts (type_of r.value) (types_in ps.items) other)
    ∙ ap (λ x. same_type x other) (sym e)

pub are_parameters_too-returns-in-Function : goal.are_parameters_too-returns-in-Function
are_parameters_too-returns-in-Function t c =
    let ps = types_in c.args.parameters.now in
    let r = c.in-Function.field-0 in
    let qs = c.in-Function.ps in
    let e : type_of c.args.other.now ≡ function (type_of r.value) (types_in qs.items) = ap type_of c.in-Function.is ∙ function-of r qs in
    c.all_same.ensures
    ∙ ap (λ xs. same_types ps (types_in xs)) c.deref.ensures.value
    ∙ ap (λ x. same_parameters ps x) (sym e)
