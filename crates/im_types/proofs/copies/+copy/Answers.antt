use Rattle.std.proofs.Common.{◌≡◌, List, map, sym, ap, ◌∙◌}
use Rattle.im_ctype.specs.Types.{function}
use Rattle.im_types.specs.declared.tree.Type as rust
use Rattle.im_types.specs.Shape.{type_of, types_in, listed}
use Rattle.im_types.proofs.Rows.{function-of}
use Rattle.im_types.proofs.copies.+copy.Goals as goal

pub copy-returns-in_ok-new-in-Function : goal.copy-returns-in_ok-new-in-Function
copy-returns-in_ok-new-in-Function t c =
    let r = c.in-Function.returned in
    let ps = c.in-Function.parameters in
    let b = c.in_ok-new-in-Function.field-0 in
    let qs = c.in_ok-ps-in-Function.ps in
    let e : type_of c.args.ty.now ≡ function (type_of r.value) (types_in ps.items) = ap type_of c.in-Function.is ∙ function-of r ps in
    let p : type_of b.value ≡ type_of r.value = ap type_of c.in_ok-new-in-Function.ensures.ok ∙ c.in_ok-r-in-Function.ensures ∙ ap type_of c.deref-in-Function.ensures in
    let q : types_in qs.items ≡ types_in ps.items = ap listed (c.in_ok-ps-in-Function.ensures ∙ ap (λ (ts : List rust.Type). map {A = rust.Type} type_of ts) c.deref-in-Function-2.ensures.value) in
    function-of b qs
    ∙ ap (λ x. function x (types_in qs.items)) p
    ∙ ap (λ xs. function (type_of r.value) xs) q
    ∙ sym e
