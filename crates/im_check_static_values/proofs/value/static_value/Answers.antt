use Rattle.std.proofs.Common.{◌≡◌, Option, None, IfOk, ap, sym, subst, ◌∙◌}
use Rattle.std.specs.Option.{option_map}
use Rattle.im_store.specs.Objects.{Value}
use Rattle.im_typed.specs.ProgramOf.{expr_of, first_of}
use Rattle.im_check_items.specs.im_rules.Constants.{constant_value}
use Rattle.im_check_items.specs.im_rules.StaticValues.{address_of, number_or, pointer_to}
use Rattle.im_check_static_values.proofs.Constants.{number_or_place}
use Rattle.im_check_static_values.proofs.value.static_value.Goals as goal

pub returns : goal.returns
returns g c = λ types.
    let size = g.S.Sizes.size c.args.sizes.now in
    let x = expr_of types c.args.e in
    let same = c.in_ok-whole.ensures types in
    let none : constant_value x ≡ None = ap constant_value (sym same) ∙ sym (rw c.in_default-number_of.is at c.number_of.ensures types) in
    let place = ap (address_of size) (sym same) ∙ sym (c.in_ok-spot.ensures types) in
    let whole = number_or_place types size c.args.e c.in_default.not-Null ∙ ap (λ o. number_or o (pointer_to (address_of size x))) none ∙ ap pointer_to place in
    subst (λ (o : Option Value). IfOk c.pointer_to.result (λ v. option_map (first_of types) v ≡ o)) (sym whole) (c.pointer_to.ensures types)
