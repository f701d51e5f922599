use Rattle.std.proofs.Common.{◌≡◌, ◌+◌, ◌++◌, false, List, OnOk, ap, sym, subst, ◌∙◌, arith}
use Rattle.im_check_texts.specs.im_word.Words.{Name}
use Rattle.im_ctree.specs.Tree as tree
use Rattle.im_ctree.specs.declared.declaration.Initializer as ini
use Rattle.im_ctree.specs.Shape.{initializer_of}
use Rattle.im_ctype.specs.Table.{structs_of}
use Rattle.im_ctype.specs.Types.{members_of}
use Rattle.im_check_texts.specs.im_rules.Initialisers.{in_order, strings_given, strings_among}
use Rattle.im_check_texts.specs.im_rules.Rules.{is_string_for}
use Rattle.im_ctree_parts.specs.Lists.{expression_in, initializers_from}
use Rattle.im_ctree_parts.proofs.Shapes.{list_tree}
use Rattle.im_types.specs.Shape.{type_of}
use Rattle.im_check_shapes.proofs.Falls.{size_of, sizes_of}
use Rattle.im_check_texts.proofs.Places.{of_string, of_value, of_list, fits_in}
use Rattle.im_check_texts.specs.Texts.{texts_in}
use Rattle.im_check_texts.proofs.Appended.{none_more, member_more}
use Rattle.im_check_texts.proofs.given.+given.Goals as goal

pub append_given-returns-then-is_string_for : goal.append_given-returns-then-is_string_for
append_given-returns-then-is_string_for t c =
    let known = structs_of c.args.table.now in
    let a = type_of c.args.ty.now in
    let i = initializer_of c.args.i.now in
    none_more (texts_in c.args.texts.now.items) (strings_given known a i) (of_string known a i (sym c.is_string_for.ensures ∙ c.if-is_string_for.true))

pub append_given-returns-in-Value : goal.append_given-returns-in-Value
append_given-returns-in-Value t c =
    let known = structs_of c.args.table.now in
    let a = type_of c.args.ty.now in
    let x = expression_in c.in-Value.e in
    let e : initializer_of c.args.i.now ≡ tree.value_initializer x = ap initializer_of c.in-Value.is in
    let plain = subst (λ (z : tree.Initializer). is_string_for a z ≡ false) e (sym c.is_string_for.ensures ∙ c.if-is_string_for.false) in
    let whole = ap (strings_given known a) e ∙ of_value known a x plain in
    subst (λ (ss : List Name). OnOk c.append_expression.result (texts_in c.append_expression.new.texts.items ≡ texts_in c.args.texts.now.items ++ ss)) (sym whole) c.append_expression.ensures

pub append_given-returns-in-List : goal.append_given-returns-in-List
append_given-returns-in-List t c =
    let known = structs_of c.args.table.now in
    let a = type_of c.args.ty.now in
    let is = initializers_from c.in-List.items.items in
    let e = ap initializer_of c.in-List.is ∙ list_tree c.in-List.field-0 c.in-List.items in
    let plain = subst (λ (z : tree.Initializer). is_string_for a z ≡ false) e (sym c.is_string_for.ensures ∙ c.if-is_string_for.false) in
    let whole = ap (strings_given known a) e ∙ of_list known a c.in-List.field-0 is plain in
    let behind = rw c.deref.ensures.value at c.append_list.ensures in
    subst (λ (ss : List Name). OnOk c.append_list.result (texts_in c.append_list.new.texts.items ≡ texts_in c.args.texts.now.items ++ ss)) (sym whole) behind

pub append_members-loop-i-preserved : goal.append_members-loop-i-preserved
append_members-loop-i-preserved t c =
    let known = structs_of c.args.table.now in
    let ms = members_of known c.args.number in
    let xs = c.args.items.now in
    let whole = texts_in c.args.texts.now.items ++ strings_among known (in_order ms) (initializers_from xs) in (
      ap (λ k. k + 1) c.loop-i.invariant.0,
      member_more known ms xs c.loop-i.i-index c.loop-i.index (texts_in c.loop-i.texts.items) (texts_in c.append_given.new.texts.items) whole c.i-item.result (type_of c.in_ok-ty.ty) c.loop-i-test.true c.i-item.is c.in_ok-ty.ensures c.loop-i.invariant.1 c.in_ok-append_given.ensures,
    )

pub append_given-append_list-requires : goal.append_given-append_list-requires
append_given-append_list-requires t c =
    let e = ap initializer_of c.in-List.is ∙ list_tree c.in-List.field-0 c.in-List.items in
    let whole : size_of (initializer_of c.args.i.now) ≡ sizes_of (initializers_from c.in-List.items.items) + 1 = ap size_of e in
    let part : sizes_of (initializers_from c.deref.result.now) ≡ sizes_of (initializers_from c.in-List.items.items) =
    ap (λ (xs : List ini.Initializer). sizes_of (initializers_from xs)) c.deref.ensures.value in
    omega (arith, whole, part)

pub append_elements-append_given-requires : goal.append_elements-append_given-requires
append_elements-append_given-requires t c =
    let h = fits_in c.args.items.now c.loop-i.i-index c.i-item.result c.loop-i-test.true c.i-item.is in
    omega (arith, h)

pub append_members-append_given-requires : goal.append_members-append_given-requires
append_members-append_given-requires t c =
    let h = fits_in c.args.items.now c.loop-i.i-index c.i-item.result c.loop-i-test.true c.i-item.is in
    omega (arith, h)
