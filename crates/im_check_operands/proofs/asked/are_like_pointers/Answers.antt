use Rattle.std.proofs.Common.{sym, ap, ◌∙◌}
use Rattle.im_ctype.specs.Types.{pointer, are_like_pointers}
use Rattle.im_check_constancy.specs.im_rules.Rules.{value_type}
use Rattle.im_check_constancy.specs.im_rules.TypeTests.{decayed}
use Rattle.im_types.specs.Shape.{type_of}
use Rattle.im_check_operands.specs.Shape.{seen}
use Rattle.im_check_operands.proofs.asked.are_like_pointers.Goals as goal

pub returns-in-Pointer : goal.returns-in-Pointer
returns-in-Pointer c =
    let other = value_type (seen c.args.y.now) in
    let f = c.in-Pointer.field-0 in
    c.points_to.ensures f
    ∙ ap (λ x. are_like_pointers (pointer f (type_of x)) other) c.deref.ensures
    ∙ ap (λ x. are_like_pointers (decayed c.args.x.now.constant (type_of x)) other) (sym c.in-Pointer.is)

pub returns-in-Array : goal.returns-in-Array
returns-in-Array c =
    let other = value_type (seen c.args.y.now) in
    let f = c.args.x.now.constant in
    c.points_to-in-Array.ensures f
    ∙ ap (λ x. are_like_pointers (pointer f (type_of x)) other) c.deref-in-Array.ensures
    ∙ ap (λ x. are_like_pointers (decayed f (type_of x)) other) (sym c.in-Array.is)

pub returns-in-Unsized : goal.returns-in-Unsized
returns-in-Unsized c =
    let other = value_type (seen c.args.y.now) in
    let f = c.args.x.now.constant in
    c.points_to-in-Unsized.ensures f
    ∙ ap (λ x. are_like_pointers (pointer f (type_of x)) other) c.deref-in-Unsized.ensures
    ∙ ap (λ x. are_like_pointers (decayed f (type_of x)) other) (sym c.in-Unsized.is)
