use Rattle.std.proofs.Common.{sym, ap, ◌∙◌}
use Rattle.im_ctype.specs.Types.{pointer, are_like_pointers}
use Rattle.im_types.specs.Shape.{type_of}
use Rattle.im_types.proofs.compare.are_like_pointers.Goals as goal

pub returns-in-Pointer : goal.returns-in-Pointer
returns-in-Pointer c =
    let other = type_of c.args.second.now in
    let f = c.in-Pointer.field-0 in
    c.points_to.ensures f
    ∙ ap (λ x. are_like_pointers (pointer f (type_of x)) other) c.deref.ensures
    ∙ ap (λ x. are_like_pointers (type_of x) other) (sym c.in-Pointer.is)
