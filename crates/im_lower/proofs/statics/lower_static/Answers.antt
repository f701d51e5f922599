use Rattle.std.proofs.Common.{◌≡◌, List, map, ap, ◌∙◌}
use Rattle.im_block.specs.declared.unit.Constant.{Constant as BlockConstant}
use Rattle.im_block.specs.Meaning.{constant}
use Rattle.im_ctype.specs.Table.{layout_of}
use Rattle.im_typed.specs.declared.program.Constant.{Constant}
use Rattle.im_typed.specs.ProgramOf.{first_of}
use Rattle.im_lower.proofs.StaticParts.{same_parts}
use Rattle.im_lower.proofs.statics.lower_static.Goals as goal

pub returns : goal.returns
returns c =
    let types = c.args.types.now in
    let o = c.args.object.now in
    let made = c.in_ok-lower_object.field-0 in
    let values = c.in_ok-lower_values.field-0 in
    same_parts c.in_ok-from_slice.field-0.items o.object.name.items made.size o.object.size made.cells.items (layout_of types o.object.ty).cells (map {A = BlockConstant} constant values.items) (map {A = Constant} (first_of types) o.cells.items)
    (c.in_ok-from_slice.ensures.items ∙ c.deref.ensures.value) c.in_ok-lower_object.ensures.size c.in_ok-lower_object.ensures.cells
    (c.in_ok-lower_values.ensures types ∙ ap (λ (xs : List Constant). map (first_of types) xs) c.deref-2.ensures.value)
