use Rattle.std.proofs.Common.{sym, ◌∙◌}
use Rattle.im_ctree_parts.specs.Lists.{initializers_from}
use Rattle.im_types.specs.Shape.{type_of}
use Rattle.im_check_shapes.proofs.Alone.{count}
use Rattle.im_check_shapes.proofs.Texts.{counted_items, counted_others}
use Rattle.im_check_shapes.proofs.counted.counted_list.Goals as goal

pub returns-in_default : goal.returns-in_default
returns-in_default c = λ at.
    let xs = c.args.items.now in
    sym (counted_items (type_of c.args.element.now) at (initializers_from xs) c.in_default.ensures ∙ count xs)

pub returns-else-is_character : goal.returns-else-is_character
returns-else-is_character c = λ at.
    let xs = c.args.items.now in
    let plain = sym c.is_character.ensures ∙ c.if-is_character.false in
    sym (counted_others (type_of c.args.element.now) at (initializers_from xs) plain ∙ count xs)
