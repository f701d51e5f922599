use Rattle.std.proofs.Common.{sym, ◌∙◌}
use Rattle.im_ctree.specs.Shape.{initializer_of}
use Rattle.im_types.specs.Shape.{type_of}
use Rattle.im_check_shapes.proofs.Texts.{is_string, no_string}
use Rattle.im_check_shapes.proofs.strings.is_open_string.Goals as goal

pub returns-in-Some : goal.returns-in-Some
returns-in-Some c =
    let facts = is_string (initializer_of c.args.i.now) _ c.in-Some.ensures in
    c.is_character.ensures ∙ sym (facts.free (type_of c.args.element.now))

pub returns-in-None : goal.returns-in-None
returns-in-None c = sym ((no_string (initializer_of c.args.i.now) c.in-None.ensures).free (type_of c.args.element.now))
