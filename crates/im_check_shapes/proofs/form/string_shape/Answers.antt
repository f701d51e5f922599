use Rattle.std.proofs.Common.{sym}
use Rattle.im_ctree.specs.Shape.{initializer_of}
use Rattle.im_types.specs.Shape.{type_of}
use Rattle.im_check_shapes.proofs.Texts.{is_string, no_string}
use Rattle.im_check_shapes.proofs.form.string_shape.Goals as goal

pub returns-in-Some : goal.returns-in-Some
returns-in-Some c = sym ((is_string (initializer_of c.args.i.now) c.in-Some.s.now c.in-Some.ensures).form (type_of c.args.element.now))

pub returns-in-None : goal.returns-in-None
returns-in-None c = sym ((no_string (initializer_of c.args.i.now) c.in-None.ensures).form (type_of c.args.element.now))
