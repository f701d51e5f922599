use Rattle.im_ctree_parts.specs.Lists.{expression_in, initializers_from}
use Rattle.im_check_shapes.specs.Parts.{only_expression}
use Rattle.im_check_shapes.proofs.Texts.{text_made}
use Rattle.im_check_shapes.proofs.parts.only_string.Goals as goal

pub returns-in-Some : goal.returns-in-Some
returns-in-Some c = text_made (only_expression (initializers_from c.args.items.now)) (expression_in c.in-Some.e.now) c.text_in.result c.in-Some.ensures c.text_in.ensures
