use Rattle.std.proofs.Common.{ap}
use Rattle.im_ctree.specs.Tree as t
use Rattle.im_parse_expression.specs.Parsing.{tree_of}
use Rattle.im_parse_statement.proofs.Rows.{items_made}
use Rattle.im_parse_statement.proofs.make.switch.Goals as goal

pub returns : goal.returns
returns c = ap (λ z. t.switch_statement c.args.at (tree_of c.args.value) (t.block c.args.body.at z)) (items_made c.args.body.items)
