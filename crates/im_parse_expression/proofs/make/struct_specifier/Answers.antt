use Rattle.std.proofs.Common.{ap}
use Rattle.std.specs.Prelude.{None}
use Rattle.im_ctree.specs.Tree as t
use Rattle.im_parse_expression.proofs.DeclaringRows.{members_made}
use Rattle.im_parse_expression.proofs.make.struct_specifier.Goals as goal

pub returns : goal.returns
returns c = ap (λ z. t.struct_specifier c.args.at None z) (members_made c.args.members)
