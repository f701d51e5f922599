use Rattle.std.proofs.Common.{ap}
use Rattle.std.specs.Prelude.{None}
use Rattle.im_ctree.specs.Tree as t
use Rattle.im_parse_expression.proofs.DeclaringRows.{enumerators_made}
use Rattle.im_parse_expression.proofs.make.enum_specifier.Goals as goal

pub returns : goal.returns
returns c = ap (λ z. t.enum_specifier c.args.at None z) (enumerators_made c.args.enumerators)
