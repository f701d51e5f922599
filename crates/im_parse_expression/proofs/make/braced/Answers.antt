use Rattle.std.proofs.Common.{ap, ◌∙◌, map}
use Rattle.im_ctree.specs.Tree as t
use Rattle.im_ctree.specs.Shape.{initializer_of}
use Rattle.im_parse_core.specs.Lists.{before}
use Rattle.im_parse_expression.proofs.DeclaringRows.{initializers_made}
use Rattle.im_parse_expression.proofs.make.braced.Goals as goal

pub returns : goal.returns
returns c = ap (λ z. t.braced_initializer c.args.at z) (initializers_made c.shrink_to_fit.new.self ∙ ap (λ z. before t.more_initializers (map initializer_of z) t.no_initializers) c.shrink_to_fit.ensures.items)
