use Rattle.std.proofs.Common.{ap, ◌∙◌, map}
use Rattle.im_ctree.specs.Tree as t
use Rattle.im_parse_core.specs.Lists.{before}
use Rattle.im_parse_expression.specs.Declaring.{one_function, add_parameter, parameter_tree}
use Rattle.im_parse_expression.proofs.DeclaringRows.{parameters_made}
use Rattle.im_parse_expression.proofs.make.function.Goals as goal

pub returns : goal.returns
returns c = ap (λ z. one_function c.args.at z) (parameters_made c.shrink_to_fit.new.self ∙ ap (λ z. before add_parameter (map parameter_tree z) t.no_parameters) c.shrink_to_fit.ensures.items)
