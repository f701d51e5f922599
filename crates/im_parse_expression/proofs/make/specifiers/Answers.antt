use Rattle.std.proofs.Common.{ap, ◌∙◌, map}
use Rattle.im_ctree.specs.Tree as t
use Rattle.im_ctree.specs.Shape.{specifiers_of}
use Rattle.im_ctree.specs.declared.specifier.Specifiers.{rolls-Specifiers'}
use Rattle.im_parse_core.specs.Lists.{before}
use Rattle.im_parse_expression.specs.Declaring.{specifier_tree}
use Rattle.im_parse_expression.proofs.DeclaringRows.{specifiers_made}
use Rattle.im_parse_expression.proofs.make.specifiers.Goals as goal

pub returns : goal.returns
returns c = ap specifiers_of (rolls-Specifiers' (record { at = c.args.at; items = c.shrink_to_fit.new.self })) ∙ ap (λ z. t.specifiers c.args.at z) (specifiers_made c.shrink_to_fit.new.self ∙ ap (λ z. before t.more_specifiers (map specifier_tree z) t.no_specifiers) c.shrink_to_fit.ensures.items)
