use Rattle.std.proofs.Common.{ap, ◌∙◌, map}
use Rattle.im_ctree.specs.Tree as t
use Rattle.im_ctree.specs.Shape.{declarator_of, suffixes_of}
use Rattle.im_ctree.specs.declared.declarator.Core.TheBlock.{hidden-the_row-Suffix-4}
use Rattle.im_ctree.specs.declared.declarator.Declarator.{rolls-Declarator'}
use Rattle.im_parse_core.specs.Lists.{before}
use Rattle.im_parse_expression.specs.Declaring.{stars_tree, add_suffix, suffix_tree}
use Rattle.im_parse_expression.proofs.DeclaringRows.{suffixes_made}
use Rattle.im_parse_expression.proofs.make.named.Goals as goal

pub returns : goal.returns
returns c = ap declarator_of (rolls-Declarator' (record { at = c.args.at; stars = c.args.stars; core = _; suffixes = c.shrink_to_fit.new.self })) ∙ ap (λ z. t.declarator c.args.at (stars_tree c.args.stars) (t.name_core z) (suffixes_of (hidden-the_row-Suffix-4 c.shrink_to_fit.new.self))) c.in_ok-from_slice.ensures.items ∙ ap (λ z. t.declarator c.args.at (stars_tree c.args.stars) (t.name_core c.args.name.now) z) (suffixes_made c.shrink_to_fit.new.self ∙ ap (λ z. before add_suffix (map suffix_tree z) t.no_suffixes) c.shrink_to_fit.ensures.items)
