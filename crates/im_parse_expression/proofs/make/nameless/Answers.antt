use Rattle.std.proofs.Common.{ap, ◌∙◌}
use Rattle.im_ctree.specs.Tree as t
use Rattle.im_ctree.specs.Shape.{declarator_of}
use Rattle.im_ctree.specs.declared.declarator.Declarator.{rolls-Declarator'}
use Rattle.im_parse_expression.specs.Declaring.{stars_tree}
use Rattle.im_parse_expression.proofs.DeclaringRows.{suffixes_made}
use Rattle.im_parse_expression.proofs.make.nameless.Goals as goal

pub returns : goal.returns
returns c = ap declarator_of (rolls-Declarator' (record { at = c.args.at; stars = c.args.stars; core = _; suffixes = c.args.suffixes })) ∙ ap (λ z. t.declarator c.args.at (stars_tree c.args.stars) t.absent_core z) (suffixes_made c.args.suffixes)
