use Rattle.std.proofs.Common.{ap, ◌∙◌}
use Rattle.std.specs.Prelude.{Some}
use Rattle.im_ctree.specs.Tree as t
use Rattle.im_ctree.specs.Shape.{enumerators_of}
use Rattle.im_ctree.specs.declared.declarator.Core.TheBlock.{hidden-the_row-Enumerator-3}
use Rattle.im_parse_expression.proofs.DeclaringRows.{enumerators_made}
use Rattle.im_parse_expression.proofs.make.named_enum.Goals as goal

pub returns : goal.returns
returns c = ap (λ z. t.enum_specifier c.args.at (Some z) (enumerators_of (hidden-the_row-Enumerator-3 c.args.enumerators))) c.in_ok-tag.ensures.items ∙ ap (λ z. t.enum_specifier c.args.at (Some c.args.name.now) z) (enumerators_made c.args.enumerators)
