use Rattle.std.proofs.Common.{ap, ◌∙◌}
use Rattle.std.specs.Prelude.{Some}
use Rattle.im_ctree.specs.Tree as t
use Rattle.im_ctree.specs.Shape.{members_of}
use Rattle.im_ctree.specs.declared.declarator.Core.TheBlock.{hidden-the_row-Member-2}
use Rattle.im_parse_expression.proofs.DeclaringRows.{members_made}
use Rattle.im_parse_expression.proofs.make.named_struct.Goals as goal

pub returns : goal.returns
returns c = ap (λ z. t.struct_specifier c.args.at (Some z) (members_of (hidden-the_row-Member-2 c.args.members))) c.in_ok-tag.ensures.items ∙ ap (λ z. t.struct_specifier c.args.at (Some c.args.name.now) z) (members_made c.args.members)
