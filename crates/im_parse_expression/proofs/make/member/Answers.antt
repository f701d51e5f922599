use Rattle.std.proofs.Common.{ap, ◌∙◌}
use Rattle.im_ctree.specs.Shape.{specifiers_of}
use Rattle.im_ctree.specs.declared.specifier.Member.{rolls-Member'}
use Rattle.im_parse_expression.specs.Declaring.{MemberTree, member_tree}
use Rattle.im_parse_expression.proofs.DeclaringRows.{declarators_made}
use Rattle.im_parse_expression.proofs.make.member.Goals as goal

pub returns : goal.returns
returns c = ap member_tree (rolls-Member' (record { specifiers = c.args.specifiers; declarators = c.args.declarators })) ∙ ap (λ z. let m : MemberTree = (specifiers_of c.args.specifiers, z) in m) (declarators_made c.args.declarators)
