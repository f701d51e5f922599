use Rattle.std.proofs.Common.{◌∙◌}
use Rattle.im_ctree.specs.Shape.{declarator_of}
use Rattle.im_check_counts.proofs.Declarators.{token_of, from_parts}
use Rattle.im_check_counts.proofs.heads.declared_head.Goals as goal

pub returns : goal.returns
returns c = from_parts (declarator_of c.args.d.now) _ _ (token_of c.args.d.now) (c.in_ok-name.ensures.items ∙ c.name_of.ensures)
