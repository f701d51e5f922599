use Rattle.std.proofs.Common.{◌++◌, ap, ◌∙◌}
use Rattle.im_ctree.specs.Shape.{tree_of}
use Rattle.im_rules_limits.specs.Limits.{function_heads}
use Rattle.im_check_counts.specs.Heads.{heads_in}
use Rattle.im_check_counts.proofs.heads.function_heads.Goals as goal

pub returns : goal.returns
returns c =
    (rw c.deref.ensures.value at c.in_ok-in_externals.ensures)
    ∙ ap (λ z. heads_in z ++ function_heads (tree_of c.args.tree.now)) c.new-found.ensures.items
