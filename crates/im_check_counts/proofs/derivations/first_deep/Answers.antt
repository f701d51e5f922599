use Rattle.im_ctree.specs.Shape.{tree_of}
use Rattle.im_check_counts.specs.Derivations.{known_of}
use Rattle.im_check_counts.proofs.Derived.{deep_of}
use Rattle.im_check_counts.proofs.derivations.first_deep.Goals as goal

pub returns : goal.returns
returns c =
    deep_of (tree_of c.args.tree.now) c.new-known.result (known_of c.in_externals.new.known) c.in_externals.result c.new-known.ensures (rw c.deref.ensures.value at c.in_externals.ensures)
