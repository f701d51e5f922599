use Rattle.im_ctree.specs.Shape.{tree_of}
use Rattle.im_check_name_map.specs.im_rules.Outline as o
use Rattle.im_check_outline.proofs.Walks.{outline-made}
use Rattle.im_check_outline.proofs.unit.outline.Goals as goal

pub returns : goal.returns
returns c =
    outline-made
    c.in_ok-walk.walk
    (o.whole_walk (tree_of c.args.tree.now))
    c.in_ok-statics.statics
    c.in_ok-bodies.bodies
    c.in_ok-walk.ensures
    (rw c.deref.ensures.value at c.in_ok-statics.ensures)
    (rw c.deref-2.ensures.value at c.in_ok-bodies.ensures)
