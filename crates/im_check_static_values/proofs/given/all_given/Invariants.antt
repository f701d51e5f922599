use Rattle.im_check_items.specs.Shape.{items_in}
use Rattle.im_check_static_values.specs.Given.{AreGiven}
use Rattle.im_check_static_values.proofs.given.all_given.Given as goal

abbrev pub invariant-loop-item : goal.invariant-loop-item
invariant-loop-item g l = AreGiven l.table (g.S.Sizes.size l.sizes) (items_in l.table l.yielded) l.done.items
