use Rattle.im_ctree.specs.Shape.{tree_of}
use Rattle.im_driver.proofs.checking.shallow.Goals as goal

pub returns-in-Some : goal.returns-in-Some
returns-in-Some c = c.deep.ensures (tree_of c.args.tree.now) (rw c.in-Some.is at c.in-Ok.ensures)

pub returns-in-None : goal.returns-in-None
returns-in-None c = rw c.in-None.is at c.in-Ok.ensures

pub returns-in-Err : goal.returns-in-Err
returns-in-Err c = rw c.whole.ensures tt
