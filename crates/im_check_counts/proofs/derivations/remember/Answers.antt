use Rattle.im_check_counts.specs.Derivations.{derived_as}
use Rattle.im_check_counts.proofs.Derived.{remembered}
use Rattle.im_check_counts.proofs.derivations.remember.Goals as goal

pub returns : goal.returns
returns c = remembered c.args.known.now c.set.new.self (derived_as c.args.x) (rw c.in_ok-name.ensures.items at c.in_ok-set.ensures.set)
