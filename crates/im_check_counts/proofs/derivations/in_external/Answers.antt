use Rattle.im_check_counts.specs.Derivations.{known_of}
use Rattle.im_check_counts.proofs.Derived.{walked_none}
use Rattle.im_check_counts.proofs.derivations.in_external.Goals as goal

pub returns-in-Declaration : goal.returns-in-Declaration
returns-in-Declaration c = rw c.in-Declaration.is c.in_declaration.ensures

pub returns-in-Function : goal.returns-in-Function
returns-in-Function c = rw c.in-Function.is (walked_none (known_of c.args.known.now))
