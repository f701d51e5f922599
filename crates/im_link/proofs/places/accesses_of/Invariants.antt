use Rattle.std.specs.Prelude.{nat_eq}
use Rattle.std.specs.HashMap as hash
use Rattle.im_link.specs.State.{AreAccessesOf}
use Rattle.im_link.proofs.places.accesses_of.Given as goal

abbrev pub invariant-loop-i : goal.invariant-loop-i
invariant-loop-i l = AreAccessesOf l.lines l.i (hash.get nat_eq l.accesses)
