use Rattle.std.proofs.Common.{◌≡◌, take}
use Rattle.im_check_program.specs.Given.{names_given}
use Rattle.im_check_program.proofs.given.names_of.Given as goal

abbrev pub invariant-loop-one : goal.invariant-loop-one
invariant-loop-one l = l.names ≡ names_given (take l.one-index l.given)
