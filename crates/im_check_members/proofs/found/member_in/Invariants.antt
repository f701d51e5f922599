use Rattle.im_ctype.specs.Table.{types_of}
use Rattle.im_check_members.proofs.Walk.{Left}
use Rattle.im_check_members.proofs.found.member_in.Given as goal

abbrev pub invariant-loop-i : goal.invariant-loop-i
invariant-loop-i l = Left (types_of l.table) l.name l.members l.places l.i
