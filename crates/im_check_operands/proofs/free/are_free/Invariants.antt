use Rattle.std.proofs.Common.{◌≡◌}
use Rattle.im_ctype.specs.Table.{members_in, types_of}
use Rattle.im_check_constancy.specs.im_rules.Rules as u
use Rattle.im_check_operands.proofs.Frees.{free_from}
use Rattle.im_check_operands.proofs.free.are_free.Given as goal

abbrev pub invariant-loop-member : goal.invariant-loop-member
invariant-loop-member l =
    u.members_free l.free (members_in (types_of l.table) l.members) ≡ free_from l.free (types_of l.table) l.members l.member-index
