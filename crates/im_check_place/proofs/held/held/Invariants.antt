use Rattle.std.proofs.Common.{List}
use Rattle.im_ctype.specs.declared.member.MemberPlace.{MemberPlace}
use Rattle.im_ctype.specs.Layout.{layouts}
use Rattle.im_ctype.specs.Table.{members_in, types_of, structs_of}
use Rattle.im_ctype.proofs.Walked.{SoFar}
use Rattle.im_check_place.proofs.held.held.Given as goal

abbrev pub invariant-loop-member : goal.invariant-loop-member
invariant-loop-member l =
    (found : List MemberPlace) × SoFar (layouts (structs_of l.table)) (members_in (types_of l.table) l.members) l.member-index l.so_far.size l.so_far.alignment l.so_far.cells found
