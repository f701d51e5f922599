use Rattle.im_ctype.specs.Layout.{layouts}
use Rattle.im_ctype.specs.Table.{members_in, types_of, structs_of}
use Rattle.im_ctype.proofs.Walked.{SoFar}
use Rattle.im_ctype.proofs.table.TypeTable.placed.Given as goal

abbrev pub invariant-loop-member : goal.invariant-loop-member
invariant-loop-member l =
    SoFar (layouts (structs_of l.self)) (members_in (types_of l.self) l.members) l.member-index l.size l.alignment l.cells l.places.items
