use Rattle.std.proofs.lemmas.Option.{slice_get_within, get_or_from_slice_get}
use Rattle.im_ctype.specs.Types.{members_of}
use Rattle.im_ctype.specs.Members.{places}
use Rattle.im_ctype.proofs.Steps.{struct-cells, member-inside, member-from-first}
use Rattle.im_ctype.proofs.laws.member_law.Goals as goal

pub returns-clause-cells : goal.returns-clause-cells
returns-clause-cells c = λ structs n h. struct-cells structs n h

pub returns-clause-from_first : goal.returns-clause-from_first
returns-clause-from_first c = λ structs n i m p h is at.
    member-from-first structs n i m p h (slice_get_within (members_of structs n) i m is) (get_or_from_slice_get (members_of structs n) i m m is) (get_or_from_slice_get (places structs n) i p p at)

pub returns-clause-inside : goal.returns-clause-inside
returns-clause-inside c = λ structs n i m p h is at.
    member-inside structs n i m p h (slice_get_within (members_of structs n) i m is) (get_or_from_slice_get (members_of structs n) i m m is) (get_or_from_slice_get (places structs n) i p p at)
