use Rattle.std.proofs.Common.{◌≡◌, ◌<◌, length, arith}
use Rattle.im_ctype.specs.declared.member.MemberPlace.{MemberPlace}
use Rattle.im_types.specs.Shape.{type_of}
use Rattle.im_check_initialisers.proofs.Members.{as_many, as_many_places, member_there}
use Rattle.im_check_initialisers.proofs.member.member_at.Goals as goal

pub bounds-members-index : goal.bounds-members-index
bounds-members-index c =
    let m = as_many c.args.table.now c.args.number c.members-members.result.now c.members-members.ensures.members in
    omega (arith, m, c.requires)

pub bounds-places-index : goal.bounds-places-index
bounds-places-index c =
    let p = as_many_places c.args.table.now c.args.number c.places-places.result.now c.places-places.ensures in
    omega (arith, p, c.requires)

pub returns : goal.returns
returns c =
    let ms = c.members-members.result.now in
    let ps = c.places-places.result.now in
    let d : MemberPlace = record { offset = 0; first_cell = 0 } in
    let m = as_many c.args.table.now c.args.number ms c.members-members.ensures.members in
    let p = as_many_places c.args.table.now c.args.number ps c.places-places.ensures in
    let below : c.args.index < length ms = omega (arith, m, c.requires) in
    let within : c.args.index < length ps = omega (arith, p, c.requires) in
    member_there c.args.table.now c.args.number c.args.index ms ps c.index-members-index.result d (type_of c.in_ok-ty.ty) c.members-members.ensures.members c.places-places.ensures below within c.index-members-index.is c.in_ok-ty.ensures
