use Rattle.std.proofs.Common.{◌≡◌, ◌<◌, ◌+◌, [], ◌∷◌, ◌++◌, ap, sym, subst, length, get_or, refl, arith}
use Rattle.im_ctype.specs.declared.listing.Pending.TheVariants.{Objects}
use Rattle.im_ctype.specs.declared.member.MemberPlace.{MemberPlace}
use Rattle.im_ctype.specs.declared.member.Member as rust
use Rattle.im_ctype.specs.Layout.{layouts, empty_layout}
use Rattle.im_ctype.specs.Types.{members_of}
use Rattle.im_ctype.specs.Table.{IsIn, structs_of, types_of, member_in}
use Rattle.im_ctype.proofs.Steps.{length-places, member-inside, member-there, place-there, step-member, step-none}
use Rattle.im_ctype.proofs.listing.take_up_member.Goals as goal

pub bounds-places-from : goal.bounds-places-from
bounds-places-from c =
    let t = c.args.table.now in
    let p = member-there t c.args.number c.args.from c.members-members.result.now c.index-members-from.result c.members-members.ensures.members c.if-from-members.true c.index-members-from.is in
    let l = length-places (layouts (structs_of t)) (members_of (structs_of t) c.args.number) empty_layout in
    let e = ap length c.places-places.ensures in
    omega (arith, p.0, l, e)

pub overflow_add-at : goal.overflow_add-at
overflow_add-at c =
    let t = c.args.table.now in
    let d : MemberPlace = record { offset = 0; first_cell = 0 } in
    let p = member-there t c.args.number c.args.from c.members-members.result.now c.index-members-from.result c.members-members.ensures.members c.if-from-members.true c.index-members-from.is in
    let q = place-there t c.args.number c.args.from c.places-places.result.now d c.places-places.ensures p.0 in
    let inside = member-inside (structs_of t) c.args.number c.args.from (member_in (types_of t) c.index-members-from.result) (get_or c.places-places.result.now c.args.from d) c.members-members.ensures.complete p.0 p.1 q in
    let held = c.requires.next_fits in
    omega (arith, inside, held)

pub returns-in_ok-push-2 : goal.returns-in_ok-push-2
returns-in_ok-push-2 c = λ found.
    let t = c.args.table.now in
    let d : MemberPlace = record { offset = 0; first_cell = 0 } in
    let p = member-there t c.args.number c.args.from c.members-members.result.now c.index-members-from.result c.members-members.ensures.members c.if-from-members.true c.index-members-from.is in
    let q = place-there t c.args.number c.args.from c.places-places.result.now d c.places-places.ensures p.0 in
    let known : IsIn t c.index-members-from.result.ty = subst (λ (m : rust.Member). m.ty.0 < length t.nodes) (sym c.index-members-from.is) (c.members-members.ensures.known c.args.from c.index-members-from.result c.if-from-members.true) in
    let e = subst (λ (m : rust.Member). c.push-then-from-members.new.self.items ≡ c.push.new.self.items ++ Objects m.ty (c.args.at + (get_or c.places-places.result.now c.args.from d).offset) 1 ∷ []) (sym c.index-members-from.is) c.in_ok-push-2.ensures.items in
    step-member t c.args.pending.now.items c.push.new.self.items c.push-then-from-members.new.self.items found c.args.number c.args.from c.args.at c.index-members-from.result (get_or c.places-places.result.now c.args.from d)
    c.requires.fit c.members-members.ensures.complete p.0 p.1 q known c.requires.next_fits c.in_ok-push.ensures.items e

pub returns-else-from-members : goal.returns-else-from-members
returns-else-from-members c = λ found.
    let e = ap length c.members-members.ensures.members in
    let f = c.if-from-members.false in
    step-none c.args.table.now c.args.pending.now.items c.args.pending.now.items found c.requires.fit c.args.number c.args.from c.args.at (omega (arith, e, f)) refl
