use Rattle.std.proofs.Common.{◌<◌, ◌∙◌, sym, subst, length, get_or, arith}
use Rattle.im_ctype.specs.declared.member.Member as rust
use Rattle.im_ctype.specs.declared.member.MemberPlace.{MemberPlace}
use Rattle.im_ctype.specs.Table.{IsIn, types_of}
use Rattle.im_check_members.proofs.Walk.{as-many, place-at, none-passed, passed, reached, none-has, found-at}
use Rattle.im_check_members.proofs.found.member_in.Goals as goal

pub bounds-places-i : goal.bounds-places-i
bounds-places-i c =
    let e = as-many c.args.table.now c.args.number c.members-members.result.now c.places-places.result.now c.members-members.ensures.members c.places-places.ensures in
    omega (arith, e)

pub loop-i-init : goal.loop-i-init
loop-i-init c = none-passed _ _ _ _

pub loop-i-preserved : goal.loop-i-preserved
loop-i-preserved c =
    let t = c.args.table.now in
    let ms = c.members-members.result.now in
    let ps = c.places-places.result.now in
    let i = c.loop-i.i in
    let d : MemberPlace = record { offset = 0; first_cell = 0 } in
    let e = as-many t c.args.number ms ps c.members-members.ensures.members c.places-places.ensures in
    let within : i < length ps = omega (arith, e) in
    passed (types_of t) c.args.name.now ms ps i c.index-members-i.result (get_or ps i d) c.loop-i-test.true c.index-members-i.is within (place-at ps i d within) c.loop-i.invariant
    (sym c.has_name.ensures ∙ c.if-has_name.false)

pub returns-then-has_name : goal.returns-then-has_name
returns-then-has_name c =
    let t = c.args.table.now in
    let ms = c.members-members.result.now in
    let ps = c.places-places.result.now in
    let i = c.loop-i.i in
    let m = c.index-members-i.result in
    let d : MemberPlace = record { offset = 0; first_cell = 0 } in
    let e = as-many t c.args.number ms ps c.members-members.ensures.members c.places-places.ensures in
    let within : i < length ps = omega (arith, e) in
    let known : IsIn t m.ty = subst (λ (y : rust.Member). y.ty.0 < length t.nodes) (sym c.index-members-i.is) (c.members-members.ensures.known i m c.loop-i-test.true) in
    found-at t c.args.number c.args.name.now ms ps m (get_or ps i d) c.members-members.ensures.members c.places-places.ensures known
    (reached (types_of t) c.args.name.now ms ps i m (get_or ps i d) c.loop-i-test.true c.index-members-i.is within (place-at ps i d within) c.loop-i.invariant
    (sym c.has_name.ensures ∙ c.if-has_name.true))

pub returns : goal.returns
returns c =
    none-has c.args.table.now c.args.number c.args.name.now c.members-members.result.now c.places-places.result.now c.loop-i.i c.members-members.ensures.members c.loop-i-test.false c.loop-i.invariant
