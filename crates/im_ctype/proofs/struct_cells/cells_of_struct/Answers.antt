use Rattle.std.proofs.Common.{◌≡◌, ◌≤◌, ◌<◌, ◌^◌, ◌∙◌, List, length, get_or, ap, subst, arith, rules}
use Rattle.im_ctype.specs.declared.cell.Cell.{Cell}
use Rattle.im_ctype.specs.declared.extent.Extent.{Extent}
use Rattle.im_ctype.specs.declared.member.MemberPlace.{MemberPlace}
use Rattle.im_ctype.specs.Types.{struct}
use Rattle.im_ctype.specs.Layout.{layout}
use Rattle.im_ctype.specs.Laws.{end_of}
use Rattle.im_ctype.specs.Table.{structs_of, types_of, type_at, layout_of, member_in}
use Rattle.im_ctype.proofs.Places.{cells-inside}
use Rattle.im_ctype.proofs.Steps.{member-inside, member-there, place-there}
use Rattle.im_ctype.proofs.StructCells.{none_left, no_more, finished}
use Rattle.im_ctype.proofs.struct_cells.cells_of_struct.Goals as goal

pub returns-then-index-places : goal.returns-then-index-places
returns-then-index-places c =
    let l = c.loop-index in
    let ms = c.members-members.result.now in
    let ps = c.places-places.result.now in
    let types = c.args.types.now in
    let past : length ps ≤ l.index = omega arith in
    finished types c.args.number l.found.items ms ps l.index l.invariant (none_left types ms ps l.index past) c.members-members.ensures.members c.places-places.ensures
    (c.member_law.ensures.cells (structs_of types) c.args.number c.members-members.ensures.complete)

pub returns : goal.returns
returns c =
    let l = c.loop-index in
    let ms = c.members-members.result.now in
    let ps = c.places-places.result.now in
    let types = c.args.types.now in
    let past : length ms ≤ l.index = omega arith in
    finished types c.args.number l.found.items ms ps l.index l.invariant (no_more types ms ps l.index past) c.members-members.ensures.members c.places-places.ensures
    (c.member_law.ensures.cells (structs_of types) c.args.number c.members-members.ensures.complete)

-- a member's cells lie within the struct, whose size has 64 bits
pub push_moved-requires : goal.push_moved-requires
push_moved-requires c = λ k d below.
    let types = c.args.types.now in
    let ss = structs_of types in
    let ms = c.members-members.result.now in
    let ps = c.places-places.result.now in
    let i = c.loop-index.index in
    let m = c.index-members-index.result in
    let start : MemberPlace = record { offset = 0; first_cell = 0 } in
    let part = (layout_of types m.ty).cells in
    let p = member-there types c.args.number i ms m c.members-members.ensures.members c.loop-index-test.true c.index-members-index.is in
    let q = place-there types c.args.number i ps start c.places-places.ensures p.0 in
    let inside = member-inside ss c.args.number i (member_in (types_of types) m) (get_or ps i start) c.members-members.ensures.complete p.0 p.1 q in
    let same : c.deref.result.now ≡ part = c.deref.ensures.value ∙ c.in_ok-part.ensures in
    let there : k < length part = subst (λ (cs : List Cell). k < length cs) same below in
    let within : end_of (get_or part k d) ≤ (layout_of types m.ty).size = cells-inside ss (type_at types m.ty) k d there in
    let cell : get_or c.deref.result.now k d ≡ get_or part k d = ap (λ (cs : List Cell). get_or cs k d) same in
    let offset : (get_or c.deref.result.now k d).offset ≡ (get_or part k d).offset = ap (λ (x : Cell). x.offset) cell in
    let size : c.struct_extent-extent.result.size ≡ (layout ss (struct c.args.number)).size = ap (λ (e : Extent). e.size) c.struct_extent-extent.ensures in
    let held : c.struct_extent-extent.result.size < 2 ^ 64 = search rules in
    omega (arith, inside, within, offset, size, held)
