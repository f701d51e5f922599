use Rattle.std.proofs.Common.{max, [], ◌∷◌, ◌++◌, ◌+◌, refl, sym, subst}
use Rattle.im_ctype.specs.declared.extent.Extent.{Extent}
use Rattle.im_ctype.specs.declared.member.MemberPlace.{MemberPlace}
use Rattle.im_ctype.specs.Layout.{layouts, round_up}
use Rattle.im_ctype.specs.Table.{members_in, types_of, structs_of}
use Rattle.im_ctype.proofs.Walked.{SoFar, so_far-none, member-next, ord_max-is}
use Rattle.im_check_place.proofs.held.held.Goals as goal

pub loop-member-init : goal.loop-member-init
loop-member-init c = ([], so_far-none _ _ [] refl)

pub loop-member-preserved : goal.loop-member-preserved
loop-member-preserved c =
    let t = c.args.table.now in
    let ms = c.args.members.now in
    let s = c.loop-member.invariant in
    let x = c.extent-part.result in
    let f = c.loop-member.so_far in
    let here : MemberPlace = record { offset = round_up f.size x.alignment; first_cell = f.cells } in
    let there = s.0 ++ here ∷ [] in
    let largest = sym (ord_max-is f.alignment x.alignment) in
    let n = member-next t ms c.loop-member.member-index f.size f.alignment f.cells s.0 s.1 c.member-item.result c.loop-member-test.true c.member-item.is x c.extent-part.ensures (round_up f.size x.alignment) (max f.alignment x.alignment) there refl largest refl in (
      there,
      subst (λ (y : Extent). SoFar (layouts (structs_of t)) (members_in (types_of t) ms) (c.loop-member.member-index + 1) y.size y.alignment y.cells there) (sym c.in_ok-next.ensures) n,
    )
