use Rattle.std.proofs.Common.{◌≡◌, ◌≤◌, ◌+◌, max, [], ◌∷◌, ◌++◌, length, IfOk, refl, sym, ap, ◌∙◌, subst, arith}
use Rattle.std.proofs.lemmas.List.{length-map}
use Rattle.im_ctype.specs.declared.extent.Extent.{Extent}
use Rattle.im_ctype.specs.declared.member.Member as rust
use Rattle.im_ctype.specs.declared.member.MemberPlace.{MemberPlace}
use Rattle.im_ctype.specs.Types.{struct}
use Rattle.im_ctype.specs.Kept.{extent_of}
use Rattle.im_ctype.specs.Layout.{layout, layouts, round_up, struct_in}
use Rattle.im_ctype.specs.Table.{member_in, members_in, types_of, structs_of}
use Rattle.im_ctype.proofs.Walked.{SoFar, so_far-none, member-next, ord_max-is, all-extent}
use Rattle.im_types.proofs.Tables.{struct-at}
use Rattle.im_types.proofs.measure.struct_extent.Goals as goal

pub loop-member-init : goal.loop-member-init
loop-member-init c = ([], so_far-none _ _ [] refl)

pub loop-member-preserved : goal.loop-member-preserved
loop-member-preserved c =
    let t = c.args.table.now in
    let ms = c.members-member-items.result.now in
    let s = c.loop-member.invariant in
    let x = c.extent-part.result in
    let f = c.loop-member.so_far in
    let here : MemberPlace = record { offset = round_up f.size x.alignment; first_cell = f.cells } in
    let there = s.0 ++ here ∷ [] in
    let largest = sym (ord_max-is f.alignment x.alignment) in
    let n = member-next t ms c.loop-member.member-index f.size f.alignment f.cells s.0 s.1 c.member-item.result c.loop-member-test.true c.member-item.is x c.extent-part.ensures (round_up f.size x.alignment) (max f.alignment x.alignment) there refl largest refl in (
      there,
      subst (λ (y : Extent). SoFar (layouts (structs_of t)) (members_in (types_of t) ms) (c.loop-member.member-index + 1) y.size y.alignment y.cells there) (sym c.in_ok-next.ensures) n,
    )

pub returns : goal.returns
returns c =
    let t = c.args.table.now in
    let ms = c.members-member-items.result.now in
    let s = c.loop-member.invariant in
    let f = c.loop-member.so_far in
    let l = length-map {A = rust.Member} ms (member_in (types_of t)) in
    let h = c.loop-member-test.false in
    let past : length (members_in (types_of t) ms) ≤ c.loop-member.member-index = omega (arith, l, h) in
    let e = all-extent (layouts (structs_of t)) (members_in (types_of t) ms) c.loop-member.member-index f.size f.alignment f.cells s.0 s.1 past in
    let w : extent_of (layout (structs_of t) (struct c.args.number)) ≡ extent_of (struct_in (layouts (structs_of t)) (members_in (types_of t) ms)) =
    ap extent_of (struct-at t c.args.number c.members-member-items.ensures.complete)
    ∙ ap (λ xs. extent_of (struct_in (layouts (structs_of t)) (members_in (types_of t) xs))) (sym c.members-member-items.ensures.members) in
    subst (λ (z : Extent). IfOk c.with_trailing_bytes.result (λ e. e ≡ z)) (sym (w ∙ e)) c.with_trailing_bytes.ensures
