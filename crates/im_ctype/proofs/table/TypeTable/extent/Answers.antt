use Rattle.std.proofs.Common.{◌≡◌, ◌∙◌, ap, sym, subst, arith}
use Rattle.std.proofs.lemmas.Option.{slice_get_within}
use Rattle.im_ctype.specs.Kept.{extent_of}
use Rattle.im_ctype.specs.Layout.{layouts, layout_in}
use Rattle.im_ctype.specs.Table.{Table, type_at, types_of, structs_of, layout_of, type_of_node}
use Rattle.im_ctype.proofs.Numbered.{type-of-node, kept-at, count-kept}
use Rattle.im_ctype.proofs.table.TypeTable.extent.Goals as goal

pub index-requires : goal.index-requires
index-requires c =
    let n = count-kept _ c.self.inside.extents.items _ c.self.invariant in
    let lt = slice_get_within c.self.inside.nodes c.args.ty.0 c.get.result c.get.ensures in
    omega (arith, n, lt)

pub returns-in-Struct : goal.returns-in-Struct
returns-in-Struct c =
    let t = type-of-node c.self.inside.nodes c.args.ty.0 c.get.result c.self.invariant.nodes c.get.ensures in
    let u : type_at c.args.self.now c.args.ty ≡ type_of_node (types_of c.args.self.now) c.get.result = subst (λ (x : Table). type_at x c.args.ty ≡ type_of_node (types_of x) c.get.result) c.self.view_is t in
    c.struct_extent.ensures
    ∙ ap (λ x. extent_of (layout_in (layouts (structs_of c.args.self.now)) x)) (sym (u ∙ ap (type_of_node (types_of c.args.self.now)) c.in-Struct.is))

pub returns-in_default : goal.returns-in_default
returns-in_default c =
    subst (λ (x : Table). c.index.result.now ≡ extent_of (layout_of x c.args.ty)) c.self.view_is
    (c.index.ensures ∙ kept-at _ c.self.inside.extents.items _ c.args.ty.0 c.get.result c.index.result.now c.self.invariant c.get.ensures c.in_default.not-Struct)
