use Rattle.std.proofs.Common.{◌≡◌, ◌<◌, ◌∙◌, ap, sym, subst, length, List, get_or, map, arith}
use Rattle.std.proofs.lemmas.Bool.{ltb-true}
use Rattle.std.proofs.lemmas.List.{get_or-map, length-map}
use Rattle.im_ctype.specs.declared.table.Structure.{Structure}
use Rattle.im_ctype.specs.Kept.{extent_of, Entry}
use Rattle.im_ctype.specs.Layout.{layouts, layout_at}
use Rattle.im_ctype.specs.Table.{Table, structs_of}
use Rattle.im_ctype.proofs.Numbered.{struct-extent-at}
use Rattle.im_ctype.proofs.table.TypeTable.struct_extent.Goals as goal

pub returns-in-Some : goal.returns-in-Some
returns-in-Some c =
    let ss = c.self.inside.structs.items in
    let s = c.in-Some.structure.now in
    let f = λ (x : Structure). let e : Entry = record { places = x.places.items; extent = x.extent } in e in
    let is : s ≡ get_or ss c.args.number s = c.in-Some.ensures.lookup.1 ∙ ap (λ (x : List Structure). get_or x c.args.number s) c.deref.ensures.value in
    let k : c.args.number < length c.deref.result.now = ltb-true c.args.number (length c.deref.result.now) (sym c.in-Some.ensures.lookup.0) in
    let lt : c.args.number < length ss = subst (λ (x : List Structure). c.args.number < length x) c.deref.ensures.value k in
    let l : c.args.number < length (map {A = Structure} f ss) = omega (arith, length-map {A = Structure} ss f) in
    subst (λ (x : Table). c.in-Some.structure.now.extent ≡ extent_of (layout_at (layouts (structs_of x)) c.args.number)) c.self.view_is
    (struct-extent-at _ c.self.inside.extents.items _ c.args.number (f s) c.self.invariant l (get_or-map {X = Structure} f ss c.args.number s (f s) lt ∙ ap f (sym is)))
