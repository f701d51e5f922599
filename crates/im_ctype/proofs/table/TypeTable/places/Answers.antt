use Rattle.std.proofs.Common.{◌≡◌, ◌<◌, ◌≤◌, ◌∙◌, ap, sym, subst, length, List, get_or, map, refl, arith}
use Rattle.std.proofs.lemmas.Bool.{ltb-true}
use Rattle.std.proofs.lemmas.List.{get_or-map, length-map}
use Rattle.std.proofs.lemmas.Option.{slice_get_past, slice_get_read}
use Rattle.im_ctype.specs.declared.table.Structure.{Structure}
use Rattle.im_ctype.specs.declared.member.Member as rust
use Rattle.im_ctype.specs.Kept.{Entry}
use Rattle.im_ctype.specs.Types.{members_at}
use Rattle.im_ctype.specs.Layout.{layouts}
use Rattle.im_ctype.specs.Members.{places, places_in}
use Rattle.im_ctype.specs.Table.{Table, structs_of, types_of, members_in}
use Rattle.im_ctype.proofs.table.TypeTable.places.Goals as goal

pub returns-in-Some : goal.returns-in-Some
returns-in-Some c =
    let ss = c.self.inside.structs.items in
    let s = c.in-Some.structure.now in
    let f = λ (x : Structure). let e : Entry = record { places = x.places.items; extent = x.extent } in e in
    let is : s ≡ get_or ss c.args.number s = c.in-Some.ensures.lookup.1 ∙ ap (λ (x : List Structure). get_or x c.args.number s) c.deref.ensures.value in
    let k : c.args.number < length c.deref.result.now = ltb-true c.args.number (length c.deref.result.now) (sym c.in-Some.ensures.lookup.0) in
    let lt : c.args.number < length ss = subst (λ (x : List Structure). c.args.number < length x) c.deref.ensures.value k in
    let l : c.args.number < length (map {A = Structure} f ss) = omega (arith, length-map {A = Structure} ss f) in
    let e : f s ≡ get_or (map {A = Structure} f ss) c.args.number (f s) = sym (get_or-map {X = Structure} f ss c.args.number s (f s) lt ∙ ap f (sym is)) in
    let at = slice_get_read {X = Entry} (map {A = Structure} f ss) (length (map {A = Structure} f ss)) c.args.number (f s) refl l e in
    c.deref-in-Some.ensures.value
    ∙ subst (λ (x : Table). s.places.items ≡ places (structs_of x) c.args.number) c.self.view_is (c.self.invariant.struct_places c.args.number (f s) at)

pub returns-in-None : goal.returns-in-None
returns-in-None c =
    let past : length c.deref.result.now ≤ c.args.number = c.in-None.ensures.lookup.3 in
    let ss = c.self.inside.structs.items in
    let le : length ss ≤ c.args.number = subst (λ (x : List Structure). length x ≤ c.args.number) c.deref.ensures.value past in
    let v = c.self.view_is in
    let n : length c.args.self.now.structs ≡ length ss = ap (λ (t : Table). length t.structs) (sym v) ∙ length-map {A = Structure} ss (λ x. x.members.items) in
    let m = length-map {A = List rust.Member} c.args.self.now.structs (members_in (types_of c.args.self.now)) in
    let none = slice_get_past (structs_of c.args.self.now) c.args.number (omega (arith, le, n, m)) in
    ap (λ o. places_in (layouts (structs_of c.args.self.now)) (members_at o)) (sym none)
