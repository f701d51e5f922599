use Rattle.std.proofs.Common.{◌≡◌, ◌<◌, ◌≤◌, ◌∙◌, ap, sym, subst, length, List, get_or, map, arith}
use Rattle.std.proofs.lemmas.Bool.{ltb-true}
use Rattle.std.proofs.lemmas.List.{get_or-map, length-map}
use Rattle.std.proofs.lemmas.Option.{slice_get_past}
use Rattle.im_ctype.specs.declared.table.Structure.{Structure}
use Rattle.im_ctype.specs.declared.member.Member as rust
use Rattle.im_ctype.specs.Kept.{AreMembersIn}
use Rattle.im_ctype.specs.Table.{Table, rows_at}
use Rattle.im_ctype.proofs.table.TypeTable.members.Goals as goal

pub returns-in-Some-clause-known : goal.returns-in-Some-clause-known
returns-in-Some-clause-known c =
    let ss = c.self.inside.structs.items in
    let s = c.in-Some.structure.now in
    let f = λ (x : Structure). x.members.items in
    let is : s ≡ get_or ss c.args.number s = c.in-Some.ensures.lookup.1 ∙ ap (λ (x : List Structure). get_or x c.args.number s) c.deref.ensures.value in
    let k : c.args.number < length c.deref.result.now = ltb-true c.args.number (length c.deref.result.now) (sym c.in-Some.ensures.lookup.0) in
    let lt : c.args.number < length ss = subst (λ (x : List Structure). c.args.number < length x) c.deref.ensures.value k in
    let l : c.args.number < length (map {A = Structure} f ss) = omega (arith, length-map {A = Structure} ss f) in
    let here = c.self.invariant.members c.args.number (f s) l in
    let e : get_or (map {A = Structure} f ss) c.args.number (f s) ≡ f s = get_or-map {X = Structure} f ss c.args.number s (f s) lt ∙ ap f (sym is) in
    let n = ap (λ (t : Table). length t.nodes) c.self.view_is in
    subst (λ (x : List rust.Member). AreMembersIn (length c.args.self.now.nodes) x) (sym c.deref-in-Some.ensures.value)
    (subst (λ m. AreMembersIn m (f s)) n (subst (AreMembersIn (length c.self.inside.nodes)) e here))

pub returns-in-None-clause-members : goal.returns-in-None-clause-members
returns-in-None-clause-members c =
    let past : length c.deref.result.now ≤ c.args.number = c.in-None.ensures.lookup.3 in
    let ss = c.self.inside.structs.items in
    let le : length ss ≤ c.args.number = subst (λ (x : List Structure). length x ≤ c.args.number) c.deref.ensures.value past in
    let n : length c.args.self.now.structs ≡ length ss = ap (λ (t : Table). length t.structs) (sym c.self.view_is) ∙ length-map {A = Structure} ss (λ x. x.members.items) in
    ap rows_at (sym (slice_get_past c.args.self.now.structs c.args.number (omega (arith, le, n))))
