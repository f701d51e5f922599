use Rattle.std.proofs.Common.{◌≡◌, sym, subst, List, length}
use Rattle.std.proofs.lemmas.List.{map-append}
use Rattle.im_ctype.specs.declared.member.Member as rust
use Rattle.im_ctype.specs.declared.table.Structure.{Structure}
use Rattle.im_ctype.specs.Kept.{AreMembersIn, Entry, extent_of}
use Rattle.im_ctype.specs.Layout.{MembersAreComplete, layouts, struct_in}
use Rattle.im_ctype.specs.Members.{places_in}
use Rattle.im_ctype.specs.Table.{Table, members_in, types_of, structs_of}
use Rattle.im_ctype.proofs.MoreStructs.{kept-struct}
use Rattle.im_ctype.proofs.table.TypeTable.add_struct.Goals as goal

pub invariant_of-self-2 : goal.invariant_of-self-2
invariant_of-self-2 c =
    let v = sym c.self.view_is in
    let ms = c.args.members.items in
    let known = subst (λ (t : Table). AreMembersIn (length t.nodes) ms) v c.requires.known in
    let complete = subst (λ (t : Table). MembersAreComplete (length t.structs) (members_in (types_of t) ms)) v c.requires.complete in
    let d = c.deref.ensures.value in
    let at = subst (λ (t : Table). c.in_ok-places.places.items ≡ places_in (layouts (structs_of t)) (members_in (types_of t) ms)) v (subst (λ (xs : List rust.Member). c.in_ok-places.places.items ≡ places_in (layouts (structs_of c.args.self.now)) (members_in (types_of c.args.self.now) xs)) d c.in_ok-places.ensures.places) in
    let is = subst (λ (t : Table). c.in_ok-places.extent ≡ extent_of (struct_in (layouts (structs_of t)) (members_in (types_of t) ms))) v (subst (λ (xs : List rust.Member). c.in_ok-places.extent ≡ extent_of (struct_in (layouts (structs_of c.args.self.now)) (members_in (types_of c.args.self.now) xs))) d c.in_ok-places.ensures.extent) in
    let k : Entry = record { places = c.in_ok-places.places.items; extent = c.in_ok-places.extent } in
    let kept = kept-struct _ c.self.inside.extents.items _ ms c.self.invariant known complete k at is in
    rw c.in_ok-push.ensures.items (rw (map-append {A = Structure} (λ s. s.members.items), map-append {A = Structure} (λ s. let e : Entry = record { places = s.places.items; extent = s.extent } in e)) kept)
