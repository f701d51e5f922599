-- A walk over a struct's members: what those that it has passed leave to those that are left.
use Rattle.std.proofs.Common.{◌≡◌, ℕ, ◌+◌, ◌<◌, ◌≤◌, Bool, true, false, ◌||◌, List, ◌∷◌, length, drop, get_or, refl, sym, ap, ◌∙◌, subst}
use Rattle.std.specs.Prelude.{if◌then◌else◌}
use Rattle.std.proofs.lemmas.List.{drop_more, drop_all, length-map}
use Rattle.std.proofs.lemmas.Option.{slice_get-get_or, get_or_from_slice_get}
use Rattle.im_check_conversions.specs.im_word.Words.{Name}
use Rattle.im_ctype.specs.declared.member.Member as rust
use Rattle.im_ctype.specs.declared.member.MemberPlace.{MemberPlace}
use Rattle.im_ctype.specs.Layout.{layouts, empty_layout}
use Rattle.im_ctype.specs.Members.{places}
use Rattle.im_ctype.specs.Table.{Table, IsIn, members_at, members_in, member_in, types_of, structs_of}
use Rattle.im_ctype.specs.Types.{CType, Member, members_of, struct}
use Rattle.im_ctype.proofs.Steps.{length-places, plain-members}
use Rattle.im_check_conversions.specs.im_rules.Conversions.{member_among, place_among}
use Rattle.im_check_conversions.specs.im_rules.TypeTests.{same_name, has_member}
use Rattle.im_check_members.specs.Found.{IsFound}

-- the rest of the members tells of that name what all of them tell
pub record Left (types : List CType) (x : Name) (ms : List rust.Member) (ps : List MemberPlace) (i : ℕ) : Type 0 where
  pub named : has_member x (members_in types ms) ≡ has_member x (members_in types (drop i ms))
  pub member : member_among x (members_in types ms) ≡ member_among x (members_in types (drop i ms))
  pub place : place_among x (members_in types ms) ps ≡ place_among x (members_in types (drop i ms)) (drop i ps)

pub place-at : (ps : List MemberPlace) (i : ℕ) (d : MemberPlace) → i < length ps → get_or ps i d ≡ get_or ps i (get_or ps i d)
place-at ps i d k = sym (get_or_from_slice_get ps i (get_or ps i d) (get_or ps i d) (slice_get-get_or ps i d k))

-- there are as many places as members
pub as-many : (t : Table) (n : ℕ) (ms : List rust.Member) (ps : List MemberPlace) → ms ≡ members_at t n → ps ≡ places (structs_of t) n → length ps ≡ length ms
as-many t n ms ps em ep =
    ap length ep
    ∙ length-places (layouts (structs_of t)) (members_of (structs_of t) n) empty_layout
    ∙ ap length (plain-members t n)
    ∙ length-map {A = rust.Member} (members_at t n) (member_in (types_of t))
    ∙ ap length (sym em)

module _ (types : List CType) (x : Name) (ms : List rust.Member) (ps : List MemberPlace) (i : ℕ) (m : rust.Member) (p : MemberPlace) (below : i < length ms) (is : m ≡ get_or ms i m) (within : i < length ps) (at : p ≡ get_or ps i p) (so_far : Left types x ms ps i) where
  rest : drop i ms ≡ m ∷ drop (i + 1) ms
  rest = drop_more ms i m below ∙ ap (λ y. y ∷ drop (i + 1) ms) (sym is)

  rest_places : drop i ps ≡ p ∷ drop (i + 1) ps
  rest_places = drop_more ps i p within ∙ ap (λ y. y ∷ drop (i + 1) ps) (sym at)

  abbrev by : Bool → Type 0
  by b =
      (has_member x (members_in types ms) ≡ (b || has_member x (members_in types (drop (i + 1) ms))))
      × (member_among x (members_in types ms) ≡ (if b then member_in types m else member_among x (members_in types (drop (i + 1) ms))))
      × (place_among x (members_in types ms) ps ≡ (if b then p else place_among x (members_in types (drop (i + 1) ms)) (drop (i + 1) ps)))

  opened : by (same_name m.name.items x)
  opened = (
    so_far.named ∙ ap (λ xs. has_member x (members_in types xs)) rest,
    so_far.member ∙ ap (λ xs. member_among x (members_in types xs)) rest,
    so_far.place ∙ ap (λ xs. place_among x (members_in types xs) (drop i ps)) rest ∙ ap (λ ys. place_among x (members_in types (m ∷ drop (i + 1) ms)) ys) rest_places,
  )

  pub passed : same_name m.name.items x ≡ false → Left types x ms ps (i + 1)
  passed e =
      let o : by false = subst by e opened in
      record { named = o.0; member = o.1; place = o.2 }

  pub reached : same_name m.name.items x ≡ true → (has_member x (members_in types ms) ≡ true) × (member_among x (members_in types ms) ≡ member_in types m) × (place_among x (members_in types ms) ps ≡ p)
  reached e = subst by e opened

pub none-passed : (types : List CType) (x : Name) (ms : List rust.Member) (ps : List MemberPlace) → Left types x ms ps 0
none-passed types x ms ps = record { named = refl; member = refl; place = refl }

-- none of them has the name
pub none-has : (t : Table) (n : ℕ) (x : Name) (ms : List rust.Member) (ps : List MemberPlace) (i : ℕ) → ms ≡ members_at t n → length ms ≤ i → Left (types_of t) x ms ps i → has_member x (members_of (structs_of t) n) ≡ false
none-has t n x ms ps i em past so_far =
    ap (has_member x) (plain-members t n)
    ∙ ap (λ xs. has_member x (members_in (types_of t) xs)) (sym em)
    ∙ so_far.named
    ∙ ap (λ xs. has_member x (members_in (types_of t) xs)) (drop_all i ms past)

-- the member of that name, as the table has it
pub found-at : (t : Table) (n : ℕ) (x : Name) (ms : List rust.Member) (ps : List MemberPlace) (m : rust.Member) (p : MemberPlace)
    → ms ≡ members_at t n → ps ≡ places (structs_of t) n → IsIn t m.ty
    → (has_member x (members_in (types_of t) ms) ≡ true) × (member_among x (members_in (types_of t) ms) ≡ member_in (types_of t) m) × (place_among x (members_in (types_of t) ms) ps ≡ p)
    → IsFound t (struct n) x (record { constant = m.constant; ty = m.ty; place = p })
found-at t n x ms ps m p em ep known r =
    let all : members_in (types_of t) ms ≡ members_of (structs_of t) n = ap (members_in (types_of t)) em ∙ sym (plain-members t n) in
    let member : member_among x (members_of (structs_of t) n) ≡ member_in (types_of t) m = ap (member_among x) (sym all) ∙ r.1 in
    record {
      known = known;
      named = ap (has_member x) (sym all) ∙ r.0;
      constant = ap (λ (y : Member). y.constant) (sym member);
      type = ap (λ (y : Member). y.type) (sym member);
      place = sym (ap (λ ys. place_among x (members_of (structs_of t) n) ys) (sym ep) ∙ ap (λ xs. place_among x xs ps) (sym all) ∙ r.2);
    }
