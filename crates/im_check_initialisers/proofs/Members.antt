-- A struct's members and their places, one by one.
use Rattle.std.proofs.Common.{◌≡◌, ℕ, ◌+◌, ◌<◌, List, ◌∷◌, length, drop, get_or, map, refl, sym, ap, ◌∙◌}
use Rattle.std.proofs.lemmas.List.{drop_more, drop-map, length-map}
use Rattle.im_ctype.specs.declared.member.Member as rust
use Rattle.im_ctype.specs.declared.member.MemberPlace.{MemberPlace}
use Rattle.im_ctype.specs.Layout.{empty_layout, layouts}
use Rattle.im_ctype.specs.Members.{places}
use Rattle.im_ctype.specs.Table.{Table, members_at, member_in, members_in, structs_of, type_at, types_of}
use Rattle.im_ctype.specs.Types.{CType, Member, members_of}
use Rattle.im_ctype.proofs.Steps.{plain-members, length-places}
use Rattle.im_check_initialisers.specs.Forms.{IsMember}

rest : (types : List CType) (ms : List rust.Member) (i : ℕ) (m : rust.Member) → i < length ms → m ≡ get_or ms i m
    → drop i (members_in types ms) ≡ member_in types m ∷ drop (i + 1) (members_in types ms)
rest types ms i m below is =
    drop-map {X = rust.Member} (member_in types) i ms
    ∙ ap (λ xs. members_in types xs) (drop_more ms i m below ∙ ap (λ y. y ∷ drop (i + 1) ms) (sym is))
    ∙ ap (λ xs. member_in types m ∷ xs) (sym (drop-map {X = rust.Member} (member_in types) (i + 1) ms))

-- a struct has as many members and places as its table says
pub as_many : (g : Table) (n : ℕ) (ms : List rust.Member) → ms ≡ members_at g n → length ms ≡ length (members_of (structs_of g) n)
as_many g n ms e =
    ap (λ (xs : List rust.Member). length xs) e ∙ sym (length-map {A = rust.Member} (members_at g n) (member_in (types_of g))) ∙ ap (λ (xs : List Member). length xs) (sym (plain-members g n))

pub as_many_places : (g : Table) (n : ℕ) (ps : List MemberPlace) → ps ≡ places (structs_of g) n → length ps ≡ length (members_of (structs_of g) n)
as_many_places g n ps e = ap (λ (xs : List MemberPlace). length xs) e ∙ length-places (layouts (structs_of g)) (members_of (structs_of g) n) empty_layout

pub member_there : (g : Table) (n i : ℕ) (ms : List rust.Member) (ps : List MemberPlace) (m : rust.Member) (d : MemberPlace) (a : CType)
    → ms ≡ members_at g n
    → ps ≡ places (structs_of g) n
    → i < length ms
    → i < length ps
    → m ≡ get_or ms i m
    → a ≡ type_at g (get_or ms i m).ty
    → IsMember (structs_of g) n i a (get_or ps i d).offset
member_there g n i ms ps m d a em ep below within is type =
    let all : members_in (types_of g) ms ≡ members_of (structs_of g) n = ap (λ (xs : List rust.Member). members_in (types_of g) xs) em ∙ sym (plain-members g n) in
    record {
      member = member_in (types_of g) m;
      place = get_or ps i d;
      members_from = ap (λ (xs : List Member). drop i xs) (sym all) ∙ rest (types_of g) ms i m below is ∙ ap (λ (xs : List Member). member_in (types_of g) m ∷ drop (i + 1) xs) all;
      places_from = ap (λ (xs : List MemberPlace). drop i xs) (sym ep) ∙ drop_more ps i d within ∙ ap (λ (xs : List MemberPlace). get_or ps i d ∷ drop (i + 1) xs) ep;
      type = type ∙ ap (λ (y : rust.Member). type_at g y.ty) (sym is);
      offset_is = refl;
    }
