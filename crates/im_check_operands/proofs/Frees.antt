-- Members one after another, each free of const or not.
use Rattle.std.proofs.Common.{◌≡◌, ℕ, ◌+◌, ◌<◌, ◌≤◌, not, Bool, true, false, ◌&&◌, List, [], ◌∷◌, length, drop, get_or, refl, sym, ap, ◌∙◌}
use Rattle.std.proofs.lemmas.List.{drop_more, drop_all}
use Rattle.im_ctype.specs.Types.{CType}
use Rattle.im_ctype.specs.Table.{members_in, type_in}
use Rattle.im_ctype.specs.declared.member.Member as rust
use Rattle.im_check_constancy.specs.im_rules.Rules as u

-- whether the members from that place on are free
abbrev pub free_from : List Bool → List CType → List rust.Member → ℕ → Bool
free_from free types ms i = u.members_free free (members_in types (drop i ms))

-- the member at that place, and those behind it
pub free-next : (free : List Bool) (types : List CType) (ms : List rust.Member) (i : ℕ) (m : rust.Member) → i < length ms → m ≡ get_or ms i m
    → (b : Bool) → b ≡ (not m.constant && u.free_in free (type_in types m.ty)) → free_from free types ms i ≡ (b && free_from free types ms (i + 1))
free-next free types ms i m below is b e =
    ap (λ xs. u.members_free free (members_in types xs)) (drop_more ms i m below ∙ ap (λ y. y ∷ drop (i + 1) ms) (sym is))
    ∙ ap (λ x. x && free_from free types ms (i + 1)) (sym e)

pub none-next : (free : List Bool) (types : List CType) (ms : List rust.Member) (i : ℕ) → length ms ≤ i → free_from free types ms i ≡ true
none-next free types ms i past = ap (λ xs. u.members_free free (members_in types xs)) (drop_all i ms past)
