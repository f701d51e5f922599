-- The typedef names in hand as a list and as a set.
use Rattle.std.proofs.Common.{◌≡◌, ◌||◌, cond, Bool, true, false, List, [], ◌∷◌, ◌++◌, map, reverse, nat_eq, sym, refl, ap, ◌∙◌, Bor}
use Rattle.std.specs.List.{Contains, list_any}
use Rattle.std.specs.Cmp.Lexicographic.{pointwise, bytes_decides}
use Rattle.std.proofs.lemmas.Cmp.{nat_list_eq_equiv}
use Rattle.std.proofs.lemmas.List.{reverse-append, map-append}
use Rattle.std.proofs.lemmas.Map.Views.{list_any-from_Contains, Contains-from_any}
use Rattle.im_word.specs.Words.{Name}
use Rattle.im_parse_core.specs.Names.{names_of, HasNames}

-- one name more, which stands last in hand
pub name_pushed : (xs : List (Bor Name)) (x : Bor Name) → names_of (xs ++ x ∷ []) ≡ x.now ∷ names_of xs
name_pushed xs x =
    ap reverse (map-append (λ (declared : Bor Name). declared.now) xs (x ∷ []))
    ∙ reverse-append (map (λ (declared : Bor Name). declared.now) xs) (x.now ∷ [])

abbrev same : Bor Name → Bor Name → Bool
same a b = pointwise nat_eq a.now b.now

abbrev is_one : Name → Bor Name → Bool
is_one n one = pointwise nat_eq n one.now

-- a name is in the set just where it is in the list
pub found : (set : List (Bor Name)) (names : List Name) (n : Name) → HasNames set names → list_any (is_one n) set ≡ true → Contains names n
found set names n has so = Contains-from_any (λ x y. (bytes_decides x y).0) n names (sym (has n) ∙ so)

pub in_set : (set : List (Bor Name)) (names : List Name) (n : Name) → HasNames set names → Contains names n → list_any (is_one n) set ≡ true
in_set set names n has so = has n ∙ list_any-from_Contains nat_list_eq_equiv n names so

joined : (a b c : Bool) → b ≡ c → cond a true b ≡ (a || c)
joined true b c e = refl
joined false b c e = e

-- the set with a name more has the names with that one before them
pub has_one_more : (set more : List (Bor Name)) (names : List Name) (x : Bor Name)
    → ((one : Bor Name) → list_any (same one) more ≡ cond (same x one) true (list_any (same one) set)) → HasNames set names → HasNames more (x.now ∷ names)
has_one_more set more names x put has n =
    let one : Bor Name = record { ref_ptr = x.ref_ptr; now = n } in
    put one
    ∙ ap (λ b. cond b true (list_any (is_one n) set)) (nat_list_eq_equiv.symm x.now n)
    ∙ joined (pointwise nat_eq n x.now) (list_any (is_one n) set) (list_any (pointwise nat_eq n) names) (has n)
