-- Two names are the same where their bytes are equal.
use Rattle.std.proofs.Common.{◌≡◌, ℕ, Bool, true, false, ◌&&◌, List, [], ◌∷◌, nat_eq, eq-eqb, refl, sym, ap, subst}
use Rattle.std.proofs.lemmas.Bool.{eqb-true}
use Rattle.std.specs.Cmp.Lexicographic.{pointwise}
use Rattle.im_rules.specs.TypeTests.{same_name}

both : (a b : Bool) → (a && b) ≡ true → (a ≡ true) × (b ≡ true)
both true b h = (refl, h)
both false b h = absurd cc

pub same-refl : (x : List ℕ) → same_name x x ≡ true
same-refl [] = refl
same-refl (a ∷ as') = rw (eq-eqb a a refl) (same-refl as')

pub same-equal : (x y : List ℕ) → same_name x y ≡ true → x ≡ y
same-equal [] [] h = refl
same-equal [] (b ∷ bs) h = absurd cc
same-equal (a ∷ as') [] h = absurd cc
same-equal (a ∷ as') (b ∷ bs) h =
    let p = both (nat_eq a b) (same_name as' bs) h in
    cc (eqb-true a b p.0, same-equal as' bs p.1)

either_way : (a b : Bool) → (a ≡ true → b ≡ true) → (b ≡ true → a ≡ true) → a ≡ b
either_way true b f g = sym (f refl)
either_way false true f g = g refl
either_way false false f g = refl

pub same-symmetric : (x y : List ℕ) → same_name x y ≡ same_name y x
same-symmetric x y =
    either_way
    (same_name x y)
    (same_name y x)
    (λ h. subst (λ z. same_name z x ≡ true) (same-equal x y h) (same-refl x))
    (λ h. subst (λ z. same_name z y ≡ true) (same-equal y x h) (same-refl y))

-- the comparison of the map's keys
pub pointwise-same : (x y : List ℕ) → pointwise nat_eq x y ≡ same_name x y
pointwise-same [] [] = refl
pointwise-same [] (b ∷ bs) = refl
pointwise-same (a ∷ as') [] = refl
pointwise-same (a ∷ as') (b ∷ bs) = ap (λ s. nat_eq a b && s) (pointwise-same as' bs)
