-- The first of a list of counts that is above a limit.
use Rattle.std.proofs.Common.{◌≡◌, ◌∙◌, ◌⊎◌, inl, inr, ◌≤◌, ◌<◌, ℕ, zero, suc, List, [], ◌∷◌, ◌++◌, Option, Some, None, refl, ap, subst, Bool, true, false, nat_le, arith}
use Rattle.std.specs.List.{Contains}
use Rattle.std.proofs.lemmas.Bool.Decides.{nat_tests}
use Rattle.std.proofs.lemmas.List.Elements.{Contains-append_right}
use Rattle.im_rules_limits.specs.Limits.{parameter_limit, IsFirstOver}
use Rattle.im_rules_limits.proofs.First.{first-behind}
use Rattle.im_rules_asked.specs.Limits.{above_or, first_above}
use Rattle.im_rules_asked.proofs.Counting.{most_of, most_is, only_one, itself}

over_of : (a b : ℕ) → nat_le a b ≡ false → b < a
over_of a b h = grind (arith, nat_tests)

over_is : (a b : ℕ) → b < a → nat_le a b ≡ false
over_is a b h = grind (arith, nat_tests)

-- none is

none_of : (h : Bool) (m : ℕ) (o : Option ℕ) → above_or h m o ≡ None → (h ≡ true) × (o ≡ None)
none_of true m o p = (refl, p)
none_of false m o p = absurd (cc)

pub none_above : (limit : ℕ) (ns : List ℕ) → first_above limit ns ≡ None → (n : ℕ) → Contains ns n → n ≤ limit
none_above limit [] p n c = let below = c.1 in absurd (omega arith)
none_above limit (m ∷ ns) p n (zero, below, same) =
    let q = none_of (nat_le m limit) m (first_above limit ns) p in
    subst (λ (z : ℕ). z ≤ limit) same (most_of m limit q.0)
none_above limit (m ∷ ns) p n (suc i, below, same) =
    let q = none_of (nat_le m limit) m (first_above limit ns) p in
    none_above limit ns q.1 n (i, omega arith, same)

-- one is

abbrev number_in : Option ℕ → ℕ
number_in None = 0
number_in (Some n) = n

some_of : (h : Bool) (m : ℕ) (o : Option ℕ) (n : ℕ) → above_or h m o ≡ Some n
    → ((h ≡ true) × (o ≡ Some n)) ⊎ ((h ≡ false) × (m ≡ n))
some_of true m o n p = inl (refl, p)
some_of false m o n p = inr (refl, ap number_in p)

above_either : (limit m : ℕ) (ns : List ℕ) (n : ℕ)
    → (first_above limit ns ≡ Some n → Contains ns n × (limit < n))
    → ((nat_le m limit ≡ true) × (first_above limit ns ≡ Some n)) ⊎ ((nat_le m limit ≡ false) × (m ≡ n))
    → Contains (m ∷ ns) n × (limit < n)
above_either limit m ns n f (inl q) = let r = f q.1 in (Contains-append_right (m ∷ []) ns n r.0, r.1)
above_either limit m ns n f (inr q) =
    (subst (λ z. Contains (m ∷ ns) z) q.1 (itself m ns), subst (λ (z : ℕ). limit < z) q.1 (over_of m limit q.0))

pub some_above : (limit : ℕ) (ns : List ℕ) (n : ℕ) → first_above limit ns ≡ Some n → Contains ns n × (limit < n)
some_above limit [] n p = absurd (cc)
some_above limit (m ∷ ns) n p =
    above_either limit m ns n (λ q. some_above limit ns n q)
    (some_of (nat_le m limit) m (first_above limit ns) n p)

-- where all are within the limit none is
all_within : (limit : ℕ) (ns : List ℕ) (o : Option ℕ) → first_above limit ns ≡ o → ((n : ℕ) → Contains ns n → n ≤ limit) → o ≡ None
all_within limit ns None p h = refl
all_within limit ns (Some n) p h =
    let q = some_above limit ns n p in
    let few = h n q.0 in
    let many = q.1 in
    absurd (omega arith)

pub no_above : (limit : ℕ) (ns : List ℕ) → ((n : ℕ) → Contains ns n → n ≤ limit) → first_above limit ns ≡ None
no_above limit ns h = all_within limit ns (first_above limit ns) refl h

-- it is the first

one_few : (m : ℕ) → m ≤ parameter_limit → (k : ℕ) → Contains (m ∷ []) k → k ≤ parameter_limit
one_few m h k c = subst (λ (z : ℕ). z ≤ parameter_limit) (only_one m k c) h

first_either : (m : ℕ) (ns : List ℕ) (n : ℕ)
    → (first_above parameter_limit ns ≡ Some n → IsFirstOver ns n)
    → ((nat_le m parameter_limit ≡ true) × (first_above parameter_limit ns ≡ Some n)) ⊎ ((nat_le m parameter_limit ≡ false) × (m ≡ n))
    → IsFirstOver (m ∷ ns) n
first_either m ns n f (inl q) = first-behind (m ∷ []) ns n (one_few m (most_of m parameter_limit q.0)) (f q.1)
first_either m ns n f (inr q) =
    subst (λ z. IsFirstOver (m ∷ ns) z) q.1
    (record {
      before = [];
      behind = ns;
      place = refl;
      within = λ k c. (let below = c.1 in absurd (omega arith));
      over = over_of m parameter_limit q.0;
    })

pub is_first : (ns : List ℕ) (n : ℕ) → first_above parameter_limit ns ≡ Some n → IsFirstOver ns n
is_first [] n p = absurd (cc)
is_first (m ∷ ns) n p =
    first_either m ns n (λ q. is_first ns n q) (some_of (nat_le m parameter_limit) m (first_above parameter_limit ns) n p)

above_here : (n : ℕ) (o : Option ℕ) (h : Bool) → h ≡ false → above_or h n o ≡ Some n
above_here n o true p = absurd (cc)
above_here n o false p = refl

above_later : (m n : ℕ) (o : Option ℕ) (h : Bool) → h ≡ true → o ≡ Some n → above_or h m o ≡ Some n
above_later m n o true p q = q
above_later m n o false p q = absurd (cc)

behind_few : (before behind : List ℕ) (n : ℕ) → ((m : ℕ) → Contains before m → m ≤ parameter_limit) → parameter_limit < n
    → first_above parameter_limit (before ++ n ∷ behind) ≡ Some n
behind_few [] behind n few many =
    above_here n (first_above parameter_limit behind) (nat_le n parameter_limit) (over_is n parameter_limit many)
behind_few (m ∷ before) behind n few many =
    above_later m n (first_above parameter_limit (before ++ n ∷ behind)) (nat_le m parameter_limit)
    (most_is m parameter_limit (few m (itself m before)))
    (behind_few before behind n (λ k c. few k (Contains-append_right (m ∷ []) before k c)) many)

pub first_is : (ns : List ℕ) (n : ℕ) → IsFirstOver ns n → first_above parameter_limit ns ≡ Some n
first_is ns n h = ap (first_above parameter_limit) h.place ∙ behind_few h.before h.behind n h.within h.over
