-- The first count over the limit, and counts of functions one behind the other.
use mathlib.Core.Logic.{dite}
use Rattle.std.proofs.Common.{◌≡◌, ◌≤◌, ◌⊎◌, ℕ, zero, suc, List, [], ◌∷◌, ◌++◌, inl, inr, refl, sym, ap, subst, ◌∙◌, arith}
use Rattle.std.specs.List.{Contains}
use Rattle.std.proofs.lemmas.List.{append_assoc}
use Rattle.std.proofs.lemmas.List.Elements.{Contains-append_right, Contains-append_cases}
use Rattle.std.proofs.Math.Decide.{dec_le}
use Rattle.std.proofs.Math.Nat.{lt_of_not-le}
use Rattle.im_rules.specs.Scopes.{Scopes, meaning}
use Rattle.im_rules_limits.specs.Limits.{Head, words_meant, words_taken, parameter_limit, IsFirstOver}

pub first-among : (counts : List ℕ) (n : ℕ) → IsFirstOver counts n → Contains counts n
first-among counts n h =
    subst (λ ns. Contains ns n) (sym h.place) (Contains-append_right h.before (n ∷ h.behind) n (0, omega arith, refl))

pub first-here : (ms ns : List ℕ) (n : ℕ) → IsFirstOver ms n → IsFirstOver (ms ++ ns) n
first-here ms ns n h =
    record {
      before = h.before;
      behind = h.behind ++ ns;
      place = ap (λ z. z ++ ns) h.place ∙ append_assoc h.before (n ∷ h.behind) ns;
      within = h.within;
      over = h.over;
    }

in-both : (ms ns : List ℕ) → ((m : ℕ) → Contains ms m → m ≤ parameter_limit) → ((m : ℕ) → Contains ns m → m ≤ parameter_limit) → (m : ℕ) → Contains ms m ⊎ Contains ns m → m ≤ parameter_limit
in-both ms ns h g m (inl c) = h m c
in-both ms ns h g m (inr c) = g m c

pub within-both : (ms ns : List ℕ) → ((m : ℕ) → Contains ms m → m ≤ parameter_limit) → ((m : ℕ) → Contains ns m → m ≤ parameter_limit) → (m : ℕ) → Contains (ms ++ ns) m → m ≤ parameter_limit
within-both ms ns h g = λ m c. in-both ms ns h g m (Contains-append_cases ms ns m c)

pub first-behind : (ms ns : List ℕ) (n : ℕ) → ((m : ℕ) → Contains ms m → m ≤ parameter_limit) → IsFirstOver ns n → IsFirstOver (ms ++ ns) n
first-behind ms ns n few h =
    record {
      before = ms ++ h.before;
      behind = h.behind;
      place = ap (λ z. ms ++ z) h.place ∙ sym (append_assoc ms h.before (n ∷ h.behind));
      within = within-both ms h.before few h.within;
      over = h.over;
    }

pub one-within : (n : ℕ) → n ≤ parameter_limit → (m : ℕ) → Contains (n ∷ []) m → m ≤ parameter_limit
one-within n h m (zero, below, same) = subst (λ (z : ℕ). z ≤ parameter_limit) same h
one-within n h m (suc i, below, same) = absurd (omega arith)

-- where none is the first over the limit, all are within it
pub all-within : (ns : List ℕ) → ((n : ℕ) → IsFirstOver ns n → ⊥) → (m : ℕ) → Contains ns m → m ≤ parameter_limit
all-within [] none m c = let below = c.1 in absurd (omega arith)
all-within (n ∷ ns) none m c =
    dite (dec_le n parameter_limit)
    (λ h. within-both (n ∷ []) ns (one-within n h) (all-within ns (λ k z. none k (first-behind (n ∷ []) ns k (one-within n h) z))) m c)
    (λ h. absurd (none n (
    record {
      before = [];
      behind = ns;
      place = refl;
      within = λ k e. (let below = e.1 in absurd (omega arith));
      over = lt_of_not-le h;
    })))

pub taken-append : (g : Scopes) (hs ks : List Head) → words_taken g (hs ++ ks) ≡ words_taken g hs ++ words_taken g ks
taken-append g [] ks = refl
taken-append g (h ∷ hs) ks = ap (λ ns. words_meant (meaning g h.name) ∷ ns) (taken-append g hs ks)
