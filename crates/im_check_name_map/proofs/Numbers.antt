-- The numbers of names are what the map of their bytes has.
use Rattle.std.proofs.Common.{◌≡◌, ◌⊎◌, inl, inr, ℕ, Bool, true, false, cond, List, [], ◌∷◌, Option, Some, None, Vec, Global, nat_eq, if◌then◌else◌, refl, sym, ap, subst, ◌∙◌}
use Rattle.std.specs.Cmp.Lexicographic.{pointwise}
use Rattle.std.specs.HashMap as hash
use Rattle.std.specs.Map.{lookup}
use Rattle.im_rules.specs.im_word.Words.{Name}
use Rattle.im_rules.specs.TypeTests.{same_name}
use Rattle.im_check_name_map.specs.Numbers.{number_of, entries_of}
use Rattle.im_check_name_map.proofs.SameNames.{same-equal, same-symmetric, pointwise-same}

abbrev Entries : Type 0
Entries = List (Vec ℕ Global × Option ℕ)

-- what a key says, without what it may lack
abbrev pub in_maybe : Option (Option ℕ) → Option ℕ
in_maybe None = None
in_maybe (Some n) = n

pub number-told : (es : Entries) (x : Name) → number_of (entries_of es) x ≡ in_maybe (lookup (λ k. pointwise nat_eq x k.items) es)
number-told [] x = refl
number-told (e ∷ es) x =
    ap (λ b. if b then e.1 else number_of (entries_of es) x) (same-symmetric e.0.items x ∙ sym (pointwise-same x e.0.items)) ∙ by (pointwise nat_eq x e.0.items) (number-told es x)
  where
    by : (b : Bool)
        → number_of (entries_of es) x ≡ in_maybe (lookup (λ k. pointwise nat_eq x k.items) es)
        → (if b then e.1 else number_of (entries_of es) x) ≡ in_maybe (cond b (Some e.1) (lookup (λ k. pointwise nat_eq x k.items) es))
    by true h = refl
    by false h = h

abbrev is_key : Vec ℕ Global → Vec ℕ Global → Bool
is_key a b = pointwise nat_eq a.items b.items

-- a key that says this name, where one of the entries has one
key-of : (es : Entries) (x : Name) → ((q : Vec ℕ Global) × (q.items ≡ x)) ⊎ (lookup (λ k. pointwise nat_eq x k.items) es ≡ None)
key-of [] x = inr refl
key-of (e ∷ es) x = by (pointwise nat_eq x e.0.items) refl (key-of es x)
  where
    by : (b : Bool)
        → pointwise nat_eq x e.0.items ≡ b
        → ((q : Vec ℕ Global) × (q.items ≡ x)) ⊎ (lookup (λ k. pointwise nat_eq x k.items) es ≡ None)
        → ((q : Vec ℕ Global) × (q.items ≡ x)) ⊎ (cond b (Some e.1) (lookup (λ k. pointwise nat_eq x k.items) es) ≡ None)
    by true h more = inl (e.0, sym (same-equal x e.0.items (sym (pointwise-same x e.0.items) ∙ h)))
    by false h (inl k) = inl k
    by false h (inr k) = inr k

module _ {S : Type 0} (old new : hash.HashMap (Vec ℕ Global) (Option ℕ) S) (k : Vec ℕ Global) (v : Option ℕ) (put : hash.Updates is_key old new k (Some v)) where
  number-at : (q : Vec ℕ Global) → number_of (entries_of new.entries) q.items ≡ (if same_name k.items q.items then v else number_of (entries_of old.entries) q.items)
  number-at q =
      number-told new.entries q.items
      ∙ ap in_maybe (put.0 q)
      ∙ by (pointwise nat_eq k.items q.items)
      ∙ ap (λ b. if b then v else number_of (entries_of old.entries) q.items) (pointwise-same k.items q.items)
    where
      by : (b : Bool) → in_maybe (cond b (Some v) (lookup (λ one. pointwise nat_eq q.items one.items) old.entries)) ≡ (if b then v else number_of (entries_of old.entries) q.items)
      by true = refl
      by false = sym (number-told old.entries q.items)

  other-at : (x : Name) → same_name k.items x ≡ false → (q : Vec ℕ Global) → q.items ≡ x → number_of (entries_of new.entries) x ≡ number_of (entries_of old.entries) x
  other-at x apart q is =
      subst
      (λ z. same_name k.items z ≡ false → number_of (entries_of new.entries) z ≡ number_of (entries_of old.entries) z)
      is
      (λ f. number-at q ∙ ap (λ b. if b then v else number_of (entries_of old.entries) q.items) f)
      apart

  pub number-inserted : (x : Name) → number_of (entries_of new.entries) x ≡ (if same_name k.items x then v else number_of (entries_of old.entries) x)
  number-inserted x = by (same_name k.items x) refl (key-of new.entries x) (key-of old.entries x)
    where
      by : (b : Bool)
          → same_name k.items x ≡ b
          → ((q : Vec ℕ Global) × (q.items ≡ x)) ⊎ (lookup (λ one. pointwise nat_eq x one.items) new.entries ≡ None)
          → ((q : Vec ℕ Global) × (q.items ≡ x)) ⊎ (lookup (λ one. pointwise nat_eq x one.items) old.entries ≡ None)
          → number_of (entries_of new.entries) x ≡ (if b then v else number_of (entries_of old.entries) x)
      by true e n o = ap (number_of (entries_of new.entries)) (sym (same-equal k.items x e)) ∙ number-told new.entries k.items ∙ ap in_maybe put.1
      by false e (inl q) o = other-at x e q.0 q.1
      by false e (inr n) (inl q) = other-at x e q.0 q.1
      by false e (inr n) (inr o) = number-told new.entries x ∙ ap in_maybe (n ∙ sym o) ∙ sym (number-told old.entries x)
