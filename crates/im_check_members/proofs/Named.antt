-- Two names are the same where their bytes are equal; and what having a member of a name says of its struct.
use Rattle.std.proofs.Common.{◌≡◌, ℕ, zero, suc, ◌≤◌, nat_lt, Bool, true, false, ◌||◌, List, [], ◌∷◌, length, Some, None, ◌↔◌, IsTrue, refl, sym, ap, ◌∙◌, subst, arith}
use Rattle.std.specs.Prelude.{if◌then◌else◌}
use Rattle.std.proofs.lemmas.Bool.{ltb-false, false≢true}
use Rattle.im_check_conversions.specs.im_word.Words.{Name}
use Rattle.im_ctype.specs.Types.{Member, Structs, members_of}
use Rattle.im_check_name_map.proofs.SameNames.{same-refl, same-equal}
use Rattle.im_check_conversions.specs.im_rules.Conversions.{member_among}
use Rattle.im_check_conversions.specs.im_rules.TypeTests.{same_name, find_member, has_member}

unless_true : (b : Bool) → (b ≡ true → ⊥) → false ≡ b
unless_true true h = absurd (h refl)
unless_true false h = refl

pub told_same : (b : Bool) (x y : List ℕ) → (IsTrue b ↔ (x ≡ y)) → b ≡ same_name x y
told_same true x y h = sym (subst (λ z. same_name x z ≡ true) (h.0 refl) (same-refl x))
told_same false x y h = unless_true (same_name x y) (λ e. false≢true (h.1 (same-equal x y e)))

some-by : (x : Name) (m : Member) (ms : List Member) (b : Bool) → (has_member x ms ≡ true → find_member x ms ≡ Some (member_among x ms)) → (b || has_member x ms) ≡ true → (if b then Some m else find_member x ms) ≡ Some (if b then m else member_among x ms)
some-by x m ms true behind h = refl
some-by x m ms false behind h = behind h

pub find-some : (x : Name) (ms : List Member) → has_member x ms ≡ true → find_member x ms ≡ Some (member_among x ms)
find-some x [] h = absurd (false≢true h)
find-some x (m ∷ ms) h = some-by x m ms (same_name m.name x) (λ k. find-some x ms k) h

none-by : (x : Name) (m : Member) (ms : List Member) (b : Bool) → (has_member x ms ≡ false → find_member x ms ≡ None) → (b || has_member x ms) ≡ false → (if b then Some m else find_member x ms) ≡ None
none-by x m ms true behind h = absurd (false≢true (sym h))
none-by x m ms false behind h = behind h

pub find-none : (x : Name) (ms : List Member) → has_member x ms ≡ false → find_member x ms ≡ None
find-none x [] h = refl
find-none x (m ∷ ms) h = none-by x m ms (same_name m.name x) (λ k. find-none x ms k) h

none-there : (ss : Structs) (n : ℕ) → length ss ≤ n → members_of ss n ≡ []
none-there [] n le = refl
none-there (x ∷ ss) zero le = absurd (omega arith)
none-there (x ∷ ss) (suc n) le = none-there ss n (omega arith)

-- a struct with a member has its list
pub has-complete : (x : Name) (ss : Structs) (n : ℕ) → has_member x (members_of ss n) ≡ true → nat_lt n (length ss) ≡ true
has-complete x ss n h = by (nat_lt n (length ss)) refl
  where
    by : (b : Bool) → nat_lt n (length ss) ≡ b → b ≡ true
    by true e = refl
    by false e = absurd (false≢true (ap (has_member x) (sym (none-there ss n (ltb-false n (length ss) e))) ∙ h))
