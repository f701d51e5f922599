-- The derivations of typedef names, one name behind the other.
use Rattle.std.proofs.Common.{◌≡◌, ℕ, suc, ◌+◌, ◌<◌, ◌≤◌, Bool, true, false, ◌⊎◌, inl, inr, zero, List, [], ◌∷◌, ◌++◌, length, Option, Some, None, Result, Ok, Err, IfOk, if◌then◌else◌, refl, sym, ap, ◌∙◌, subst, arith, append_assoc}
use Rattle.std.specs.List.{Contains}
use Rattle.std.proofs.lemmas.List.{length-map}
use Rattle.std.proofs.lemmas.List.Elements.{Contains-append_cases}
use Rattle.im_ctree.specs.declared.declarator.Declarator as dc
use Rattle.im_ctree.specs.declared.declarator.Star.{Star}
use Rattle.im_ctree.specs.declared.declarator.Suffix as sx
use Rattle.im_ctree.specs.declared.declarator.SuffixKind as xk
use Rattle.im_ctree.specs.declared.specifier.Specifiers.{Specifiers, out-Specifiers}
use Rattle.im_ctree.specs.Tree as t
use Rattle.im_ctree.specs.Shape.{declarator_of, core_of, specifiers_of}
use Rattle.im_ctree_parts.specs.Lists.{list_from, stars_in, with_suffix, suffixes_from}
use Rattle.im_ctree_parts.proofs.Shapes.{declarator_shape, specifiers_shape}
use Rattle.im_check_outline.specs.im_rules.Outline.{name_of, typedef_in}
use Rattle.im_check_outline.specs.im_rules.Rules.{is_typedef}
use Rattle.im_check_outline.specs.im_rules.TypeTests.{same_name}
use Rattle.im_check_name_map.specs.Numbers.{number_of}
use Rattle.im_check_counts.specs.declared.derivations.Deep.{Deep}
use Rattle.im_check_outline.specs.im_rules.BodyBreaks.{declarator_token}
use Rattle.im_check_counts.specs.Derivations.{Known, Derived, derivations_by, own_derivations, inner_derivations, derivation_limit, derived_from, derived_in, derived_by, derived_of, with_derived, known_behind, known_of, count_or_none, derived_as, none_known, derived_names, AreShallow, IsWalked, IsDeepIn}

-- a declarator, by its parts

suffix_more : (at : ℕ) (k : xk.SuffixKind) (rest : t.Suffixes) → derivations_by (with_suffix at k rest) ≡ suc (derivations_by rest)
suffix_more at (xk.Array' e) rest = refl
suffix_more at (xk.Function' m ps) rest = refl

pub suffixes_counted : (ss : List sx.Suffix) → derivations_by (suffixes_from ss) ≡ length ss
suffixes_counted [] = refl
suffixes_counted (s ∷ ss) = suffix_more s.at s.kind (suffixes_from ss) ∙ ap (λ n. suc n) (suffixes_counted ss)

pub stars_counted : (xs : List Star) → length (stars_in xs) ≡ length xs
stars_counted xs = length-map {A = Star} xs (λ star. star.consts)

pub own_shape : (d : dc.Declarator) → own_derivations (declarator_of d) ≡ inner_derivations (core_of (dc.out-Declarator d).core) + (length (stars_in (dc.out-Declarator d).stars.items) + derivations_by (suffixes_from (dc.out-Declarator d).suffixes.items))
own_shape d = ap own_derivations (declarator_shape d)

-- a typedef name, by its parts

abbrev pub of_parts : ℕ → ℕ → List ℕ → Derived
of_parts count token name = record { count = count; token = token; name = name }

pub from_parts : (base : ℕ) (d : t.Declarator) (count token : ℕ) (name : List ℕ)
    → count ≡ base + own_derivations d
    → token ≡ declarator_token d
    → name ≡ name_of d
    → of_parts count token name ≡ derived_from base d
from_parts base d count token name is_count is_token is_name = λ i. record { count = is_count i; token = is_token i; name = is_name i }

-- a name that is remembered

counted_by : (b : Bool) (n : ℕ) (other : Option ℕ) → count_or_none (if b then Some n else other) ≡ (if b then n else count_or_none other)
counted_by true n other = refl
counted_by false n other = refl

pub remembered : (old new : List (List ℕ × Option ℕ)) (x : Derived)
    → ((y : List ℕ) → number_of new y ≡ (if same_name x.name y then Some x.count else number_of old y))
    → known_of new ≡ with_derived (known_of old) x
remembered old new x set = λ i y. (ap count_or_none (set y) ∙ counted_by (same_name x.name y) x.count (number_of old y)) i

-- steps of the walk

none_there : {A : Type 0} (x : A) → Contains [] x → ⊥
none_there x c = let below = c.1 in absurd (omega arith)

only_there : (x y : Derived) → Contains (x ∷ []) y → x ≡ y
only_there x y (zero, below, same) = same
only_there x y (suc i, below, same) = absurd (omega arith)

pub walked_none : (known : Known) → IsWalked known [] known None
walked_none known = (λ x c. absurd (none_there x c), refl)

one_shallow : (x : Derived) (xs : List Derived) → x.count ≤ derivation_limit → AreShallow xs → AreShallow (x ∷ xs)
one_shallow x xs few h y c = by (Contains-append_cases (x ∷ []) xs y c)
  where
    by : Contains (x ∷ []) y ⊎ Contains xs y → y.count ≤ derivation_limit
    by (inl d) = subst (λ (z : Derived). z.count ≤ derivation_limit) (only_there x y d) few
    by (inr d) = h y d

pub walked_first : (known : Known) (x : Derived) (xs : List Derived) (new : Known) (found : Deep) → derived_as found ≡ x → derivation_limit < found.count → IsWalked known (x ∷ xs) new (Some found)
walked_first known x xs new found is over =
    record { before = []; behind = xs; place = ap (λ y. y ∷ xs) (sym is); shallow = λ y c. absurd (none_there y c); over = over }

pub walked_one : (known : Known) (x : Derived) (new : Known) (found : Deep) → derived_as found ≡ x → found.count ≤ derivation_limit → new ≡ with_derived known (derived_as found) → IsWalked known (x ∷ []) new None
walked_one known x new found is few made =
    subst (λ (y : Derived). IsWalked known (y ∷ []) new None) is (one_shallow (derived_as found) [] few (λ y c. absurd (none_there y c)), made)

known_append : (known : Known) (xs ys : List Derived) → known_behind known (xs ++ ys) ≡ known_behind (known_behind known xs) ys
known_append known [] ys = refl
known_append known (x ∷ xs) ys = known_append (with_derived known x) xs ys

both_shallow : (xs ys : List Derived) → AreShallow xs → AreShallow ys → AreShallow (xs ++ ys)
both_shallow xs ys h g x c = by (Contains-append_cases xs ys x c)
  where
    by : Contains xs x ⊎ Contains ys x → x.count ≤ derivation_limit
    by (inl d) = h x d
    by (inr d) = g x d

pub walked_front : (known : Known) (xs ys : List Derived) (middle new : Known) (deep : Deep) → IsWalked known xs middle (Some deep) → IsWalked known (xs ++ ys) new (Some deep)
walked_front known xs ys middle new deep h =
    record {
      before = h.before;
      behind = h.behind ++ ys;
      place = ap (λ z. z ++ ys) h.place ∙ append_assoc h.before (derived_as deep ∷ h.behind) ys;
      shallow = h.shallow;
      over = h.over;
    }

walked_behind : (known : Known) (xs ys : List Derived) (new : Known) (found : Option Deep) → AreShallow xs
    → IsWalked (known_behind known xs) ys new found
    → IsWalked known (xs ++ ys) new found
walked_behind known xs ys new None few h = (both_shallow xs ys few h.0, h.1 ∙ sym (known_append known xs ys))
walked_behind known xs ys new (Some deep) few h =
    record {
      before = xs ++ h.before;
      behind = h.behind;
      place = ap (λ z. xs ++ z) h.place ∙ sym (append_assoc xs h.before (derived_as deep ∷ h.behind));
      shallow = both_shallow xs h.before few h.shallow;
      over = h.over;
    }

pub walked_next : (known : Known) (xs ys : List Derived) (middle new : Known) (found : Option Deep) → IsWalked known xs middle None
    → IsWalked middle ys new found
    → IsWalked known (xs ++ ys) new found
walked_next known xs ys middle new found h g = walked_behind known xs ys new found h.0 (subst (λ (k : Known). IsWalked k ys new found) h.1 g)

-- a whole unit

deep_in : (u : t.Tree) (new : Known) (found : Option Deep) → IsWalked none_known (derived_names u) new found → IsDeepIn u found
deep_in u new None h = h.0
deep_in u new (Some deep) h = h

deep_if : {E : Type 0} (u : t.Tree) (new : Known) (r : Result (Option Deep) E) → IfOk r (IsWalked none_known (derived_names u) new) → IfOk r (IsDeepIn u)
deep_if u new (Ok found) h = deep_in u new found h
deep_if u new (Err fault) h = h

pub deep_of : {E : Type 0} (u : t.Tree) (numbers : List (List ℕ × Option ℕ)) (new : Known) (r : Result (Option Deep) E) → numbers ≡ []
    → IfOk r (IsWalked (known_of numbers) (derived_of (known_of numbers) u) new)
    → IfOk r (IsDeepIn u)
deep_of u numbers new r none h =
    deep_if u new r (subst (λ (n : List (List ℕ × Option ℕ)). IfOk r (IsWalked (known_of n) (derived_of (known_of n) u) new)) none h)

-- a declaration, by its specifiers

abbrev listed_by : Known → t.SpecifierList → t.InitDeclarators → List Derived
listed_by known xs ds = if is_typedef xs then derived_in (known (typedef_in xs)) ds else []

declaration_names : (known : Known) (s : Specifiers) (ds : t.InitDeclarators)
    → derived_by known (t.external_declaration (t.declaration (specifiers_of s) ds)) ≡ listed_by known (list_from (out-Specifiers s).items.items) ds
declaration_names known s ds = ap (λ z. derived_by known (t.external_declaration (t.declaration z ds))) (specifiers_shape s)

pub no_typedef : (known : Known) (s : Specifiers) (ds : t.InitDeclarators) → is_typedef (list_from (out-Specifiers s).items.items) ≡ false
    → IsWalked known (derived_by known (t.external_declaration (t.declaration (specifiers_of s) ds))) known None
no_typedef known s ds none =
    let xs = list_from (out-Specifiers s).items.items in
    let empty : derived_by known (t.external_declaration (t.declaration (specifiers_of s) ds)) ≡ [] =
    declaration_names known s ds ∙ ap (λ (b : Bool). if b then derived_in (known (typedef_in xs)) ds else []) none in
    subst (λ ys. IsWalked known ys known None) (sym empty) (walked_none known)

pub a_typedef : {E : Type 0} (known : Known) (s : Specifiers) (ds : t.InitDeclarators) (base : ℕ) (new : Known) (r : Result (Option Deep) E)
    → is_typedef (list_from (out-Specifiers s).items.items) ≡ true
    → base ≡ known (typedef_in (list_from (out-Specifiers s).items.items))
    → IfOk r (IsWalked known (derived_in base ds) new)
    → IfOk r (IsWalked known (derived_by known (t.external_declaration (t.declaration (specifiers_of s) ds))) new)
a_typedef known s ds base new r is is_base h =
    let xs = list_from (out-Specifiers s).items.items in
    let names : derived_by known (t.external_declaration (t.declaration (specifiers_of s) ds)) ≡ derived_in base ds =
    declaration_names known s ds ∙ ap (λ (b : Bool). if b then derived_in (known (typedef_in xs)) ds else []) is ∙ ap (λ n. derived_in n ds) (sym is_base) in
    subst (λ ys. IfOk r (IsWalked known ys new)) (sym names) h
