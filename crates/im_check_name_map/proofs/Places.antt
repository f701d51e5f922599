-- The places of names in lists.
use Rattle.std.proofs.Common.{◌≡◌, ℕ, suc, Bool, true, false, ◌||◌, List, [], ◌∷◌, ◌++◌, map, length, Option, Some, None, is_some, if◌then◌else◌, refl, sym, ap, subst, ◌∙◌}
use Rattle.std.proofs.lemmas.List.{map_push, length-map}
use Rattle.std.specs.Option.{option_map}
use Rattle.im_rules.specs.im_word.Words.{Name}
use Rattle.im_rules.specs.TypeTests.{same_name}
use Rattle.im_rules.specs.Outline.{is_tag, list_number, is_in, place_in}
use Rattle.im_check_name_map.specs.Numbers.{number_of}
use Rattle.im_check_name_map.specs.Lists.{all_tags, HasPlaces}
use Rattle.im_check_name_map.proofs.SameNames.{same-equal}

abbrev or_else : Option ℕ → Option ℕ → Option ℕ
or_else None m = m
or_else (Some n) m = Some n

or-none : (r : Option ℕ) → or_else r None ≡ r
or-none None = refl
or-none (Some n) = refl

list-step : (x : Name) (y : Option Name) (ys : List (Option Name)) → list_number x (y ∷ ys) ≡ (if is_tag x y then Some 0 else option_map suc (list_number x ys))
list-step x y ys = by (list_number x ys) refl
  where
    by : (r : Option ℕ) → list_number x ys ≡ r → list_number x (y ∷ ys) ≡ (if is_tag x y then Some 0 else option_map suc (list_number x ys))
    by None h = rw h refl
    by (Some n) h = rw h refl

-- one more behind the others
pub number-behind : (ts : List (Option Name)) (t : Option Name) (x : Name) → list_number x (ts ++ t ∷ []) ≡ or_else (list_number x ts) (if is_tag x t then Some (length ts) else None)
number-behind [] t x = list-step x t []
number-behind (y ∷ ys) t x =
    list-step x y (ys ++ t ∷ [])
    ∙ ap (λ r. if is_tag x y then Some 0 else option_map suc r) (number-behind ys t x)
    ∙ by (is_tag x y) (list_number x ys) (is_tag x t)
    ∙ ap (λ r. or_else r (if is_tag x t then Some (suc (length ys)) else None)) (sym (list-step x y ys))
  where
    by : (b : Bool) (r : Option ℕ) (c : Bool)
        → (if b then Some 0 else option_map suc (or_else r (if c then Some (length ys) else None)))
        ≡ or_else (if b then Some 0 else option_map suc r) (if c then Some (suc (length ys)) else None)
    by true r c = refl
    by false None true = refl
    by false None false = refl
    by false (Some n) c = refl

pub tags-pushed : (ts : List (Option Name)) (y : Name) (numbers more : List (Name × Option ℕ)) → HasPlaces ts numbers → number_of numbers y ≡ None
    → ((x : Name) → number_of more x ≡ (if same_name y x then Some (length ts) else number_of numbers x)) → HasPlaces (ts ++ Some y ∷ []) more
tags-pushed ts y numbers more h none set x = set x ∙ by (same_name y x) refl ∙ sym (number-behind ts (Some y) x)
  where
    by : (b : Bool) → same_name y x ≡ b → (if b then Some (length ts) else number_of numbers x) ≡ or_else (list_number x ts) (if b then Some (length ts) else None)
    by true e =
        let same : y ≡ x = same-equal y x e in
        let absent : list_number x ts ≡ None = subst (λ z. list_number z ts ≡ None) same (sym (h y) ∙ none) in
        ap (λ r. or_else r (Some (length ts))) (sym absent)
    by false e = h x ∙ sym (or-none (list_number x ts))

-- a name that has a place keeps it
pub tags-again : (ts : List (Option Name)) (y : Name) (numbers : List (Name × Option ℕ)) → HasPlaces ts numbers → is_some (number_of numbers y) ≡ true → HasPlaces (ts ++ Some y ∷ []) numbers
tags-again ts y numbers h there x = h x ∙ by (same_name y x) refl ∙ sym (number-behind ts (Some y) x)
  where
    some : (r m : Option ℕ) → is_some r ≡ true → r ≡ or_else r m
    some None m e = absurd cc
    some (Some n) m e = refl

    by : (b : Bool) → same_name y x ≡ b → list_number x ts ≡ or_else (list_number x ts) (if b then Some (length ts) else None)
    by true e =
        let same : y ≡ x = same-equal y x e in
        some (list_number x ts) (Some (length ts)) (subst (λ z. is_some (list_number z ts) ≡ true) same (ap is_some (sym (h y)) ∙ there))
    by false e = sym (or-none (list_number x ts))

pub untagged-pushed : (ts : List (Option Name)) (numbers : List (Name × Option ℕ)) → HasPlaces ts numbers → HasPlaces (ts ++ None ∷ []) numbers
untagged-pushed ts numbers h x = h x ∙ sym (or-none (list_number x ts)) ∙ sym (number-behind ts None x)

-- the same of names
all-pushed : (xs : List Name) (y : Name) → all_tags (xs ++ y ∷ []) ≡ all_tags xs ++ Some y ∷ []
all-pushed xs y = map_push Some xs y

pub names-pushed : (xs : List Name) (y : Name) (numbers more : List (Name × Option ℕ)) → HasPlaces (all_tags xs) numbers → number_of numbers y ≡ None
    → ((x : Name) → number_of more x ≡ (if same_name y x then Some (length xs) else number_of numbers x)) → HasPlaces (all_tags (xs ++ y ∷ [])) more
names-pushed xs y numbers more h none set =
    subst
    (λ ts. HasPlaces ts more)
    (sym (all-pushed xs y))
    (tags-pushed (all_tags xs) y numbers more h none (λ x. set x ∙ ap (λ n. if same_name y x then Some n else number_of numbers x) (sym (length-map xs Some))))

pub names-again : (xs : List Name) (y : Name) (numbers : List (Name × Option ℕ)) → HasPlaces (all_tags xs) numbers → is_some (number_of numbers y) ≡ true → HasPlaces (all_tags (xs ++ y ∷ [])) numbers
names-again xs y numbers h there = subst (λ ts. HasPlaces ts numbers) (sym (all-pushed xs y)) (tags-again (all_tags xs) y numbers h there)

pub in-told : (xs : List Name) (x : Name) → is_in x xs ≡ is_some (list_number x (all_tags xs))
in-told [] x = refl
in-told (y ∷ ys) x = ap (λ b. same_name y x || b) (in-told ys x) ∙ by (same_name y x) (list_number x (all_tags ys)) ∙ sym (ap is_some (list-step x (Some y) (all_tags ys)))
  where
    by : (b : Bool) (r : Option ℕ) → (b || is_some r) ≡ is_some (if b then Some 0 else option_map suc r)
    by true r = refl
    by false None = refl
    by false (Some n) = refl

abbrev pub or_length : Option ℕ → ℕ → ℕ
or_length None n = n
or_length (Some i) n = i

pub place-told : (xs : List Name) (x : Name) → place_in x xs ≡ or_length (list_number x (all_tags xs)) (length xs)
place-told [] x = refl
place-told (y ∷ ys) x =
    ap (λ n. if same_name y x then 0 else suc n) (place-told ys x)
    ∙ by (same_name y x) (list_number x (all_tags ys))
    ∙ sym (ap (λ r. or_length r (suc (length ys))) (list-step x (Some y) (all_tags ys)))
  where
    by : (b : Bool) (r : Option ℕ) → (if b then 0 else suc (or_length r (length ys))) ≡ or_length (if b then Some 0 else option_map suc r) (suc (length ys))
    by true r = refl
    by false None = refl
    by false (Some n) = refl

pub none-told : (r : Option ℕ) → is_some r ≡ false → r ≡ None
none-told None h = refl
none-told (Some n) h = absurd cc
