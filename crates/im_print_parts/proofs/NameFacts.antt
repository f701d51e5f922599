-- Typedef names, the last one declared standing last.
use Rattle.std.proofs.Common.{◌≡◌, ◌<◌, ◌+◌, ◌||◌, ℕ, Bool, true, false, List, [], ◌∷◌, ◌++◌, length, drop, get_or, map, reverse, refl, sym, ap, ◌∙◌, Bor}
use Rattle.std.specs.Prelude.{bytes_eq}
use Rattle.std.proofs.lemmas.List.{reverse-append, map-append, at_drop_more}
use Rattle.im_word.specs.Words.{Name}
use Rattle.im_ctree.specs.declared.declarator.Declarator as dc
use Rattle.im_ctree.specs.Tree as t
use Rattle.im_ctree.specs.Shape.{declarator_of, core_of}
use Rattle.im_ctree.specs.Typedefs.{adds_type, has_type_from}
use Rattle.im_print_relation.specs.Printed.{is_among, begins_with_typedef}
use Rattle.im_print_parts.specs.Output.{known}
use Rattle.im_ctree_parts.specs.Lists.{stars_in, suffixes_from}
use Rattle.im_ctree_parts.proofs.Shapes.{declarator_shape}

or-first : (a b c : Bool) → (a || (b || c)) ≡ (b || (a || c))
or-first true true c = refl
or-first true false c = refl
or-first false true c = refl
or-first false false c = refl

among_behind : (xs : List Name) (y n : Name) → is_among (xs ++ y ∷ []) n ≡ (bytes_eq y n || is_among xs n)
among_behind [] y n = refl
among_behind (z ∷ zs) y n = ap (λ b. bytes_eq z n || b) (among_behind zs y n) ∙ or-first (bytes_eq z n) (bytes_eq y n) (is_among zs n)

-- one name more to look at
pub among_more : (x : Bor Name) (xs : List (Bor Name)) (n : Name) → is_among (known (x ∷ xs)) n ≡ (bytes_eq x.now n || is_among (known xs) n)
among_more x xs n = ap (λ l. is_among l n) (reverse-append (x.now ∷ []) (map (λ (one : Bor Name). one.now) xs)) ∙ among_behind (known xs) x.now n

among_step : (xs : List (Bor Name)) (i : ℕ) (d : Bor Name) (n : Name) → i < length xs → is_among (known (drop i xs)) n ≡ (bytes_eq (get_or xs i d).now n || is_among (known (drop (i + 1) xs)) n)
among_step xs i d n within = at_drop_more (λ l. is_among (known l) n) xs i d within ∙ among_more (get_or xs i d) (drop (i + 1) xs) n

-- the i-th name is this one, or is not
pub among_found : (xs : List (Bor Name)) (i : ℕ) (d : Bor Name) (n : Name) (r : Bool) → i < length xs → is_among (known xs) n ≡ is_among (known (drop i xs)) n → r ≡ bytes_eq (get_or xs i d).now n → r ≡ true → true ≡ is_among (known xs) n
among_found xs i d n r within so_far is found = sym (so_far ∙ among_step xs i d n within ∙ ap (λ b. b || is_among (known (drop (i + 1) xs)) n) (sym is ∙ found))

pub among_missed : (xs : List (Bor Name)) (i : ℕ) (d : Bor Name) (n : Name) (r : Bool) → i < length xs → is_among (known xs) n ≡ is_among (known (drop i xs)) n → r ≡ bytes_eq (get_or xs i d).now n → r ≡ false → is_among (known xs) n ≡ is_among (known (drop (i + 1) xs)) n
among_missed xs i d n r within so_far is missed = so_far ∙ among_step xs i d n within ∙ ap (λ b. b || is_among (known (drop (i + 1) xs)) n) (sym is ∙ missed)

-- one name more, behind those that stand there
pub known_pushed : (xs : List (Bor Name)) (x : Bor Name) → known (xs ++ x ∷ []) ≡ x.now ∷ known xs
known_pushed xs x =
    ap reverse (map-append (λ (one : Bor Name). one.now) xs (x ∷ []))
    ∙ reverse-append (map (λ (one : Bor Name). one.now) xs) (x.now ∷ [])

adds_to_type : (x : t.Specifier) → adds_type true x ≡ true
adds_to_type (t.word_specifier p x) = refl
adds_to_type (t.typedef_specifier p n) = refl
adds_to_type (t.struct_tag p n) = refl
adds_to_type (t.enum_tag p n) = refl
adds_to_type (t.struct_specifier p n ms) = refl
adds_to_type (t.enum_specifier p n es) = refl

-- a type that stood is not lost
pub type_stays : (xs : t.SpecifierList) → has_type_from true xs ≡ true
type_stays t.no_specifiers = refl
type_stays (t.more_specifiers x xs) = ap (λ b. has_type_from b xs) (adds_to_type x) ∙ type_stays xs

pub begins_shape : (T : List Name) (d : dc.Declarator)
    → begins_with_typedef T (declarator_of d) ≡ begins_with_typedef T (t.declarator (dc.out-Declarator d).at (stars_in (dc.out-Declarator d).stars.items) (core_of (dc.out-Declarator d).core) (suffixes_from (dc.out-Declarator d).suffixes.items))
begins_shape T d = ap (begins_with_typedef T) (declarator_shape d)
