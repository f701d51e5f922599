-- Which declarations in a block are `struct s;` alone.
use Rattle.std.proofs.Common.{◌≡◌, ℕ, Bool, true, false, List, [], ◌∷◌, length, get_or, Option, Some, None, MatchOption, refl, sym, ap, arith}
use Rattle.im_check_initialisers.specs.im_word.Words.{Name}
use Rattle.im_ctree.specs.Tree as t
use Rattle.im_ctree.specs.Shape.{init_declarators_of}
use Rattle.im_ctree.specs.declared.specifier.Specifier.{Specifier}
use Rattle.im_ctree.specs.declared.declaration.InitDeclarator.{InitDeclarator}
use Rattle.im_ctree_parts.specs.Lists.{list_from, specifier_in}
use Rattle.im_rules.proofs.Tags.{Form, alone, ordinary, form_of}
use Rattle.im_check_locals.specs.declared.tag.LoneTag.{LoneTag}
use Rattle.im_check_locals.specs.Tags.{is_struct_tag, lone, IsOrdinary, IsAlone}

ordinary_by : {xs : t.SpecifierList} {ds : t.InitDeclarators} → Form xs ds → ((at : ℕ) (x : Name) → xs ≡ lone at x → ds ≡ t.no_init_declarators → ⊥) → IsOrdinary xs ds
ordinary_by (alone {at = at} {x = x}) h = absurd (h at x refl refl)
ordinary_by (ordinary a s) h = record { asks = a; scopes = s }

declarators_there : (ds : List InitDeclarator) → (length ds ≡ 0 → ⊥) → init_declarators_of ds ≡ t.no_init_declarators → ⊥
declarators_there [] h e = h refl
declarators_there (x ∷ xs) h e = absurd cc

pub with_declarators : (xs : t.SpecifierList) (ds : List InitDeclarator) → (length ds ≡ 0 → ⊥) → IsOrdinary xs (init_declarators_of ds)
with_declarators xs ds h = ordinary_by (form_of xs (init_declarators_of ds)) (λ at x e f. declarators_there ds h f)

not_lone : (xs : List Specifier) (at : ℕ) (x : Name) → (length xs ≡ 1 → ⊥) → list_from xs ≡ lone at x → ⊥
not_lone [] at x h e = absurd cc
not_lone (s ∷ []) at x h e = h refl
not_lone (s ∷ y ∷ ys) at x h e = absurd cc

pub not_one : (xs : List Specifier) → (length xs ≡ 1 → ⊥) → (ds : t.InitDeclarators) → IsOrdinary (list_from xs) ds
not_one xs h ds = ordinary_by (form_of (list_from xs) ds) (λ at x e f. not_lone xs at x h e)

abbrev first_of : t.SpecifierList → t.Specifier → t.Specifier
first_of t.no_specifiers other = other
first_of (t.more_specifiers s xs) other = s

tag_first : (s : t.Specifier) (xs : t.SpecifierList) (at : ℕ) (x : Name) → t.more_specifiers s xs ≡ lone at x → is_struct_tag s ≡ true
tag_first s xs at x e = ap (λ zs. is_struct_tag (first_of zs s)) e

not_both : (b : Bool) → b ≡ true → b ≡ false → ⊥
not_both true e f = absurd cc
not_both false e f = absurd cc

pub not_a_tag : (s : Specifier) (xs : List Specifier) → is_struct_tag (specifier_in s) ≡ false → (ds : t.InitDeclarators) → IsOrdinary (list_from (s ∷ xs)) ds
not_a_tag s xs h ds =
    ordinary_by (form_of (list_from (s ∷ xs)) ds) (λ at x e f. not_both (is_struct_tag (specifier_in s)) (tag_first (specifier_in s) (list_from xs) at x e) h)

one_alone : (xs : List Specifier) (s : Specifier) → length xs ≡ 1 → s ≡ get_or xs 0 s → xs ≡ s ∷ []
one_alone [] s one is = absurd (omega arith)
one_alone (y ∷ []) s one is = ap (λ z. z ∷ []) (sym is)
one_alone (y ∷ z ∷ zs) s one is = absurd (omega arith)

-- of one specifier, and of one without declarators

pub one_told : (xs : List Specifier) (s : Specifier) (r : Option LoneTag) → length xs ≡ 1 → s ≡ get_or xs 0 s
    → MatchOption r (is_struct_tag (specifier_in s) ≡ false) (λ m. specifier_in s ≡ t.struct_tag m.at m.tag.now.items)
    → MatchOption r ((ds : t.InitDeclarators) → IsOrdinary (list_from xs) ds) (λ m. list_from xs ≡ lone m.at m.tag.now.items)
one_told xs s r one is h = rw (one_alone xs s one is) (by r h)
  where
    by : (r : Option LoneTag)
        → MatchOption r (is_struct_tag (specifier_in s) ≡ false) (λ m. specifier_in s ≡ t.struct_tag m.at m.tag.now.items)
        → MatchOption r ((ds : t.InitDeclarators) → IsOrdinary (list_from (s ∷ [])) ds) (λ m. list_from (s ∷ []) ≡ lone m.at m.tag.now.items)
    by None h = not_a_tag s [] h
    by (Some m) h = ap (λ z. t.more_specifiers z t.no_specifiers) h

none_there : (ds : List InitDeclarator) → length ds ≡ 0 → init_declarators_of ds ≡ t.no_init_declarators
none_there [] e = refl
none_there (x ∷ xs) e = absurd cc

pub alone_told : (xs : t.SpecifierList) (ds : List InitDeclarator) (r : Option LoneTag) → length ds ≡ 0
    → MatchOption r ((es : t.InitDeclarators) → IsOrdinary xs es) (λ m. xs ≡ lone m.at m.tag.now.items)
    → MatchOption r (IsOrdinary xs (init_declarators_of ds)) (λ m. IsAlone m.at m.tag.now.items xs (init_declarators_of ds))
alone_told xs ds None none h = h (init_declarators_of ds)
alone_told xs ds (Some m) none h = record { specifiers = h; declarators = none_there ds none }
