-- Specifiers that the rules have nothing against hold no string literal, since they hold no list; nor does a function's name.
use Rattle.std.proofs.Common.{◌≡◌, true, false, List, [], ◌∷◌, ◌++◌, refl, ap, ◌∙◌, sym}
use Rattle.im_check_declarators.specs.im_word.Words.{Name}
use Rattle.im_check_declarators.specs.im_ctree.Tree as t
use Rattle.im_rules.specs.Context.{Context}
use Rattle.im_rules.specs.Declared.{specifiers_ask, specified_asks}
use Rattle.im_rules.specs.Demands.{Meets, callee_of, is_function_meant}
use Rattle.im_rules.specs.Rules.{named_in, rule_1}
use Rattle.im_rules.specs.Scopes.{Scopes}
use Rattle.im_rules.specs.Strings.{strings_in, strings_listed, strings_of_specifier}

abbrev strings_of : List t.Specifier → List Name
strings_of [] = []
strings_of (s ∷ ss) = strings_of_specifier s ++ strings_of ss

listed : (xs : t.SpecifierList) → strings_listed xs ≡ strings_of (named_in xs)
listed t.no_specifiers = refl
listed (t.more_specifiers (t.word_specifier at x) xs) = listed xs
listed (t.more_specifiers (t.typedef_specifier at x) xs) = listed xs
listed (t.more_specifiers (t.struct_tag at x) xs) = listed xs
listed (t.more_specifiers (t.enum_tag at x) xs) = listed xs
listed (t.more_specifiers (t.struct_specifier at x ms) xs) = ap (λ z. strings_of_specifier (t.struct_specifier at x ms) ++ z) (listed xs)
listed (t.more_specifiers (t.enum_specifier at x es) xs) = ap (λ z. strings_of_specifier (t.enum_specifier at x es) ++ z) (listed xs)

one : (c : Context) (xs : t.SpecifierList) (ss : List t.Specifier) → named_in xs ≡ ss → Meets (specifiers_ask c xs) → strings_of ss ≡ []
one c xs [] e m = refl
one c xs (t.word_specifier at x ∷ []) e m = refl
one c xs (t.typedef_specifier at x ∷ []) e m = refl
one c xs (t.struct_tag at x ∷ []) e m = refl
one c xs (t.enum_tag at x ∷ []) e m = refl
one c xs (t.struct_specifier at x ms ∷ []) e m =
    let h : Meets (specified_asks c (t.struct_specifier at x ms ∷ [])) = rw e at m.1.1 in
    let f : false ≡ true = h.0 in
    absurd cc
one c xs (t.enum_specifier at x es ∷ []) e m =
    let h : Meets (specified_asks c (t.enum_specifier at x es ∷ [])) = rw e at m.1.1 in
    let f : false ≡ true = h.0 in
    absurd cc
one c xs (s ∷ r ∷ ss) e m =
    let f : rule_1 xs ≡ false = rw e refl in
    let h : false ≡ true = sym f ∙ m.0 in
    absurd cc

pub none_listed : (c : Context) (xs : t.SpecifierList) → Meets (specifiers_ask c xs) → strings_listed xs ≡ []
none_listed c xs m = listed xs ∙ one c xs (named_in xs) refl m

pub none_called : (g : Scopes) (f : t.Expression) → is_function_meant (callee_of g f) ≡ true → strings_in f ≡ []
none_called g (t.identifier at x) h = refl
none_called g (t.integer_constant at n) h = refl
none_called g (t.character_constant at n) h = refl
none_called g (t.string_literal at s) h = absurd cc
none_called g (t.index at a b) h = absurd cc
none_called g (t.call at f es) h = absurd cc
none_called g (t.member_of at e x) h = absurd cc
none_called g (t.arrow_to at e x) h = absurd cc
none_called g (t.post_step at op e) h = absurd cc
none_called g (t.pre_step at op e) h = absurd cc
none_called g (t.unary at op e) h = absurd cc
none_called g (t.size_of_expression at e) h = absurd cc
none_called g (t.size_of_type at n) h = absurd cc
none_called g (t.cast at n e) h = absurd cc
none_called g (t.binary at op a b) h = absurd cc
none_called g (t.conditional at d a b) h = absurd cc
none_called g (t.assign at op a b) h = absurd cc
none_called g (t.comma at a b) h = absurd cc
