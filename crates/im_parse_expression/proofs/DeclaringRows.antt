-- The rows of specifiers and declarators are the vectors that they were made of.
use Rattle.std.proofs.Common.{◌≡◌, ℕ, List, [], ◌∷◌, refl, ap, ◌∙◌, map, Global}
use Rattle.std.specs.declared.vec.Vec.{Vec}
use Rattle.im_ctree.specs.declared.specifier.Specifier.{Specifier}
use Rattle.im_ctree.specs.declared.declarator.Suffix.{Suffix}
use Rattle.im_ctree.specs.declared.declarator.Core.TheBlock.{hidden-the_row-Specifier-6, hidden-the_row-Member-2, hidden-the_row-Enumerator-3, hidden-the_row-Declarator-5, hidden-the_row-Suffix-4, hidden-the_row-Parameter-0}
use Rattle.im_ctree.specs.declared.specifier.Specifiers as ss
use Rattle.im_ctree.specs.declared.specifier.SpecifierKind as sk
use Rattle.im_ctree.specs.declared.specifier.Member as mb
use Rattle.im_ctree.specs.declared.specifier.Enumerator as en
use Rattle.im_ctree.specs.declared.declarator.Declarator as dc
use Rattle.im_ctree.specs.declared.declarator.SuffixKind as xk
use Rattle.im_ctree.specs.declared.declarator.Parameter as pm
use Rattle.im_ctree.specs.declared.declaration.Initializer as ini
use Rattle.im_ctree.specs.declared.declaration.Initializer.TheBlock.{hidden-the_row-Initializer-0}
use Rattle.im_ctree.specs.declared.declaration.InitDeclarator.{InitDeclarator}
use Rattle.im_parse_expression.specs.Initializing.{initializers_tree, add_init_declarator, init_declarator_tree}
use Rattle.im_ctree.specs.Tree as t
use Rattle.im_ctree.specs.Shape.{specifier_of, specifier_list_of, members_of, specifiers_of, declarators_of, declarator_of, enumerators_of, maybe_expression_of, suffixes_of, parameters_of, maybe_declarator_of, initializers_of, initializer_of, init_declarators_of, maybe_initializer_of}
use Rattle.im_parse_core.specs.Lists.{before}
use Rattle.im_parse_expression.specs.Declaring.{specifier_tree, specifier_list, add_member, member_tree, members_tree, add_enumerator, enumerator_tree, enumerators_tree, declarators_tree, add_suffix, suffix_tree, suffixes_tree, add_parameter, parameter_tree, parameters_tree}

pub specifiers_row : (n : _) (row : ss.Row_of-Specifier n) → specifier_list_of row ≡ before t.more_specifiers (map specifier_tree (ss.items-the_row-Specifier n row)) t.no_specifiers
specifiers_row _ ss.end_of-Specifier = refl
specifiers_row _ (ss.more_of-Specifier at x xs) = ap (λ z. t.more_specifiers (specifier_of at x) z) (specifiers_row _ xs)

pub members_row : (n : _) (row : sk.Row_of-Member n) → members_of row ≡ before add_member (map member_tree (sk.items-the_row-Member n row)) t.no_members
members_row _ sk.end_of-Member = refl
members_row _ (sk.more_of-Member (mb.Member' s m ds) xs) = ap (λ z. t.more_members (specifiers_of s) (declarators_of ds) z) (members_row _ xs)

pub enumerators_row : (n : _) (row : sk.Row_of-Enumerator n) → enumerators_of row ≡ before add_enumerator (map enumerator_tree (sk.items-the_row-Enumerator n row)) t.no_enumerators
enumerators_row _ sk.end_of-Enumerator = refl
enumerators_row _ (sk.more_of-Enumerator (en.Enumerator' at n e) xs) = ap (λ z. t.more_enumerators at n.items (maybe_expression_of e) z) (enumerators_row _ xs)

pub declarators_row : (n : _) (row : mb.Row_of-Declarator n) → declarators_of row ≡ before t.more_declarators (map declarator_of (mb.items-the_row-Declarator n row)) t.no_declarators
declarators_row _ mb.end_of-Declarator = refl
declarators_row _ (mb.more_of-Declarator d xs) = ap (λ z. t.more_declarators (declarator_of d) z) (declarators_row _ xs)

pub suffixes_row : (n : _) (row : dc.Row_of-Suffix n) → suffixes_of row ≡ before add_suffix (map suffix_tree (dc.items-the_row-Suffix n row)) t.no_suffixes
suffixes_row _ dc.end_of-Suffix = refl
suffixes_row _ (dc.more_of-Suffix at (xk.Array' e) xs) = ap (λ z. t.array_suffix at (maybe_expression_of e) z) (suffixes_row _ xs)
suffixes_row _ (dc.more_of-Suffix at (xk.Function' m ps) xs) = ap (λ z. t.function_suffix at (parameters_of ps) z) (suffixes_row _ xs)

pub parameters_row : (n : _) (row : xk.Row_of-Parameter n) → parameters_of row ≡ before add_parameter (map parameter_tree (xk.items-the_row-Parameter n row)) t.no_parameters
parameters_row _ xk.end_of-Parameter = refl
parameters_row _ (xk.more_of-Parameter (pm.Parameter' s d) xs) = ap (λ z. t.more_parameters (specifiers_of s) (maybe_declarator_of d) z) (parameters_row _ xs)

-- the same of what a vector's items are put into
pub specifiers_made : (items : Vec Specifier Global) → specifier_list_of (hidden-the_row-Specifier-6 items) ≡ specifier_list items
specifiers_made items = specifiers_row _ (hidden-the_row-Specifier-6 items) ∙ ap (λ z. before t.more_specifiers (map specifier_tree z) t.no_specifiers) (ss.items_hidden-the_row-Specifier-6 items)

pub members_made : (items : Vec mb.Member Global) → members_of (hidden-the_row-Member-2 items) ≡ members_tree items
members_made items = members_row _ (hidden-the_row-Member-2 items) ∙ ap (λ z. before add_member (map member_tree z) t.no_members) (sk.items_hidden-the_row-Member-2 items)

pub enumerators_made : (items : Vec en.Enumerator Global) → enumerators_of (hidden-the_row-Enumerator-3 items) ≡ enumerators_tree items
enumerators_made items = enumerators_row _ (hidden-the_row-Enumerator-3 items) ∙ ap (λ z. before add_enumerator (map enumerator_tree z) t.no_enumerators) (sk.items_hidden-the_row-Enumerator-3 items)

pub declarators_made : (items : Vec dc.Declarator Global) → declarators_of (hidden-the_row-Declarator-5 items) ≡ declarators_tree items
declarators_made items = declarators_row _ (hidden-the_row-Declarator-5 items) ∙ ap (λ z. before t.more_declarators (map declarator_of z) t.no_declarators) (mb.items_hidden-the_row-Declarator-5 items)

pub suffixes_made : (items : Vec Suffix Global) → suffixes_of (hidden-the_row-Suffix-4 items) ≡ suffixes_tree items
suffixes_made items = suffixes_row _ (hidden-the_row-Suffix-4 items) ∙ ap (λ z. before add_suffix (map suffix_tree z) t.no_suffixes) (dc.items_hidden-the_row-Suffix-4 items)

pub parameters_made : (items : Vec pm.Parameter Global) → parameters_of (hidden-the_row-Parameter-0 items) ≡ parameters_tree items
parameters_made items = parameters_row _ (hidden-the_row-Parameter-0 items) ∙ ap (λ z. before add_parameter (map parameter_tree z) t.no_parameters) (xk.items_hidden-the_row-Parameter-0 items)

pub initializers_row : (n : _) (row : ini.Row_of-Initializer n) → initializers_of row ≡ before t.more_initializers (map initializer_of (ini.items-the_row-Initializer n row)) t.no_initializers
initializers_row _ ini.end_of-Initializer = refl
initializers_row _ (ini.more_of-Initializer x xs) = ap (λ z. t.more_initializers (initializer_of x) z) (initializers_row _ xs)

pub initializers_made : (items : Vec ini.Initializer Global) → initializers_of (hidden-the_row-Initializer-0 items) ≡ initializers_tree items
initializers_made items = initializers_row _ (hidden-the_row-Initializer-0 items) ∙ ap (λ z. before t.more_initializers (map initializer_of z) t.no_initializers) (ini.items_hidden-the_row-Initializer-0 items)

pub inits_before : (items : List InitDeclarator) → init_declarators_of items ≡ before add_init_declarator (map init_declarator_tree items) t.no_init_declarators
inits_before [] = refl
inits_before (x ∷ items) = ap (λ z. t.more_init_declarators (declarator_of x.declarator) (maybe_initializer_of x.initializer) z) (inits_before items)
