-- Parameters of functions, as they are written and as they are declared.
use Rattle.std.proofs.Common.{arith, ◌≡◌, ℕ, ◌+◌, ◌<◌, Bool, true, false, List, [], ◌∷◌, ◌++◌, map, length, take, get_or, nat_eq, Option, Some, None, Box, Global, refl, sym, ap, ◌∙◌, subst}
use Rattle.std.proofs.lemmas.Bool.{ne_eqb}
use Rattle.std.proofs.lemmas.List.{take_more}
use Rattle.im_ctree.specs.Tree as t
use Rattle.im_ctree.specs.declared.declarator.Declarator.{Declarator}
use Rattle.im_ctree.specs.declared.declarator.Parameter.{Parameter, out-Parameter}
use Rattle.im_ctree.specs.declared.specifier.Specifier.{Specifier}
use Rattle.im_ctree.specs.declared.specifier.Specifiers.{out-Specifiers}
use Rattle.im_ctree.specs.Shape.{declarator_of}
use Rattle.im_ctype.specs.Types.{CType, CTypes, no_types, more_types}
use Rattle.im_rules.specs.Rules.{rule_9_void}
use Rattle.im_rules.specs.Declared.{types_of, is_only_void}
use Rattle.im_types.specs.declared.tree.Type as rust
use Rattle.im_types.specs.Shape.{type_of, types_in}
use Rattle.im_ctree_parts.specs.Lists.{list_from, declarator_from, parameters_from, with_parameter}
use Rattle.im_ctree_parts.proofs.Shapes.{parameter_shape}
use Rattle.im_check_declarators.specs.declared.declared.Declared.{Declared}
use Rattle.im_check_declarators.specs.Shape.{declared_of}

words_one : (at : ℕ) (items : List Specifier) → rule_9_void (t.more_parameters (t.specifiers at (list_from items)) t.no_declarator t.no_parameters) ≡ nat_eq (length items) 1
words_one at [] = refl
words_one at (s ∷ []) = refl
words_one at (s ∷ z ∷ items) = sym (ne_eqb (length (s ∷ z ∷ items)) 1 (λ e. omega arith))

not_named : (at : ℕ) (items : List Specifier) (b : Box Declarator Global) → rule_9_void (t.more_parameters (t.specifiers at (list_from items)) (t.a_declarator (declarator_of b.value)) t.no_parameters) ≡ false
not_named at [] b = refl
not_named at (s ∷ []) b = refl
not_named at (s ∷ z ∷ items) b = refl

alone : (p : Parameter) (d : Option (Box Declarator Global)) → (out-Parameter p).declarator ≡ d
    → rule_9_void (parameters_from (p ∷ [])) ≡ rule_9_void (t.more_parameters (t.specifiers (out-Specifiers (out-Parameter p).specifiers).at (list_from (out-Specifiers (out-Parameter p).specifiers).items.items)) (declarator_from d) t.no_parameters)
alone p d h =
    let s = out-Specifiers (out-Parameter p).specifiers in
    ap rule_9_void (parameter_shape p t.no_parameters ∙ ap (λ (m : Option (Box Declarator Global)). t.more_parameters (t.specifiers s.at (list_from s.items.items)) (declarator_from m) t.no_parameters) h)

pub unnamed_word : (p : Parameter) → (out-Parameter p).declarator ≡ None → rule_9_void (parameters_from (p ∷ [])) ≡ nat_eq (length (out-Specifiers (out-Parameter p).specifiers).items.items) 1
unnamed_word p h = let s = out-Specifiers (out-Parameter p).specifiers in alone p None h ∙ words_one s.at s.items.items

pub named_word : (p : Parameter) (b : Box Declarator Global) → (out-Parameter p).declarator ≡ Some b → rule_9_void (parameters_from (p ∷ [])) ≡ false
named_word p b h = let s = out-Specifiers (out-Parameter p).specifiers in alone p (Some b) h ∙ not_named s.at s.items.items b

two_parameters : (a b : t.Specifiers) (m n : t.MaybeDeclarator) (rest : t.Parameters) → rule_9_void (t.more_parameters a m (t.more_parameters b n rest)) ≡ false
two_parameters (t.specifiers at t.no_specifiers) b m n rest = refl
two_parameters (t.specifiers at (t.more_specifiers x t.no_specifiers)) b t.no_declarator n rest = refl
two_parameters (t.specifiers at (t.more_specifiers x t.no_specifiers)) b (t.a_declarator e) n rest = refl
two_parameters (t.specifiers at (t.more_specifiers x (t.more_specifiers y ys))) b m n rest = refl

abbrev words : Parameter → t.Specifiers
words p = t.specifiers (out-Specifiers (out-Parameter p).specifiers).at (list_from (out-Specifiers (out-Parameter p).specifiers).items.items)

abbrev named : Parameter → t.MaybeDeclarator
named p = declarator_from (out-Parameter p).declarator

pub not_one_word : (ps : List Parameter) → (length ps ≡ 1 → ⊥) → rule_9_void (parameters_from ps) ≡ false
not_one_word [] h = refl
not_one_word (p ∷ []) h = absurd (h refl)
not_one_word (p ∷ r ∷ ps) h =
    ap rule_9_void (parameter_shape p (with_parameter r (parameters_from ps)) ∙ ap (λ z. t.more_parameters (words p) (named p) z) (parameter_shape r (parameters_from ps)))
    ∙ two_parameters (words p) (words r) (named p) (named r) (parameters_from ps)

pub not_only_void : (ds : List Declared) → (length ds ≡ 1 → ⊥) → is_only_void (map declared_of ds) ≡ false
not_only_void [] h = refl
not_only_void (d ∷ []) h = absurd (h refl)
not_only_void (d ∷ e ∷ ds) h = refl

pub one_alone : {X : Type 0} (xs : List X) (x : X) → length xs ≡ 1 → x ≡ get_or xs 0 x → xs ≡ x ∷ []
one_alone [] x n h = absurd (omega arith)
one_alone (z ∷ []) x n h = ap (λ y. y ∷ []) (sym h)
one_alone (z ∷ w ∷ xs) x n h = absurd (omega arith)

-- types in order

abbrev behind : CTypes → CType → CTypes
behind no_types a = more_types a no_types
behind (more_types b bs) a = more_types b (behind bs a)

in_push : (ts : List rust.Type) (ty : rust.Type) → types_in (ts ++ ty ∷ []) ≡ behind (types_in ts) (type_of ty)
in_push [] ty = refl
in_push (x ∷ ts) ty = ap (λ z. more_types (type_of x) z) (in_push ts ty)

of_push : (ds : List Declared) (d : Declared) → types_of (map declared_of (ds ++ d ∷ [])) ≡ behind (types_of (map declared_of ds)) (type_of d.ty)
of_push [] d = refl
of_push (x ∷ ds) d = ap (λ z. more_types (type_of x.ty) z) (of_push ds d)

pub one_type_more : (ds : List Declared) (i : ℕ) (d : Declared) (ts : List rust.Type) (ty : rust.Type) → i < length ds → d ≡ get_or ds i d → types_in ts ≡ types_of (map declared_of (take i ds)) → type_of ty ≡ type_of d.ty
    → types_in (ts ++ ty ∷ []) ≡ types_of (map declared_of (take (i + 1) ds))
one_type_more ds i d ts ty below is so_far e =
    let t₁ : take (i + 1) ds ≡ take i ds ++ d ∷ [] = take_more ds i d below ∙ ap (λ z. take i ds ++ z ∷ []) (sym is) in
    in_push ts ty ∙ ap (λ z. behind z (type_of ty)) so_far ∙ ap (λ z. behind (types_of (map declared_of (take i ds))) z) e ∙ sym (of_push (take i ds) d) ∙ ap (λ z. types_of (map declared_of z)) (sym t₁)
