-- Where all that is asked is so, an expression, a type name or a declarator is typed.
use Rattle.std.proofs.Common.{◌≡◌, ℕ, ◌+◌, List, [], ◌∷◌, refl, Bool, true, false}
use Rattle.im_rules.specs.im_ctree.Tree as t
use Rattle.im_rules.specs.Context.{Context, in_new_scope, behind, behind_name, behind_core, behind_may, behind_parameters}
use Rattle.im_rules.specs.Demands.{Demand, asks, Meets, call_asks, callee_of, is_function_meant}
use Rattle.im_rules.specs.Declared.{Qualified, behind_specifiers, type_of_specifiers, with_stars, parameter, with_parameter}
use Rattle.im_rules.specs.Typed.{Typed, of_identifier, of_number, of_character, of_string, of_index, of_call, of_member, of_arrow, of_post_step, of_pre_step, of_unary, of_size, of_type_size, of_cast, of_binary, of_conditional, of_assign, of_comma, AreTyped, no_argument, an_argument, Names, of_type_name, Declares, of_declarator, DeclaresIn, of_nothing, of_name, of_inner, Suffixed, no_suffix, of_array, of_open_array, of_function, AreParameters, no_parameter, a_parameter, MayDeclare, of_no_declarator, of_a_declarator}
use Rattle.im_rules_asked.specs.Asked.{Asked, node, Parts, no_part, beside, behind as then_}
use Rattle.im_rules_asked.specs.Expressions.{term, terms, named, declared, declared_in, suffixed, parameters, may_declare, asked, call_asked, all_asked, name_asked, declarator_asked, core_asked, suffixes_asked, parameters_asked, may_asked}
use Rattle.im_rules_asked.proofs.Right.{Right, own, within, beside_last, beside_rest, behind_last, behind_rest}

-- a node's only part, and the parts of a node of two
pub part : {k : ℕ} {ds : List Demand} {a : Asked} → Right (node k ds (beside no_part a)) → Right a
part h = beside_last (within h)

pub first_part : {k : ℕ} {ds : List Demand} {a b : Asked} → Right (node k ds (beside (beside no_part a) b)) → Right a
first_part h = beside_last (beside_rest (within h))

pub second_part : {k : ℕ} {ds : List Demand} {a b : Asked} → Right (node k ds (beside (beside no_part a) b)) → Right b
second_part h = beside_last (within h)

-- and of two of which the second stands behind the first
pub first_of : {k : ℕ} {ds : List Demand} {a b : Asked} → Right (node k ds (then_ (beside no_part a) b)) → Right a
first_of h = beside_last (behind_rest (within h))

pub then_of : {k : ℕ} {ds : List Demand} {ps : Parts} {b : Asked} → Right (node k ds (then_ ps b)) → Right b
then_of h = behind_last (within h)

pub not_so : (d : Demand) → d.holds ≡ false → Meets (d ∷ []) → ⊥
not_so d p m = cc (p, m.0)

built_call : (c : Context) (at : ℕ) (f : t.Expression) (es : t.Expressions)
    → (Right (all_asked (behind f c) es) → AreTyped (behind f c) es (terms (behind f c) es))
    → (m : Bool)
    → is_function_meant (callee_of c.scopes f) ≡ m
    → Right (call_asked m at (call_asks (callee_of c.scopes f) (terms (behind f c) es)) (asked c f) (all_asked (behind f c) es))
    → Typed c (t.call at f es) (term c (t.call at f es))
built_call c at f es typed true p h = of_call p (typed (part h)) (own h)
built_call c at f es typed false p h = absurd (not_so (asks 19 false) refl (own h))

mutual
  pub built : (c : Context) (e : t.Expression) → Right (asked c e) → Typed c e (term c e)
  built c (t.identifier at x) h = of_identifier (own h)
  built c (t.integer_constant at n) h = of_number
  built c (t.character_constant at n) h = of_character
  built c (t.string_literal at s) h = of_string
  built c (t.index at a b) h = of_index (built c a (first_part h)) (built (behind a c) b (second_part h)) (own h)
  built c (t.call at f es) h = built_call c at f es (λ q. built_all (behind f c) es q) (is_function_meant (callee_of c.scopes f)) refl h
  built c (t.member_of at e m) h = of_member (built c e (part h)) (own h)
  built c (t.arrow_to at e m) h = of_arrow (built c e (part h)) (own h)
  built c (t.post_step at op e) h = of_post_step (built c e (part h)) (own h)
  built c (t.pre_step at op e) h = of_pre_step (built c e (part h)) (own h)
  built c (t.unary at op e) h = of_unary (built c e (part h)) (own h)
  built c (t.size_of_expression at e) h = of_size (built c e (part h)) (own h)
  built c (t.size_of_type at n) h = of_type_size (built_name c n (part h)) (own h)
  built c (t.cast at n e) h = of_cast (built_name c n (first_part h)) (built (behind_name n c) e (second_part h)) (own h)
  built c (t.binary at op a b) h = of_binary (built c a (first_part h)) (built (behind a c) b (second_part h)) (own h)
  built c (t.conditional at d a b) h =
      of_conditional (built c d (beside_last (beside_rest (beside_rest (within h))))) (built (behind d c) a (beside_last (beside_rest (within h)))) (built (behind a (behind d c)) b (beside_last (within h))) (own h)
  built c (t.assign at op a b) h = of_assign (built c a (first_part h)) (built (behind a c) b (second_part h)) (own h)
  built c (t.comma at a b) h = of_comma (built c a (first_part h)) (built (behind a c) b (second_part h))

  pub built_all : (c : Context) (es : t.Expressions) → Right (all_asked c es) → AreTyped c es (terms c es)
  built_all c t.no_expressions h = no_argument
  built_all c (t.more_expressions e es) h = an_argument (built c e (first_part h)) (built_all (behind e c) es (second_part h))

  pub built_name : (c : Context) (n : t.TypeName) → Right (name_asked c n) → Names c n (named c n)
  built_name c (t.type_name (t.specifiers at xs) m) h = of_type_name (own (first_of h)) (built_may c (type_of_specifiers c xs) m (then_of h)) (own h)

  pub built_declarator : (c : Context) (q : Qualified) (e : t.Declarator) → Right (declarator_asked c q e) → Declares c q e (declared c q e)
  built_declarator c q (t.declarator at stars core ss) h =
      of_declarator (own (first_part h)) (built_suffixes (behind_core core c) (with_stars q stars) ss (first_of (second_part h)))
      (built_core c (suffixed (behind_core core c) (with_stars q stars) ss) core (then_of (second_part h)))

  pub built_core : (c : Context) (q : Qualified) (k : t.Core) → Right (core_asked c q k) → DeclaresIn c q k (declared_in c q k)
  built_core c q t.absent_core h = of_nothing
  built_core c q (t.name_core x) h = of_name
  built_core c q (t.inner_core e) h = of_inner (built_declarator c q e h)

  pub built_suffixes : (c : Context) (q : Qualified) (ss : t.Suffixes) → Right (suffixes_asked c q ss) → Suffixed c q ss (suffixed c q ss)
  built_suffixes c q t.no_suffixes h = no_suffix
  built_suffixes c q (t.array_suffix at (t.an_expression e) ss) h =
      of_array (built_suffixes (behind e c) q ss (first_part (first_of h))) (built c e (second_part (first_of h))) (own (first_of h))
  built_suffixes c q (t.array_suffix at t.no_expression ss) h = of_open_array (built_suffixes c q ss (part h)) (own h)
  built_suffixes c q (t.function_suffix at ps ss) h =
      of_function (built_suffixes (behind_parameters ps c) q ss (first_part h)) (built_parameters (in_new_scope c) 0 ps (second_part h)) (own h)

  pub built_parameters : (c : Context) (n : ℕ) (ps : t.Parameters) → Right (parameters_asked c n ps) → AreParameters c n ps (parameters c n ps)
  built_parameters c n t.no_parameters h = no_parameter
  built_parameters c n (t.more_parameters (t.specifiers at xs) m ps) h =
      a_parameter (own (beside_last (behind_rest (behind_rest (within h))))) (built_may (behind_specifiers c xs) (type_of_specifiers c xs) m (behind_last (behind_rest (within h)))) (own (first_part (then_of h)))
      (built_parameters (with_parameter n (parameter (may_declare (behind_specifiers c xs) (type_of_specifiers c xs) m)) (behind_may m (behind_specifiers c xs))) (n + 1) ps (second_part (then_of h)))

  pub built_may : (c : Context) (q : Qualified) (m : t.MaybeDeclarator) → Right (may_asked c q m) → MayDeclare c q m (may_declare c q m)
  built_may c q t.no_declarator h = of_no_declarator
  built_may c q (t.a_declarator e) h = of_a_declarator (built_declarator c q e h)
