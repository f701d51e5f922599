-- Of what is typed, all that is asked is so.
use Rattle.std.proofs.Common.{◌≡◌, ℕ, ◌+◌, List, [], ◌∷◌, sym, subst, Bool, true, false}
use Rattle.im_rules.specs.im_ctree.Tree as t
use Rattle.im_rules.specs.Context.{Context, behind, behind_may}
use Rattle.im_rules.specs.Terms.{Term, type_in, constant_in}
use Rattle.im_rules.specs.Demands.{asks, Meets, index_asks, call_asks, dot_asks, arrow_asks, step_asks, unary_asks, size_asks, cast_asks, binary_asks, conditional_asks, assign_asks, callee_of, is_function_meant}
use Rattle.im_rules.specs.Declared.{Qualified, Declared, behind_specifiers, element_asks, length_asks, parameter, with_parameter, parameter_asks, function_asks, is_sized, parameters_of as given_parameters}
use Rattle.im_rules.specs.Typed.{Typed, of_identifier, of_number, of_character, of_string, of_index, of_call, of_member, of_arrow, of_post_step, of_pre_step, of_unary, of_size, of_type_size, of_cast, of_binary, of_conditional, of_assign, of_comma, AreTyped, no_argument, an_argument, Names, of_type_name, Declares, of_declarator, DeclaresIn, of_nothing, of_name, of_inner, Suffixed, no_suffix, of_array, of_open_array, of_function, AreParameters, no_parameter, a_parameter, MayDeclare, of_no_declarator, of_a_declarator}
use Rattle.im_rules_asked.specs.Expressions.{terms, asked, call_asked, all_asked, name_asked, declarator_asked, core_asked, suffixes_asked, parameters_asked, may_asked}
use Rattle.im_rules_asked.proofs.Right.{Right, of_node, of_none, of_one, of_both, of_first, of_beside, of_behind, of_sizes, met_1, met_2, met_3}
use Rattle.im_rules_asked.proofs.Terms.{term_of, terms_of, named_of, suffixed_of, parameters_of, may_of}

-- a function's name is called
call_right : (c : Context) (at : ℕ) (f : t.Expression) (es : t.Expressions) (m : Bool) → m ≡ true
    → Right (all_asked (behind f c) es)
    → Meets (call_asks (callee_of c.scopes f) (terms (behind f c) es))
    → Right (call_asked m at (call_asks (callee_of c.scopes f) (terms (behind f c) es)) (asked c f) (all_asked (behind f c) es))
call_right c at f es true p h m = of_node (of_one h) m
call_right c at f es false p h m = absurd (cc)

mutual
  pub rightly : {c : Context} {e : t.Expression} {x : Term} → Typed c e x → Right (asked c e)
  rightly (of_identifier m) = of_node of_none m
  rightly of_number = of_node of_none tt
  rightly of_character = of_node of_none tt
  rightly of_string = of_sizes
  rightly {c = c} (of_index a b m) = of_node (of_both (rightly a) (rightly b)) (met_2 (λ x y. index_asks c.known x y) (term_of a) (term_of b) m)
  rightly {c = c} (of_call {at = at} {f = f} {es = es} p xs m) =
      call_right c at f es (is_function_meant (callee_of c.scopes f)) p (all_rightly xs) (met_1 (λ ys. call_asks (callee_of c.scopes f) ys) (terms_of xs) m)
  rightly {c = c} (of_member {m = n} a m) = of_node (of_one (rightly a)) (met_1 (λ x. dot_asks c.known x n) (term_of a) m)
  rightly {c = c} (of_arrow {m = n} a m) = of_node (of_one (rightly a)) (met_1 (λ x. arrow_asks c.known x n) (term_of a) m)
  rightly {c = c} (of_post_step a m) = of_node (of_one (rightly a)) (met_1 (λ x. step_asks c.known x) (term_of a) m)
  rightly {c = c} (of_pre_step a m) = of_node (of_one (rightly a)) (met_1 (λ x. step_asks c.known x) (term_of a) m)
  rightly {c = c} (of_unary {op = op} a m) = of_node (of_one (rightly a)) (met_1 (λ x. unary_asks c.known op x) (term_of a) m)
  rightly {c = c} (of_size a m) = of_node (of_one (rightly a)) (met_1 (λ x. size_asks c.known (type_in x)) (term_of a) m)
  rightly {c = c} (of_type_size n m) = of_node (of_one (name_rightly n)) (met_1 {A = Qualified} (λ q. size_asks c.known q.type) (named_of n) m)
  rightly (of_cast n a m) = of_node (of_both (name_rightly n) (rightly a)) (met_2 {A = Qualified} (λ q x. cast_asks q.type x) (named_of n) (term_of a) m)
  rightly {c = c} (of_binary {op = op} a b m) = of_node (of_both (rightly a) (rightly b)) (met_2 (λ x y. binary_asks c.known op x y) (term_of a) (term_of b) m)
  rightly (of_conditional d a b m) =
      of_node (of_beside (of_both (rightly d) (rightly a)) (rightly b)) (met_3 (λ w x y. conditional_asks w x y) (term_of d) (term_of a) (term_of b) m)
  rightly {c = c} (of_assign {op = op} a b m) = of_node (of_both (rightly a) (rightly b)) (met_2 (λ x y. assign_asks c.known op x y) (term_of a) (term_of b) m)
  rightly (of_comma a b) = of_node (of_both (rightly a) (rightly b)) tt

  pub all_rightly : {c : Context} {es : t.Expressions} {xs : List Term} → AreTyped c es xs → Right (all_asked c es)
  all_rightly no_argument = of_node of_none tt
  all_rightly (an_argument a as') = of_node (of_both (rightly a) (all_rightly as')) tt

  pub name_rightly : {c : Context} {n : t.TypeName} {q : Qualified} → Names c n q → Right (name_asked c n)
  name_rightly (of_type_name s d m) =
      of_node (of_first (of_node of_none s) (may_rightly d)) (met_1 {A = Declared} (λ y. asks 6 (is_sized y.type) ∷ []) (may_of d) m)

  pub declarator_rightly : {c : Context} {q : Qualified} {e : t.Declarator} {d : Declared} → Declares c q e d → Right (declarator_asked c q e)
  declarator_rightly {c = c} (of_declarator {core = core} s r d) =
      of_node (of_both (of_node of_none s)
      (of_node (of_first (suffixes_rightly r) (subst (λ z. Right (core_asked c z core)) (sym (suffixed_of r)) (core_rightly d))) tt)) tt

  pub core_rightly : {c : Context} {q : Qualified} {k : t.Core} {d : Declared} → DeclaresIn c q k d → Right (core_asked c q k)
  core_rightly of_nothing = of_node of_none tt
  core_rightly of_name = of_node of_none tt
  core_rightly (of_inner d) = declarator_rightly d

  pub suffixes_rightly : {c : Context} {q : Qualified} {ss : t.Suffixes} {r : Qualified} → Suffixed c q ss r → Right (suffixes_asked c q ss)
  suffixes_rightly no_suffix = of_node of_none tt
  suffixes_rightly {c = c} (of_array s e m) =
      of_node (of_first (of_node (of_both (suffixes_rightly s) (rightly e))
      (met_2 (λ r x. length_asks c r (constant_in x)) (suffixed_of s) (term_of e) m)) of_sizes) tt
  suffixes_rightly {c = c} (of_open_array s m) = of_node (of_one (suffixes_rightly s)) (met_1 (λ r. element_asks c r) (suffixed_of s) m)
  suffixes_rightly (of_function {ps = ps} s ds m) =
      of_node (of_both (suffixes_rightly s) (parameters_rightly ds)) (met_2 (λ r ys. function_asks r (given_parameters ps ys)) (suffixed_of s) (parameters_of ds) m)

  pub parameters_rightly : {c : Context} {n : ℕ} {ps : t.Parameters} {ds : List Declared} → AreParameters c n ps ds → Right (parameters_asked c n ps)
  parameters_rightly no_parameter = of_node of_none tt
  parameters_rightly {c = c} {n = n} (a_parameter {xs = xs} {m = m} {ps = ps} s d a more) =
      of_node (of_behind (of_first (of_node of_none s) (may_rightly d))
      (of_node (of_both (of_node of_none (met_1 {A = Declared} (λ y. parameter_asks (behind_specifiers c xs) n (parameter y)) (may_of d) a))
      (subst {A = Declared} (λ y. Right (parameters_asked (with_parameter n (parameter y) (behind_may m (behind_specifiers c xs))) (n + 1) ps)) (sym (may_of d)) (parameters_rightly more))) tt)) tt

  pub may_rightly : {c : Context} {q : Qualified} {m : t.MaybeDeclarator} {d : Declared} → MayDeclare c q m d → Right (may_asked c q m)
  may_rightly of_no_declarator = of_node of_none tt
  may_rightly (of_a_declarator d) = declarator_rightly d
