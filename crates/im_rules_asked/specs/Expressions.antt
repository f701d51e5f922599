-- What expressions, type names and declarators are, and what the rules ask of them (C11 6.5, 6.7.6, 6.7.7). A term is given
-- to every tree; what one becomes that breaks a rule doesn't matter.
use Rattle.std.specs.Prelude.{ℕ, ◌+◌, pos, Bool, true, false, List, [], ◌∷◌, length}
use Rattle.im_rules.specs.im_ctree.Tree as t
use Rattle.im_rules.specs.im_ctype.declared.integer.Integer.TheVariants.{Int}
use Rattle.im_rules.specs.Scopes.{meaning}
use Rattle.im_rules.specs.Context.{Context, in_new_scope, behind, behind_name, behind_core, behind_may, behind_parameters}
use Rattle.im_rules.specs.Terms.{Term, value, value_of, type_in, constant_in, size_in}
use Rattle.im_rules.specs.Conversions.{literal, number_type, measured, called, string_term, operation, sum, pointed, unary_term, dotted, arrowed, assigned, stepped, casted, chosen, joined, call_of}
use Rattle.im_rules.specs.Demands.{Demand, asks, name_asks, index_asks, call_asks, dot_asks, arrow_asks, step_asks, unary_asks, size_asks, cast_asks, binary_asks, conditional_asks, assign_asks, callee_of, is_function_meant}
use Rattle.im_rules.specs.Declared.{Qualified, Declared, specifiers_ask, behind_specifiers, type_of_specifiers, with_stars, stars_ask, array_of, open_array_of, element_asks, length_asks, parameter, with_parameter, parameter_asks, parameters_of, function_of, function_asks, is_sized, unnamed, called as named_with}
use Rattle.im_rules.specs.Breaks.{parameter_token}
use Rattle.im_rules_asked.specs.Asked.{Asked, node, sized, beside, behind as then_, one, both, first_then, only, leaf, nothing_asked}
use Rattle.im_rules_asked.specs.Sizes.{is_within, where_within}

abbrev pub qualified : Declared → Qualified
qualified d = record { constant = d.constant; type = d.type }

abbrev mutual
  pub term : Context → t.Expression → Term
  term c (t.identifier at x) = called (meaning c.scopes x)
  term c (t.integer_constant at n) = value (literal (number_type n.number_type) (pos n.value))
  term c (t.character_constant at n) = value (literal Int (pos n))
  term c (t.string_literal at s) = string_term c.next_string s
  term c (t.index at a b) = pointed (sum c.known (value_of c.known (term c a)) (value_of c.known (term (behind a c) b)))
  term c (t.call at f es) = value (call_of c.known (callee_of c.scopes f) (terms (behind f c) es))
  term c (t.member_of at e m) = dotted c.known (term c e) m
  term c (t.arrow_to at e m) = arrowed c.known (value_of c.known (term c e)) m
  term c (t.post_step at op e) = value (stepped c.known op true (term c e))
  term c (t.pre_step at op e) = value (stepped c.known op false (term c e))
  term c (t.unary at op e) = unary_term c.known op (term c e)
  term c (t.size_of_expression at e) = value (measured c.known (type_in (term c e)))
  term c (t.size_of_type at n) = value (measured c.known (named c n).type)
  term c (t.cast at n e) = value (casted (named c n).type (value_of c.known (term (behind_name n c) e)))
  term c (t.binary at op a b) = value (operation c.known op (value_of c.known (term c a)) (value_of c.known (term (behind a c) b)))
  term c (t.conditional at d a b) =
      value (chosen c.known (value_of c.known (term c d)) (value_of c.known (term (behind d c) a)) (value_of c.known (term (behind a (behind d c)) b)))
  term c (t.assign at op a b) = value (assigned c.known op (term c a) (value_of c.known (term (behind a c) b)))
  term c (t.comma at a b) = value (joined (value_of c.known (term c a)) (value_of c.known (term (behind a c) b)))

  pub terms : Context → t.Expressions → List Term
  terms c t.no_expressions = []
  terms c (t.more_expressions e es) = term c e ∷ terms (behind e c) es

  pub named : Context → t.TypeName → Qualified
  named c (t.type_name (t.specifiers at xs) m) = qualified (may_declare c (type_of_specifiers c xs) m)

  pub declared : Context → Qualified → t.Declarator → Declared
  declared c q (t.declarator at stars core ss) = declared_in c (suffixed (behind_core core c) (with_stars q stars) ss) core

  pub declared_in : Context → Qualified → t.Core → Declared
  declared_in c q t.absent_core = unnamed q
  declared_in c q (t.name_core x) = named_with x q
  declared_in c q (t.inner_core e) = declared c q e

  pub suffixed : Context → Qualified → t.Suffixes → Qualified
  suffixed c q t.no_suffixes = q
  suffixed c q (t.array_suffix at (t.an_expression e) ss) = array_of (suffixed (behind e c) q ss) (constant_in (term c e))
  suffixed c q (t.array_suffix at t.no_expression ss) = open_array_of (suffixed c q ss)
  suffixed c q (t.function_suffix at ps ss) = function_of (suffixed (behind_parameters ps c) q ss) (parameters_of ps (parameters (in_new_scope c) 0 ps))

  pub parameters : Context → ℕ → t.Parameters → List Declared
  parameters c n t.no_parameters = []
  parameters c n (t.more_parameters (t.specifiers at xs) m ps) =
      parameter (may_declare (behind_specifiers c xs) (type_of_specifiers c xs) m)
      ∷ parameters (with_parameter n (parameter (may_declare (behind_specifiers c xs) (type_of_specifiers c xs) m)) (behind_may m (behind_specifiers c xs))) (n + 1) ps

  pub may_declare : Context → Qualified → t.MaybeDeclarator → Declared
  may_declare c q t.no_declarator = unnamed q
  may_declare c q (t.a_declarator e) = declared c q e

-- a function's name that is called is no part; what else is called breaks the rule on callees
abbrev pub call_asked : Bool → ℕ → List Demand → Asked → Asked → Asked
call_asked true at ds f es = node at ds (one es)
call_asked false at ds f es = node at (asks 19 false ∷ []) (both f es)

abbrev mutual
  pub asked : Context → t.Expression → Asked
  asked c (t.identifier at x) = leaf at (name_asks c x)
  asked c (t.integer_constant at n) = leaf at []
  asked c (t.character_constant at n) = leaf at []
  asked c (t.string_literal at s) = sized ((length s + 1) ∷ [])
  asked c (t.index at a b) = node at (index_asks c.known (term c a) (term (behind a c) b)) (both (asked c a) (asked (behind a c) b))
  asked c (t.call at f es) =
      call_asked (is_function_meant (callee_of c.scopes f)) at (call_asks (callee_of c.scopes f) (terms (behind f c) es)) (asked c f) (all_asked (behind f c) es)
  asked c (t.member_of at e m) = node at (dot_asks c.known (term c e) m) (one (asked c e))
  asked c (t.arrow_to at e m) = node at (arrow_asks c.known (term c e) m) (one (asked c e))
  asked c (t.post_step at op e) = node at (step_asks c.known (term c e)) (one (asked c e))
  asked c (t.pre_step at op e) = node at (step_asks c.known (term c e)) (one (asked c e))
  asked c (t.unary at op e) = node at (unary_asks c.known op (term c e)) (one (asked c e))
  asked c (t.size_of_expression at e) = node at (size_asks c.known (type_in (term c e))) (one (asked c e))
  asked c (t.size_of_type at n) = node at (size_asks c.known (named c n).type) (one (name_asked c n))
  asked c (t.cast at n e) = node at (cast_asks (named c n).type (term (behind_name n c) e)) (both (name_asked c n) (asked (behind_name n c) e))
  asked c (t.binary at op a b) = node at (binary_asks c.known op (term c a) (term (behind a c) b)) (both (asked c a) (asked (behind a c) b))
  asked c (t.conditional at d a b) =
      node at (conditional_asks (term c d) (term (behind d c) a) (term (behind a (behind d c)) b)) (beside (both (asked c d) (asked (behind d c) a)) (asked (behind a (behind d c)) b))
  asked c (t.assign at op a b) = node at (assign_asks c.known op (term c a) (term (behind a c) b)) (both (asked c a) (asked (behind a c) b))
  asked c (t.comma at a b) = node at [] (both (asked c a) (asked (behind a c) b))

  pub all_asked : Context → t.Expressions → Asked
  all_asked c t.no_expressions = nothing_asked
  all_asked c (t.more_expressions e es) = only (both (asked c e) (all_asked (behind e c) es))

  -- a declarator is a part once its specifiers are right
  pub name_asked : Context → t.TypeName → Asked
  name_asked c (t.type_name (t.specifiers at xs) m) =
      node at (asks 6 (is_sized (may_declare c (type_of_specifiers c xs) m).type) ∷ [])
      (first_then (leaf at (specifiers_ask c xs)) (may_asked c (type_of_specifiers c xs) m))

  -- what stands in the middle is a part once the type of what stands round it is there
  pub declarator_asked : Context → Qualified → t.Declarator → Asked
  declarator_asked c q (t.declarator at stars core ss) =
      only (both (leaf at (stars_ask q stars))
      (only (first_then (suffixes_asked (behind_core core c) (with_stars q stars) ss) (core_asked c (suffixed (behind_core core c) (with_stars q stars) ss) core))))

  pub core_asked : Context → Qualified → t.Core → Asked
  core_asked c q t.absent_core = nothing_asked
  core_asked c q (t.name_core x) = nothing_asked
  core_asked c q (t.inner_core e) = declarator_asked c q e

  pub suffixes_asked : Context → Qualified → t.Suffixes → Asked
  suffixes_asked c q t.no_suffixes = nothing_asked
  suffixes_asked c q (t.array_suffix at (t.an_expression e) ss) =
      only (first_then (node at (length_asks c (suffixed (behind e c) q ss) (constant_in (term c e))) (both (suffixes_asked (behind e c) q ss) (asked c e)))
      (sized (where_within (is_within (size_in c.known (suffixed (behind e c) q ss).type))
      (size_in c.known (array_of (suffixed (behind e c) q ss) (constant_in (term c e))).type))))
  suffixes_asked c q (t.array_suffix at t.no_expression ss) = node at (element_asks c (suffixed c q ss)) (one (suffixes_asked c q ss))
  suffixes_asked c q (t.function_suffix at ps ss) =
      node at (function_asks (suffixed (behind_parameters ps c) q ss) (parameters_of ps (parameters (in_new_scope c) 0 ps)))
      (both (suffixes_asked (behind_parameters ps c) q ss) (parameters_asked (in_new_scope c) 0 ps))

  pub parameters_asked : Context → ℕ → t.Parameters → Asked
  parameters_asked c n t.no_parameters = nothing_asked
  parameters_asked c n (t.more_parameters (t.specifiers at xs) m ps) =
      only (then_ (first_then (leaf at (specifiers_ask c xs)) (may_asked (behind_specifiers c xs) (type_of_specifiers c xs) m))
      (only (both (leaf (parameter_token at m) (parameter_asks (behind_specifiers c xs) n (parameter (may_declare (behind_specifiers c xs) (type_of_specifiers c xs) m))))
      (parameters_asked (with_parameter n (parameter (may_declare (behind_specifiers c xs) (type_of_specifiers c xs) m)) (behind_may m (behind_specifiers c xs))) (n + 1) ps))))

  pub may_asked : Context → Qualified → t.MaybeDeclarator → Asked
  may_asked c q t.no_declarator = nothing_asked
  may_asked c q (t.a_declarator e) = declarator_asked c q e
