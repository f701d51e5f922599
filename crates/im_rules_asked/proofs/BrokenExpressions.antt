-- The first fault of what is asked of an expression, a type name or a declarator is one by the relations.
use Rattle.std.proofs.Common.{◌≡◌, ℕ, ◌+◌, Bool, true, false, refl, subst}
use Rattle.im_rules.specs.im_ctree.Tree as t
use Rattle.im_rules.specs.Context.{Context, in_new_scope, behind, behind_name, behind_core, behind_may, behind_parameters}
use Rattle.im_rules.specs.Demands.{call_asks, callee_of, is_function_meant}
use Rattle.im_rules.specs.Declared.{Qualified, behind_specifiers, type_of_specifiers, with_stars, with_parameter, parameter}
use Rattle.im_rules.specs.Breaks.{Node, an_expression, some_expressions, a_type_name, a_declarator, a_core, some_suffixes, some_parameters, maybe_declarator, Breaks, at_identifier, at_index, at_call, at_callee, at_member, at_arrow, at_post_step, at_pre_step, at_unary, at_size, at_type_size, at_cast, at_binary, at_conditional, at_assign, at_specifiers, at_type_name, at_stars, at_array, at_open_array, at_function, at_parameter, indexed, subscript, callee, arguments, whole, pointer_to_whole, post_stepped, pre_stepped, operand, measured_expression, measured_type, cast_type, cast_operand, left_operand, right_operand, condition, first_arm, second_arm, left_side, right_side, before_comma, behind_comma, first_argument, other_arguments, name_specifiers, name_declarator, suffixes_part, core_part, inner_part, behind_length, behind_no_length, length_part, behind_function, parameters_part, parameter_specifiers, parameter_declarator, parameters_behind, declarator_part, token_of, Broken, here, within}
use Rattle.im_rules_asked.specs.Expressions.{terms, suffixed, may_declare, asked, call_asked, all_asked, name_asked, declarator_asked, core_asked, suffixes_asked, parameters_asked, may_asked}
use Rattle.im_rules_asked.proofs.Right.{own}
use Rattle.im_rules_asked.proofs.Built.{built, built_all, built_name, built_may, built_suffixes, built_parameters}
use Rattle.im_rules_asked.proofs.Foremost.{Foremost, none_asked, none_sized, of_leaf, only_rule, of_one, of_two, of_three, of_then, of_both, of_first, of_row}

-- a node breaks the rule itself
at_token : {c : Context} {n : Node} {r k : ℕ} → token_of n ≡ k → Breaks c r n → Broken c n r k
at_token {c = c} {n = n} {r = r} p b = subst (λ z. Broken c n r z) p (here b)

broken_call : (c : Context) (at : ℕ) (f : t.Expression) (es : t.Expressions) {r k : ℕ}
    → (Foremost r k (asked c f) → Broken c (an_expression f) r k)
    → (Foremost r k (all_asked (behind f c) es) → Broken (behind f c) (some_expressions es) r k)
    → (m : Bool)
    → is_function_meant (callee_of c.scopes f) ≡ m
    → Foremost r k (call_asked m at (call_asks (callee_of c.scopes f) (terms (behind f c) es)) (asked c f) (all_asked (behind f c) es))
    → Broken c (an_expression (t.call at f es)) r k
broken_call c at f es g l true m h =
    of_one h (λ p es_right x. at_token p (at_call m (built_all (behind f c) es es_right) x)) (λ x. within arguments (l x))
broken_call c at f es g l false m h =
    of_two h (λ p f_right es_right x. at_token p (at_callee m (built c f f_right) (built_all (behind f c) es es_right) (only_rule x)))
    (λ x. within (callee m) (g x)) (λ p x. within arguments (l x))

mutual
  pub broken_expression : (c : Context) (e : t.Expression) {r k : ℕ} → Foremost r k (asked c e) → Broken c (an_expression e) r k
  broken_expression c (t.identifier at x) h = let l = of_leaf h in at_token l.0 (at_identifier l.1)
  broken_expression c (t.integer_constant at x) h = none_asked h
  broken_expression c (t.character_constant at x) h = none_asked h
  broken_expression c (t.string_literal at s) h = none_sized h
  broken_expression c (t.index at a b) h =
      of_two h (λ p x y q. at_token p (at_index (built c a x) (built (behind a c) b y) q))
      (λ x. within indexed (broken_expression c a x)) (λ p x. within subscript (broken_expression (behind a c) b x))
  broken_expression c (t.call at f es) h =
      broken_call c at f es (λ x. broken_expression c f x) (λ x. broken_expressions (behind f c) es x) (is_function_meant (callee_of c.scopes f)) refl h
  broken_expression c (t.member_of at e m) h =
      of_one h (λ p x q. at_token p (at_member (built c e x) q)) (λ x. within whole (broken_expression c e x))
  broken_expression c (t.arrow_to at e m) h =
      of_one h (λ p x q. at_token p (at_arrow (built c e x) q)) (λ x. within pointer_to_whole (broken_expression c e x))
  broken_expression c (t.post_step at op e) h =
      of_one h (λ p x q. at_token p (at_post_step (built c e x) q)) (λ x. within post_stepped (broken_expression c e x))
  broken_expression c (t.pre_step at op e) h =
      of_one h (λ p x q. at_token p (at_pre_step (built c e x) q)) (λ x. within pre_stepped (broken_expression c e x))
  broken_expression c (t.unary at op e) h =
      of_one h (λ p x q. at_token p (at_unary (built c e x) q)) (λ x. within operand (broken_expression c e x))
  broken_expression c (t.size_of_expression at e) h =
      of_one h (λ p x q. at_token p (at_size (built c e x) q)) (λ x. within measured_expression (broken_expression c e x))
  broken_expression c (t.size_of_type at m) h =
      of_one h (λ p x q. at_token p (at_type_size (built_name c m x) q)) (λ x. within measured_type (broken_name c m x))
  broken_expression c (t.cast at m e) h =
      of_two h (λ p x y q. at_token p (at_cast (built_name c m x) (built (behind_name m c) e y) q))
      (λ x. within cast_type (broken_name c m x)) (λ p x. within cast_operand (broken_expression (behind_name m c) e x))
  broken_expression c (t.binary at op a b) h =
      of_two h (λ p x y q. at_token p (at_binary (built c a x) (built (behind a c) b y) q))
      (λ x. within left_operand (broken_expression c a x)) (λ p x. within right_operand (broken_expression (behind a c) b x))
  broken_expression c (t.conditional at d a b) h =
      of_three h (λ p x y z q. at_token p (at_conditional (built c d x) (built (behind d c) a y) (built (behind a (behind d c)) b z) q))
      (λ x. within condition (broken_expression c d x)) (λ p x. within first_arm (broken_expression (behind d c) a x))
      (λ p q x. within second_arm (broken_expression (behind a (behind d c)) b x))
  broken_expression c (t.assign at op a b) h =
      of_two h (λ p x y q. at_token p (at_assign (built c a x) (built (behind a c) b y) q))
      (λ x. within left_side (broken_expression c a x)) (λ p x. within right_side (broken_expression (behind a c) b x))
  broken_expression c (t.comma at a b) h =
      of_both h (λ x. within before_comma (broken_expression c a x)) (λ p x. within behind_comma (broken_expression (behind a c) b x))

  pub broken_expressions : (c : Context) (es : t.Expressions) {r k : ℕ} → Foremost r k (all_asked c es) → Broken c (some_expressions es) r k
  broken_expressions c t.no_expressions h = none_asked h
  broken_expressions c (t.more_expressions e es) h =
      of_both h (λ x. within first_argument (broken_expression c e x)) (λ p x. within other_arguments (broken_expressions (behind e c) es x))

  pub broken_name : (c : Context) (m : t.TypeName) {r k : ℕ} → Foremost r k (name_asked c m) → Broken c (a_type_name m) r k
  broken_name c (t.type_name (t.specifiers at xs) m) h =
      of_then h (λ p x y q. at_token p (at_type_name (own x) (built_may c (type_of_specifiers c xs) m y) q))
      (λ x. let l = of_leaf x in within name_specifiers (at_token l.0 (at_specifiers l.1)))
      (λ p x. within (name_declarator (own p)) (broken_may c (type_of_specifiers c xs) m x))

  pub broken_declarator : (c : Context) (q : Qualified) (e : t.Declarator) {r k : ℕ} → Foremost r k (declarator_asked c q e) → Broken c (a_declarator q e) r k
  broken_declarator c q (t.declarator at stars core ss) h =
      of_both h (λ x. let l = of_leaf x in at_token l.0 (at_stars l.1)) (λ s y. of_first y
      (λ x. within suffixes_part (broken_suffixes (behind_core core c) (with_stars q stars) ss x))
      (λ p x. within (core_part (built_suffixes (behind_core core c) (with_stars q stars) ss p))
      (broken_core c (suffixed (behind_core core c) (with_stars q stars) ss) core x)))

  pub broken_core : (c : Context) (q : Qualified) (l : t.Core) {r k : ℕ} → Foremost r k (core_asked c q l) → Broken c (a_core q l) r k
  broken_core c q t.absent_core h = none_asked h
  broken_core c q (t.name_core x) h = none_asked h
  broken_core c q (t.inner_core e) h = within inner_part (broken_declarator c q e h)

  pub broken_suffixes : (c : Context) (q : Qualified) (ss : t.Suffixes) {r k : ℕ} → Foremost r k (suffixes_asked c q ss) → Broken c (some_suffixes q ss) r k
  broken_suffixes c q t.no_suffixes h = none_asked h
  broken_suffixes c q (t.array_suffix at (t.an_expression e) ss) h =
      of_first h (λ y. of_two y (λ p s x d. at_token p (at_array (built_suffixes (behind e c) q ss s) (built c e x) d))
      (λ x. within behind_length (broken_suffixes (behind e c) q ss x))
      (λ p x. within length_part (broken_expression c e x))) (λ p x. none_sized x)
  broken_suffixes c q (t.array_suffix at t.no_expression ss) h =
      of_one h (λ p s d. at_token p (at_open_array (built_suffixes c q ss s) d)) (λ x. within behind_no_length (broken_suffixes c q ss x))
  broken_suffixes c q (t.function_suffix at ps ss) h =
      of_two h (λ p s x d. at_token p (at_function (built_suffixes (behind_parameters ps c) q ss s) (built_parameters (in_new_scope c) 0 ps x) d))
      (λ x. within behind_function (broken_suffixes (behind_parameters ps c) q ss x))
      (λ p x. within parameters_part (broken_parameters (in_new_scope c) 0 ps x))

  pub broken_parameters : (c : Context) (m : ℕ) (ps : t.Parameters) {r k : ℕ} → Foremost r k (parameters_asked c m ps) → Broken c (some_parameters m ps) r k
  broken_parameters c m t.no_parameters h = none_asked h
  broken_parameters c m (t.more_parameters (t.specifiers at xs) d ps) h =
      of_row h (λ x. let l = of_leaf x in within parameter_specifiers (at_token l.0 (at_specifiers l.1)))
      (λ s x. within (parameter_declarator (own s)) (broken_may (behind_specifiers c xs) (type_of_specifiers c xs) d x))
      (λ s e y. of_both y
      (λ x. let l = of_leaf x in at_token l.0 (at_parameter (own s) (built_may (behind_specifiers c xs) (type_of_specifiers c xs) d e) l.1))
      (λ p x. within (parameters_behind (own s) (built_may (behind_specifiers c xs) (type_of_specifiers c xs) d e))
      (broken_parameters (with_parameter m (parameter (may_declare (behind_specifiers c xs) (type_of_specifiers c xs) d)) (behind_may d (behind_specifiers c xs))) (m + 1) ps x)))

  pub broken_may : (c : Context) (q : Qualified) (m : t.MaybeDeclarator) {r k : ℕ} → Foremost r k (may_asked c q m) → Broken c (maybe_declarator q m) r k
  broken_may c q t.no_declarator h = none_asked h
  broken_may c q (t.a_declarator e) h = within declarator_part (broken_declarator c q e h)
