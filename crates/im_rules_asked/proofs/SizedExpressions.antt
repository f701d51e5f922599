-- A size that is found in what is asked of an expression, a type name, a declarator or an initialiser is counted by the relations.
use Rattle.std.proofs.Common.{◌≡◌, ℕ, ◌+◌, List, [], ◌∷◌, Bool, true, false, refl, sym, subst, length}
use Rattle.std.specs.List.{Contains}
use Rattle.im_rules.specs.im_ctree.Tree as t
use Rattle.im_rules.specs.im_ctype.declared.member.MemberPlace.{MemberPlace}
use Rattle.im_rules.specs.im_ctype.Types.{CType, Member, members_of}
use Rattle.im_rules.specs.im_ctype.Members.{places}
use Rattle.im_rules.specs.Context.{Context, in_new_scope, behind, behind_name, behind_core, behind_may, behind_parameters, behind_strings}
use Rattle.im_rules.specs.Terms.{size_in, constant_in}
use Rattle.im_rules.specs.Demands.{call_asks, callee_of, is_function_meant}
use Rattle.im_rules.specs.Declared.{Qualified, behind_specifiers, type_of_specifiers, with_stars, with_parameter, parameter, array_of, length_asks}
use Rattle.im_rules.specs.Breaks.{an_expression, some_expressions, a_type_name, a_declarator, a_core, some_suffixes, some_parameters, maybe_declarator, indexed, subscript, callee, arguments, whole, pointer_to_whole, post_stepped, pre_stepped, operand, measured_expression, measured_type, cast_type, cast_operand, left_operand, right_operand, condition, first_arm, second_arm, left_side, right_side, before_comma, behind_comma, first_argument, other_arguments, name_declarator, suffixes_part, core_part, inner_part, behind_length, behind_no_length, length_part, behind_function, parameters_part, parameter_declarator, parameters_behind, declarator_part}
use Rattle.im_rules.specs.Initialisers.{Shape, one, bytes, elements, members, misshapen, shape, strings_given}
use Rattle.im_rules.specs.BodyBreaks.{an_initialiser, some_elements, some_members}
use Rattle.im_rules_limits.specs.Limits.{of_array, of_string, Sized, size_here, size_within, GivenSized, size_in_value, size_in_elements, size_in_members, size_in_first_element, size_in_other_elements, size_in_first_member, size_in_other_members}
use Rattle.im_rules_asked.specs.Asked.{node, both}
use Rattle.im_rules_asked.specs.Expressions.{term, terms, suffixed, may_declare, asked, call_asked, all_asked, name_asked, declarator_asked, core_asked, suffixes_asked, parameters_asked, may_asked}
use Rattle.im_rules_asked.specs.Initialisers.{side_by_side, in_order, places_in, misplaced, shaped_asked, items_asked, among_asked}
use Rattle.im_rules_asked.specs.Sizes.{is_within, where_within}
use Rattle.im_rules_asked.proofs.Right.{Right, own}
use Rattle.im_rules_asked.proofs.Built.{first_part, second_part, built, built_may, built_suffixes}
use Rattle.im_rules_asked.proofs.BuiltBodies.{list_of, shape_list}
use Rattle.im_rules_asked.proofs.Faults.{a_size, Found}
use Rattle.im_rules_asked.proofs.Counting.{most_of, only_one, of_counted}
use Rattle.im_rules_asked.proofs.Finding.{nowhere, of_these, found_one, found_both, found_three, found_then, found_then_then}
use Rattle.im_rules_limits.specs.Limits.{size_limit}

sized_string : (c : Context) (at : ℕ) (s : List ℕ) {n : ℕ} → Contains ((length s + 1) ∷ []) n
    → Sized c (an_expression (t.string_literal at s)) n
sized_string c at s {n = n} k =
    subst (λ z. Sized c (an_expression (t.string_literal at s)) z) (only_one (length s + 1) n k)
    (size_here of_string)

sized_call : (c : Context) (at : ℕ) (f : t.Expression) (es : t.Expressions) {n : ℕ}
    → (Found (a_size n) (asked c f) → Sized c (an_expression f) n)
    → (Found (a_size n) (all_asked (behind f c) es) → Sized (behind f c) (some_expressions es) n)
    → (m : Bool)
    → is_function_meant (callee_of c.scopes f) ≡ m
    → Found (a_size n) (call_asked m at (call_asks (callee_of c.scopes f) (terms (behind f c) es)) (asked c f) (all_asked (behind f c) es))
    → Sized c (an_expression (t.call at f es)) n
sized_call c at f es g k true p h = size_within arguments (k (found_one h))
sized_call c at f es g k false p h =
    found_both h (λ x. size_within (callee p) (g x)) (λ x. size_within arguments (k x))

sized_array : (c : Context) (at : ℕ) (q : Qualified) (e : t.Expression) (ss : t.Suffixes) {n : ℕ}
    → Right (node at (length_asks c (suffixed (behind e c) q ss) (constant_in (term c e))) (both (suffixes_asked (behind e c) q ss) (asked c e)))
    → Contains (where_within (is_within (size_in c.known (suffixed (behind e c) q ss).type))
    (size_in c.known (array_of (suffixed (behind e c) q ss) (constant_in (term c e))).type)) n
    → Sized c (some_suffixes q (t.array_suffix at (t.an_expression e) ss)) n
sized_array c at q e ss {n = n} h k =
    let w = of_counted (is_within (size_in c.known (suffixed (behind e c) q ss).type))
    (size_in c.known (array_of (suffixed (behind e c) q ss) (constant_in (term c e))).type) n k in
    subst (λ z. Sized c (some_suffixes q (t.array_suffix at (t.an_expression e) ss)) z) w.1
    (size_here (of_array (built_suffixes (behind e c) q ss (first_part h)) (built c e (second_part h)) (own h)
    (most_of (size_in c.known (suffixed (behind e c) q ss).type) size_limit w.0)))

mutual
  pub sized_expression : (c : Context) (e : t.Expression) {n : ℕ} → Found (a_size n) (asked c e) → Sized c (an_expression e) n
  sized_expression c (t.identifier at x) h = nowhere h
  sized_expression c (t.integer_constant at x) h = nowhere h
  sized_expression c (t.character_constant at x) h = nowhere h
  sized_expression c (t.string_literal at s) h = sized_string c at s (of_these h)
  sized_expression c (t.index at a b) h =
      found_both h (λ x. size_within indexed (sized_expression c a x)) (λ x. size_within subscript (sized_expression (behind a c) b x))
  sized_expression c (t.call at f es) h =
      sized_call c at f es (λ x. sized_expression c f x) (λ x. sized_expressions (behind f c) es x) (is_function_meant (callee_of c.scopes f)) refl h
  sized_expression c (t.member_of at e m) h = size_within whole (sized_expression c e (found_one h))
  sized_expression c (t.arrow_to at e m) h = size_within pointer_to_whole (sized_expression c e (found_one h))
  sized_expression c (t.post_step at op e) h = size_within post_stepped (sized_expression c e (found_one h))
  sized_expression c (t.pre_step at op e) h = size_within pre_stepped (sized_expression c e (found_one h))
  sized_expression c (t.unary at op e) h = size_within operand (sized_expression c e (found_one h))
  sized_expression c (t.size_of_expression at e) h = size_within measured_expression (sized_expression c e (found_one h))
  sized_expression c (t.size_of_type at m) h = size_within measured_type (sized_name c m (found_one h))
  sized_expression c (t.cast at m e) h =
      found_both h (λ x. size_within cast_type (sized_name c m x)) (λ x. size_within cast_operand (sized_expression (behind_name m c) e x))
  sized_expression c (t.binary at op a b) h =
      found_both h (λ x. size_within left_operand (sized_expression c a x)) (λ x. size_within right_operand (sized_expression (behind a c) b x))
  sized_expression c (t.conditional at d a b) h =
      found_three h (λ x. size_within condition (sized_expression c d x)) (λ x. size_within first_arm (sized_expression (behind d c) a x))
      (λ x. size_within second_arm (sized_expression (behind a (behind d c)) b x))
  sized_expression c (t.assign at op a b) h =
      found_both h (λ x. size_within left_side (sized_expression c a x)) (λ x. size_within right_side (sized_expression (behind a c) b x))
  sized_expression c (t.comma at a b) h =
      found_both h (λ x. size_within before_comma (sized_expression c a x)) (λ x. size_within behind_comma (sized_expression (behind a c) b x))

  pub sized_expressions : (c : Context) (es : t.Expressions) {n : ℕ} → Found (a_size n) (all_asked c es) → Sized c (some_expressions es) n
  sized_expressions c t.no_expressions h = nowhere h
  sized_expressions c (t.more_expressions e es) h =
      found_both h (λ x. size_within first_argument (sized_expression c e x)) (λ x. size_within other_arguments (sized_expressions (behind e c) es x))

  pub sized_name : (c : Context) (m : t.TypeName) {n : ℕ} → Found (a_size n) (name_asked c m) → Sized c (a_type_name m) n
  sized_name c (t.type_name (t.specifiers at xs) m) h =
      found_then h (λ x. nowhere x) (λ p x. size_within (name_declarator (own p)) (sized_may c (type_of_specifiers c xs) m x))

  pub sized_declarator : (c : Context) (q : Qualified) (e : t.Declarator) {n : ℕ} → Found (a_size n) (declarator_asked c q e) → Sized c (a_declarator q e) n
  sized_declarator c q (t.declarator at stars core ss) h =
      found_both h (λ x. nowhere x) (λ y. found_then y
      (λ x. size_within suffixes_part (sized_suffixes (behind_core core c) (with_stars q stars) ss x))
      (λ p x. size_within (core_part (built_suffixes (behind_core core c) (with_stars q stars) ss p))
      (sized_core c (suffixed (behind_core core c) (with_stars q stars) ss) core x)))

  pub sized_core : (c : Context) (q : Qualified) (k : t.Core) {n : ℕ} → Found (a_size n) (core_asked c q k) → Sized c (a_core q k) n
  sized_core c q t.absent_core h = nowhere h
  sized_core c q (t.name_core x) h = nowhere h
  sized_core c q (t.inner_core e) h = size_within inner_part (sized_declarator c q e h)

  pub sized_suffixes : (c : Context) (q : Qualified) (ss : t.Suffixes) {n : ℕ} → Found (a_size n) (suffixes_asked c q ss) → Sized c (some_suffixes q ss) n
  sized_suffixes c q t.no_suffixes h = nowhere h
  sized_suffixes c q (t.array_suffix at (t.an_expression e) ss) h =
      found_then h (λ y. found_both y (λ x. size_within behind_length (sized_suffixes (behind e c) q ss x))
      (λ x. size_within length_part (sized_expression c e x))) (λ p x. sized_array c at q e ss p (of_these x))
  sized_suffixes c q (t.array_suffix at t.no_expression ss) h = size_within behind_no_length (sized_suffixes c q ss (found_one h))
  sized_suffixes c q (t.function_suffix at ps ss) h =
      found_both h (λ x. size_within behind_function (sized_suffixes (behind_parameters ps c) q ss x))
      (λ x. size_within parameters_part (sized_parameters (in_new_scope c) 0 ps x))

  pub sized_parameters : (c : Context) (m : ℕ) (ps : t.Parameters) {n : ℕ} → Found (a_size n) (parameters_asked c m ps) → Sized c (some_parameters m ps) n
  sized_parameters c m t.no_parameters h = nowhere h
  sized_parameters c m (t.more_parameters (t.specifiers at xs) d ps) h =
      found_then_then h (λ x. nowhere x)
      (λ s x. size_within (parameter_declarator (own s)) (sized_may (behind_specifiers c xs) (type_of_specifiers c xs) d x))
      (λ s r y. found_both y (λ x. nowhere x) (λ x. size_within
      (parameters_behind (own s) (built_may (behind_specifiers c xs) (type_of_specifiers c xs) d r))
      (sized_parameters (with_parameter m (parameter (may_declare (behind_specifiers c xs) (type_of_specifiers c xs) d)) (behind_may d (behind_specifiers c xs))) (m + 1) ps x)))

  pub sized_may : (c : Context) (q : Qualified) (m : t.MaybeDeclarator) {n : ℕ} → Found (a_size n) (may_asked c q m) → Sized c (maybe_declarator q m) n
  sized_may c q t.no_declarator h = nowhere h
  sized_may c q (t.a_declarator e) h = size_within declarator_part (sized_declarator c q e h)

-- initialisers

sized_value : (c : Context) (a : CType) (at token other : ℕ) (i : t.Initializer) {n : ℕ} (s : Shape)
    → shape a i ≡ s → Found (a_size n) (shaped_asked c a token s (misplaced other))
    → GivenSized c (an_initialiser a at i) n
sized_value c a at token other i (one e) p h = size_in_value p (sized_expression c e (found_one h))
sized_value c a at token other i (bytes e s) p h = nowhere h
sized_value c a at token other i (elements e is) p h = nowhere h
sized_value c a at token other i (members m is) p h = nowhere h
sized_value c a at token other i misshapen p h = nowhere h

sized_braces : (c : Context) (a : CType) (at token : ℕ) (is : t.Initializers) {n : ℕ} (s : Shape)
    → shape a (t.braced_initializer token is) ≡ s
    → list_of s is ≡ is
    → ((e : CType) → Found (a_size n) (among_asked c (side_by_side e) is) → GivenSized c (some_elements e at is) n)
    → ((m : ℕ) → Found (a_size n) (among_asked c (in_order (members_of c.known m) (places c.known m)) is)
    → GivenSized c (some_members (members_of c.known m) (places c.known m) at is) n)
    → Found (a_size n) (shaped_asked c a token s (among_asked c (places_in c.known s) is))
    → GivenSized c (an_initialiser a at (t.braced_initializer token is)) n
sized_braces c a at token is (one e) p q f g h = size_in_value p (sized_expression c e (found_one h))
sized_braces c a at token is (bytes e s) p q f g h = nowhere h
sized_braces c a at token is {n = n} (elements e js) p q f g h =
    size_in_elements p (subst (λ z. GivenSized c (some_elements e at z) n) (sym q) (f e h))
sized_braces c a at token is {n = n} (members m js) p q f g h =
    size_in_members p (subst (λ z. GivenSized c (some_members (members_of c.known m) (places c.known m) at z) n) (sym q) (g m h))
sized_braces c a at token is misshapen p q f g h = nowhere h

mutual
  pub sized_given : (c : Context) (a : CType) (at : ℕ) (i : t.Initializer) {n : ℕ} → Found (a_size n) (items_asked c a i)
      → GivenSized c (an_initialiser a at i) n
  sized_given c a at (t.value_initializer e) h =
      found_both h (λ x. nowhere x) (λ x. sized_value c a at _ _ (t.value_initializer e) (shape a (t.value_initializer e)) refl x)
  sized_given c a at (t.braced_initializer k is) h =
      found_both h (λ x. nowhere x) (λ x. sized_braces c a at k is (shape a (t.braced_initializer k is)) refl (shape_list a k is)
      (λ e y. sized_elements c e at is y) (λ m y. sized_members c (members_of c.known m) (places c.known m) at is y) x)

  pub sized_elements : (c : Context) (e : CType) (at : ℕ) (is : t.Initializers) {n : ℕ}
      → Found (a_size n) (among_asked c (side_by_side e) is) → GivenSized c (some_elements e at is) n
  sized_elements c e at t.no_initializers h = nowhere h
  sized_elements c e at (t.more_initializers i is) h =
      found_both h (λ x. size_in_first_element (sized_given c e at i x))
      (λ x. size_in_other_elements (sized_elements (behind_strings (strings_given c.known e i) c) e (at + size_in c.known e) is x))

  pub sized_members : (c : Context) (ms : List Member) (os : List MemberPlace) (at : ℕ) (is : t.Initializers) {n : ℕ}
      → Found (a_size n) (among_asked c (in_order ms os) is) → GivenSized c (some_members ms os at is) n
  sized_members c ms os at t.no_initializers h = nowhere h
  sized_members c (m ∷ ms) (o ∷ os) at (t.more_initializers i is) h =
      found_both h (λ x. size_in_first_member (sized_given c m.type (at + o.offset) i x))
      (λ x. size_in_other_members (sized_members (behind_strings (strings_given c.known m.type i) c) ms os at is x))
  sized_members c [] os at (t.more_initializers i is) h = nowhere h
  sized_members c (m ∷ ms) [] at (t.more_initializers i is) h = nowhere h
