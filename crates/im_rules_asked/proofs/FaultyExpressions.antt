-- A node of an expression, a type name or a declarator that the relations call broken has a fault.
use Rattle.std.proofs.Common.{◌≡◌, inl, ℕ, ◌+◌, List, [], ◌∷◌, refl, sym, subst, Bool, true, false}
use Rattle.im_rules.specs.im_ctree.Tree as t
use Rattle.im_rules.specs.Context.{Context, behind, behind_may}
use Rattle.im_rules.specs.Terms.{type_in, constant_in}
use Rattle.im_rules.specs.Demands.{Demand, asks, Refuses, index_asks, call_asks, dot_asks, arrow_asks, step_asks, unary_asks, size_asks, cast_asks, binary_asks, conditional_asks, assign_asks, callee_of, is_function_meant}
use Rattle.im_rules.specs.Declared.{Qualified, Declared, specifiers_ask, behind_specifiers, element_asks, length_asks, parameter, with_parameter, parameter_asks, function_asks, is_sized, parameters_of as given_parameters}
use Rattle.im_rules.specs.Breaks.{Node, an_expression, some_expressions, some_specifiers, a_type_name, a_declarator, a_core, some_suffixes, some_parameters, maybe_declarator, Breaks, at_identifier, at_index, at_call, at_callee, at_member, at_arrow, at_post_step, at_pre_step, at_unary, at_size, at_type_size, at_cast, at_binary, at_conditional, at_assign, at_specifiers, at_type_name, at_stars, at_array, at_open_array, at_function, at_parameter, Part, indexed, subscript, callee, arguments, whole, pointer_to_whole, post_stepped, pre_stepped, operand, measured_expression, measured_type, cast_type, cast_operand, left_operand, right_operand, condition, first_arm, second_arm, left_side, right_side, before_comma, behind_comma, first_argument, other_arguments, name_specifiers, name_declarator, suffixes_part, core_part, inner_part, behind_length, behind_no_length, length_part, behind_function, parameters_part, parameter_specifiers, parameter_declarator, parameters_behind, declarator_part, token_of, Broken, here, within}
use Rattle.im_rules_asked.specs.Asked.{Asked, leaf}
use Rattle.im_rules_asked.specs.Expressions.{terms, asked, call_asked, all_asked, name_asked, declarator_asked, core_asked, suffixes_asked, parameters_asked, may_asked}
use Rattle.im_rules_asked.proofs.Right.{Right, of_node, of_none, of_one, of_both, of_first, of_beside}
use Rattle.im_rules_asked.proofs.Terms.{term_of, terms_of, named_of, suffixed_of, parameters_of, may_of}
use Rattle.im_rules_asked.proofs.Rightness.{rightly, all_rightly, name_rightly, suffixes_rightly, parameters_rightly, may_rightly}
use Rattle.im_rules_asked.proofs.Faults.{Finding, a_fault, Found, here_faulty, in_parts, last_beside, rest_behind, last_behind, in_one, in_first, in_second, in_first_of_three, in_second_of_three, in_earlier, in_later, refused_1, refused_2, refused_3}

-- what is asked of a node
abbrev pub node_asked : Context → Node → Asked
node_asked c (an_expression e) = asked c e
node_asked c (some_expressions es) = all_asked c es
node_asked c (some_specifiers (t.specifiers at xs)) = leaf at (specifiers_ask c xs)
node_asked c (a_type_name n) = name_asked c n
node_asked c (a_declarator q e) = declarator_asked c q e
node_asked c (a_core q k) = core_asked c q k
node_asked c (some_suffixes q ss) = suffixes_asked c q ss
node_asked c (some_parameters n ps) = parameters_asked c n ps
node_asked c (maybe_declarator q m) = may_asked c q m

-- calls

call_faulty : (r at : ℕ) (ds : List Demand) (f es : Asked) (m : Bool) → m ≡ true → Right es
    → Refuses r ds → Found (a_fault r at) (call_asked m at ds f es)
call_faulty r at ds f es true p h q = here_faulty (of_one h) q
call_faulty r at ds f es false p h q = absurd (cc)

callee_faulty : (r at : ℕ) (ds : List Demand) (f es : Asked) (m : Bool) → m ≡ false → Right f
    → Right es → r ≡ 19 → Found (a_fault r at) (call_asked m at ds f es)
callee_faulty r at ds f es true p g h e = absurd (cc)
callee_faulty r at ds f es false p g h e = here_faulty (of_both g h) (inl (sym e, refl))

in_callee : {w : Finding} (at : ℕ) (ds : List Demand) (f es : Asked) (m : Bool) → m ≡ false
    → Found w f → Found w (call_asked m at ds f es)
in_callee at ds f es true p h = absurd (cc)
in_callee at ds f es false p h = in_first h

in_arguments : {w : Finding} (at : ℕ) (ds : List Demand) (f es : Asked) (m : Bool) → Found w es
    → Found w (call_asked m at ds f es)
in_arguments at ds f es true h = in_one h
in_arguments at ds f es false h = in_second h

-- the rule refuses the node itself
node_faulty : {c : Context} {r : ℕ} {n : Node} → Breaks c r n
    → Found (a_fault r (token_of n)) (node_asked c n)
node_faulty {r = r} (at_identifier q) = here_faulty of_none q
node_faulty {c = c} {r = r} (at_index a b q) =
    here_faulty (of_both (rightly a) (rightly b))
    (refused_2 r (λ x y. index_asks c.known x y) (term_of a) (term_of b) q)
node_faulty {c = c} {r = r} (at_call {at = at} {f = f} {es = es} p xs q) =
    call_faulty r at (call_asks (callee_of c.scopes f) (terms (behind f c) es)) (asked c f)
    (all_asked (behind f c) es) (is_function_meant (callee_of c.scopes f)) p (all_rightly xs)
    (refused_1 r (λ ys. call_asks (callee_of c.scopes f) ys) (terms_of xs) q)
node_faulty {c = c} {r = r} (at_callee {at = at} {f = f} {es = es} p d xs e) =
    callee_faulty r at (call_asks (callee_of c.scopes f) (terms (behind f c) es)) (asked c f)
    (all_asked (behind f c) es) (is_function_meant (callee_of c.scopes f)) p (rightly d)
    (all_rightly xs) e
node_faulty {c = c} {r = r} (at_member {m = m} a q) =
    here_faulty (of_one (rightly a)) (refused_1 r (λ x. dot_asks c.known x m) (term_of a) q)
node_faulty {c = c} {r = r} (at_arrow {m = m} a q) =
    here_faulty (of_one (rightly a)) (refused_1 r (λ x. arrow_asks c.known x m) (term_of a) q)
node_faulty {c = c} {r = r} (at_post_step a q) =
    here_faulty (of_one (rightly a)) (refused_1 r (λ x. step_asks c.known x) (term_of a) q)
node_faulty {c = c} {r = r} (at_pre_step a q) =
    here_faulty (of_one (rightly a)) (refused_1 r (λ x. step_asks c.known x) (term_of a) q)
node_faulty {c = c} {r = r} (at_unary {op = op} a q) =
    here_faulty (of_one (rightly a)) (refused_1 r (λ x. unary_asks c.known op x) (term_of a) q)
node_faulty {c = c} {r = r} (at_size a q) =
    here_faulty (of_one (rightly a)) (refused_1 r (λ x. size_asks c.known (type_in x))
    (term_of a) q)
node_faulty {c = c} {r = r} (at_type_size n q) =
    here_faulty (of_one (name_rightly n)) (refused_1 {A = Qualified} r
    (λ y. size_asks c.known y.type) (named_of n) q)
node_faulty {r = r} (at_cast n a q) =
    here_faulty (of_both (name_rightly n) (rightly a))
    (refused_2 {A = Qualified} r (λ y x. cast_asks y.type x) (named_of n) (term_of a) q)
node_faulty {c = c} {r = r} (at_binary {op = op} a b q) =
    here_faulty (of_both (rightly a) (rightly b))
    (refused_2 r (λ x y. binary_asks c.known op x y) (term_of a) (term_of b) q)
node_faulty {r = r} (at_conditional d a b q) =
    here_faulty (of_beside (of_both (rightly d) (rightly a)) (rightly b))
    (refused_3 r (λ w x y. conditional_asks w x y) (term_of d) (term_of a) (term_of b) q)
node_faulty {c = c} {r = r} (at_assign {op = op} a b q) =
    here_faulty (of_both (rightly a) (rightly b))
    (refused_2 r (λ x y. assign_asks c.known op x y) (term_of a) (term_of b) q)
node_faulty (at_specifiers q) = here_faulty of_none q
node_faulty {r = r} (at_type_name s d q) =
    here_faulty (of_first (of_node of_none s) (may_rightly d))
    (refused_1 {A = Declared} r (λ y. asks 6 (is_sized y.type) ∷ []) (may_of d) q)
node_faulty (at_stars q) = in_first (here_faulty of_none q)
node_faulty {c = c} {r = r} (at_array s e q) =
    in_earlier (here_faulty (of_both (suffixes_rightly s) (rightly e))
    (refused_2 r (λ o x. length_asks c o (constant_in x)) (suffixed_of s) (term_of e) q))
node_faulty {c = c} {r = r} (at_open_array s q) =
    here_faulty (of_one (suffixes_rightly s))
    (refused_1 r (λ o. element_asks c o) (suffixed_of s) q)
node_faulty {r = r} (at_function {ps = ps} s ds q) =
    here_faulty (of_both (suffixes_rightly s) (parameters_rightly ds))
    (refused_2 r (λ o ys. function_asks o (given_parameters ps ys)) (suffixed_of s)
    (parameters_of ds) q)
node_faulty {c = c} {r = r} (at_parameter {n = n} {xs = xs} s d q) =
    in_parts (last_behind (of_first (of_node of_none s) (may_rightly d))
    (in_first (here_faulty of_none (refused_1 {A = Declared} r
    (λ y. parameter_asks (behind_specifiers c xs) n (parameter y)) (may_of d) q))))

-- what is found in a part is found in the node
pub part_found : {c b : Context} {n m : Node} {w : Finding} → Part c n b m → Found w (node_asked b m)
    → Found w (node_asked c n)
part_found indexed h = in_first h
part_found subscript h = in_second h
part_found {c = c} (callee {at = at} {f = f} {es = es} p) h =
    in_callee at (call_asks (callee_of c.scopes f) (terms (behind f c) es)) (asked c f)
    (all_asked (behind f c) es) (is_function_meant (callee_of c.scopes f)) p h
part_found {c = c} (arguments {at = at} {f = f} {es = es}) h =
    in_arguments at (call_asks (callee_of c.scopes f) (terms (behind f c) es)) (asked c f)
    (all_asked (behind f c) es) (is_function_meant (callee_of c.scopes f)) h
part_found whole h = in_one h
part_found pointer_to_whole h = in_one h
part_found post_stepped h = in_one h
part_found pre_stepped h = in_one h
part_found operand h = in_one h
part_found measured_expression h = in_one h
part_found measured_type h = in_one h
part_found cast_type h = in_first h
part_found cast_operand h = in_second h
part_found left_operand h = in_first h
part_found right_operand h = in_second h
part_found condition h = in_first_of_three h
part_found first_arm h = in_second_of_three h
part_found second_arm h = in_second h
part_found left_side h = in_first h
part_found right_side h = in_second h
part_found before_comma h = in_first h
part_found behind_comma h = in_second h
part_found first_argument h = in_first h
part_found other_arguments h = in_second h
part_found (name_specifiers {s = t.specifiers at xs}) h = in_earlier h
part_found (name_declarator s) h = in_later (of_node of_none s) h
part_found suffixes_part h = in_second (in_earlier h)
part_found {c = c} {w = w} (core_part {core = core} s) h =
    in_second (in_later (suffixes_rightly s)
    (subst (λ z. Found w (core_asked c z core)) (sym (suffixed_of s)) h))
part_found inner_part h = h
part_found behind_length h = in_earlier (in_first h)
part_found behind_no_length h = in_one h
part_found length_part h = in_earlier (in_second h)
part_found behind_function h = in_first h
part_found parameters_part h = in_second h
part_found (parameter_specifiers {s = t.specifiers at xs}) h =
    in_parts (rest_behind (rest_behind (last_beside h)))
part_found (parameter_declarator s) h =
    in_parts (rest_behind (last_behind (of_one (of_node of_none s)) h))
part_found {c = c} {w = w} (parameters_behind {n = n} {xs = xs} {m = m} {ps = ps} s d) h =
    in_parts (last_behind (of_first (of_node of_none s) (may_rightly d))
    (in_second (subst {A = Declared} (λ y. Found w
    (parameters_asked (with_parameter n (parameter y) (behind_may m (behind_specifiers c xs)))
    (n + 1) ps)) (sym (may_of d)) h)))
part_found declarator_part h = h

pub expression_faulty : {c : Context} {n : Node} {r k : ℕ} → Broken c n r k
    → Found (a_fault r k) (node_asked c n)
expression_faulty (here b) = node_faulty b
expression_faulty (within p b) = part_found p (expression_faulty b)
