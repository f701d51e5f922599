-- A node of an initialiser, a statement or a block that the relations call broken has that fault.
use Rattle.std.proofs.Common.{◌≡◌, ◌∙◌, inl, ℕ, refl, sym, subst, ap, false}
use Rattle.im_rules.specs.im_ctree.Tree as t
use Rattle.im_rules.specs.im_ctype.Types.{CType, members_of}
use Rattle.im_rules.specs.im_ctype.Members.{places}
use Rattle.im_rules.specs.Outline.{is_initialised}
use Rattle.im_rules.specs.Context.{Context}
use Rattle.im_rules.specs.Terms.{Term, constant_in}
use Rattle.im_rules.specs.Demands.{Refuses}
use Rattle.im_rules.specs.Declared.{Qualified, Declared}
use Rattle.im_rules.specs.Typed.{Typed, Declares}
use Rattle.im_rules.specs.Breaks.{Node, first_token}
use Rattle.im_rules.specs.Initialisers.{Shape, one, elements, members, shape, shape_asks, value_asks, completed}
use Rattle.im_rules.specs.Statements.{Site, past, past_expression, past_maybe, in_block, in_loop, in_switch, with_local, local_asks, behind_initializer, condition_asks, switch_asks, return_value_asks, case_asks, with_constant, label_value, switch_type, value_in}
use Rattle.im_rules.specs.BodyBreaks.{Given, an_initialiser, some_elements, some_members, GivenBreaks, at_shape, at_value, initialiser_token, given_token, GivenBroken, here_given, in_value, in_elements, in_members, first_element, other_elements, first_member, other_members, BodyNode, some_locals, a_declaration, a_beginning, a_statement, an_else, some_items, some_cases, a_labelled, BodyBreaks, at_local, at_declared, at_if, at_while, at_do, at_for, at_switch, at_break, at_continue, at_return, at_return_value, at_stray_case, at_stray_default, at_case, at_default, is_label, InnerPart, local_declarator, begun, evaluated, if_condition, while_condition, do_condition, switched, returned, case_constant, StepPart, for_condition, for_step, BodyPart, locals_behind, declared_locals, begun_by, block_items, first_branch, second_branch, else_statement, while_body, do_body, for_beginning, for_body, switch_block, item_declaration, behind_declaration, item_statement, behind_statement, case_declaration, cases_behind_declaration, case_statement, cases_behind_statement, unlabelled, behind_case, behind_default, body_token, BodyBroken, here_in_body, within_body, in_inner, in_step, in_local_initialiser}
use Rattle.im_rules.proofs.BodiesOnce.{labelled_once}
use Rattle.im_rules_asked.specs.Asked.{Asked, both, only, beside}
use Rattle.im_rules_asked.specs.Expressions.{asked}
use Rattle.im_rules_asked.specs.Initialisers.{side_by_side, in_order, places_in, misplaced, shaped_asked, items_asked, among_asked}
use Rattle.im_rules_asked.specs.Statements.{locals_asked, declaration_asked, condition_asked, test_asked, step_asked, beginning_asked, no_labels, labels_behind, elsewhere, in_switch_of, Standing, statement_asked, else_asked, row_asked, cases_asked}
use Rattle.im_rules_asked.proofs.Right.{of_node, of_none, of_one}
use Rattle.im_rules_asked.proofs.Terms.{term_of, declared_of}
use Rattle.im_rules_asked.proofs.Rightness.{rightly, declarator_rightly}
use Rattle.im_rules_asked.proofs.BuiltBodies.{list_of, shape_list, built_statement, labelled_of}
use Rattle.im_rules_asked.proofs.RightBodies.{no_elements, no_members, value_no_list, declaration_right, beginning_right, added_of, site_of, begun_of, statement_right, labelled_right}
use Rattle.im_rules_asked.proofs.Faults.{Finding, a_fault, Found, here_faulty, in_one, in_first, in_second, in_first_of_three, in_second_of_three, in_earlier, in_later, refused_1}
use Rattle.im_rules_asked.proofs.FaultyExpressions.{node_asked, expression_faulty}

-- initialisers

-- what is asked of an initialiser
abbrev pub given_asked : Context → Given → Asked
given_asked c (an_initialiser a at i) = items_asked c a i
given_asked c (some_elements e at is) = among_asked c (side_by_side e) is
given_asked c (some_members ms os at is) = among_asked c (in_order ms os) is

shape_faulty : (c : Context) (a : CType) {r : ℕ} (i : t.Initializer)
    → Refuses r (shape_asks c.known a i) → Found (a_fault r (initialiser_token i)) (items_asked c a i)
shape_faulty c a (t.value_initializer e) q = in_first (here_faulty of_none q)
shape_faulty c a (t.braced_initializer k is) q = in_first (here_faulty of_none q)

-- of a shape that is one expression
one_faulty : {c : Context} (a : CType) (r token : ℕ) {s : Shape} {e : t.Expression} {x : Term}
    (inner : Asked)
    → s ≡ one e → Typed c e x → Refuses r (value_asks a x)
    → Found (a_fault r token) (shaped_asked c a token s inner)
one_faulty {c = c} a r token inner p d q =
    subst (λ z. Found (a_fault r token) (shaped_asked c a token z inner)) (sym p)
    (here_faulty (of_one (rightly d)) (refused_1 r (λ x. value_asks a x) (term_of d) q))

value_faulty : {c : Context} (a : CType) (r : ℕ) (i : t.Initializer) {e : t.Expression} {x : Term}
    → shape a i ≡ one e → Typed c e x → Refuses r (value_asks a x)
    → Found (a_fault r (initialiser_token i)) (items_asked c a i)
value_faulty a r (t.value_initializer e) p d q =
    in_second (one_faulty a r (first_token e) (misplaced (first_token e)) p d q)
value_faulty {c = c} a r (t.braced_initializer k is) p d q =
    in_second (one_faulty a r k (among_asked c
    (places_in c.known (shape a (t.braced_initializer k is))) is) p d q)

in_one_shape : (c : Context) (a : CType) {w : Finding} (token : ℕ) {s : Shape} {e : t.Expression}
    (inner : Asked)
    → s ≡ one e → Found w (asked c e) → Found w (shaped_asked c a token s inner)
in_one_shape c a {w = w} token inner p h =
    subst (λ z. Found w (shaped_asked c a token z inner)) (sym p) (in_one h)

pub value_in_found : (c : Context) (a : CType) {w : Finding} (i : t.Initializer) {e : t.Expression}
    → shape a i ≡ one e → Found w (asked c e) → Found w (items_asked c a i)
value_in_found c a (t.value_initializer e) p h =
    in_second (in_one_shape c a (first_token e) (misplaced (first_token e)) p h)
value_in_found c a (t.braced_initializer k is) p h =
    in_second (in_one_shape c a k (among_asked c
    (places_in c.known (shape a (t.braced_initializer k is))) is) p h)

-- of a shape that is a list: what stands in the braces
elements_found : (c : Context) (a b : CType) {w : Finding} (token : ℕ) {s : Shape}
    {is js : t.Initializers}
    → s ≡ elements b js → list_of s is ≡ is → Found w (among_asked c (side_by_side b) js)
    → Found w (shaped_asked c a token s (among_asked c (places_in c.known s) is))
elements_found c a b {w = w} token {is = is} p q h =
    subst (λ z. Found w (shaped_asked c a token z (among_asked c (places_in c.known z) is)))
    (sym p)
    (subst (λ ks. Found w (among_asked c (side_by_side b) ks))
    (sym (ap (λ z. list_of z is) p) ∙ q) h)

members_found : (c : Context) (a : CType) (n : ℕ) {w : Finding} (token : ℕ) {s : Shape}
    {is js : t.Initializers}
    → s ≡ members n js → list_of s is ≡ is
    → Found w (among_asked c (in_order (members_of c.known n) (places c.known n)) js)
    → Found w (shaped_asked c a token s (among_asked c (places_in c.known s) is))
members_found c a n {w = w} token {is = is} p q h =
    subst (λ z. Found w (shaped_asked c a token z (among_asked c (places_in c.known z) is)))
    (sym p)
    (subst (λ ks. Found w (among_asked c (in_order (members_of c.known n)
    (places c.known n)) ks)) (sym (ap (λ z. list_of z is) p) ∙ q) h)

pub in_elements_found : (c : Context) (a b : CType) {w : Finding} (i : t.Initializer) {js : t.Initializers}
    → shape a i ≡ elements b js → Found w (among_asked c (side_by_side b) js)
    → Found w (items_asked c a i)
in_elements_found c a b (t.value_initializer e) p h = absurd (no_elements (value_no_list a e) p)
in_elements_found c a b (t.braced_initializer at is) p h =
    in_second (elements_found c a b at p (shape_list a at is) h)

pub in_members_found : (c : Context) (a : CType) (n : ℕ) {w : Finding} (i : t.Initializer)
    {js : t.Initializers}
    → shape a i ≡ members n js
    → Found w (among_asked c (in_order (members_of c.known n) (places c.known n)) js)
    → Found w (items_asked c a i)
in_members_found c a n (t.value_initializer e) p h = absurd (no_members (value_no_list a e) p)
in_members_found c a n (t.braced_initializer at is) p h =
    in_second (members_found c a n at p (shape_list a at is) h)

given_here : {c : Context} {g : Given} {r : ℕ} → GivenBreaks c r g
    → Found (a_fault r (given_token g)) (given_asked c g)
given_here {c = c} (at_shape {a = a} {i = i} q) = shape_faulty c a i q
given_here {r = r} (at_value {a = a} {i = i} p d q) = value_faulty a r i p d q

pub given_faulty : {c : Context} {g : Given} {r k : ℕ} → GivenBroken c g r k
    → Found (a_fault r k) (given_asked c g)
given_faulty (here_given b) = given_here b
given_faulty {c = c} (in_value {a = a} {i = i} p b) = value_in_found c a i p (expression_faulty b)
given_faulty {c = c} (in_elements {a = a} {b = e} {i = i} m p b) =
    in_elements_found c a e i p (given_faulty b)
given_faulty {c = c} (in_members {a = a} {n = n} {i = i} m p b) =
    in_members_found c a n i p (given_faulty b)
given_faulty (first_element b) = in_first (given_faulty b)
given_faulty (other_elements b) = in_second (given_faulty b)
given_faulty (first_member b) = in_first (given_faulty b)
given_faulty (other_members b) = in_second (given_faulty b)

-- bodies

-- what is asked of a node of a body
abbrev pub body_asked : Site → BodyNode → Asked
body_asked s (some_locals q ds) = locals_asked q s ds
body_asked s (a_declaration d) = declaration_asked s d
body_asked s (a_beginning i) = beginning_asked s i
body_asked s (a_statement a) = statement_asked s elsewhere a
body_asked s (an_else b) = else_asked s b
body_asked s (some_items is) = row_asked s is
body_asked s (some_cases i n before is) = cases_asked i s before is
body_asked s (a_labelled i n before a) = statement_asked s (in_switch_of i before) a

-- where what carries no label stands doesn't matter
same_elsewhere : (s : Site) (p : Standing) (a : t.Statement) → is_label a ≡ false
    → statement_asked s elsewhere a ≡ statement_asked s p a
same_elsewhere s p (t.block_statement at (t.block at' is)) h = refl
same_elsewhere s p (t.expression_statement at e) h = refl
same_elsewhere s p (t.if_statement at e a b) h = refl
same_elsewhere s p (t.while_statement at e a) h = refl
same_elsewhere s p (t.do_statement at a e) h = refl
same_elsewhere s p (t.for_statement at i c n a) h = refl
same_elsewhere s p (t.switch_statement at e (t.block at' is)) h = refl
same_elsewhere s p (t.case_statement at e a) h = absurd (cc)
same_elsewhere s p (t.default_statement at a) h = absurd (cc)
same_elsewhere s p (t.break_statement at) h = refl
same_elsewhere s p (t.continue_statement at) h = refl
same_elsewhere s p (t.return_statement at e) h = refl

body_here : {s : Site} {n : BodyNode} {r : ℕ} → BodyBreaks s r n
    → Found (a_fault r (body_token n)) (body_asked s n)
body_here {s = s} {r = r} (at_local {i = i} dd q) =
    in_later (declarator_rightly dd)
    (in_second (in_first_of_three (here_faulty of_none (refused_1 {A = Declared} r
    (λ y. local_asks s y (completed y.type i) (is_initialised i)) (declared_of dd) q))))
body_here (at_declared q) = in_earlier (here_faulty of_none q)
body_here {r = r} (at_if c q) =
    in_first (here_faulty (of_one (rightly c)) (refused_1 r (λ x. condition_asks x) (term_of c) q))
body_here {r = r} (at_while c q) =
    in_first (here_faulty (of_one (rightly c)) (refused_1 r (λ x. condition_asks x) (term_of c) q))
body_here {s = s} {r = r} (at_do {at = at} {e = e} a c q) =
    in_later (statement_right a elsewhere)
    (subst (λ k. Found (a_fault r at) (condition_asked at (past k s) e))
    (added_of a (statement_right a elsewhere))
    (here_faulty (of_one (rightly c)) (refused_1 r (λ x. condition_asks x) (term_of c) q)))
body_here {r = r} (at_for {at = at} {c = c} {n = n} {a = a} b d q) =
    in_later (beginning_right b)
    (subst (λ z. Found (a_fault r at) (only (beside (both (condition_asked at z c)
    (step_asked (past_maybe (t.an_expression c) z) n))
    (statement_asked (in_loop (past_maybe n (past_maybe (t.an_expression c) z))) elsewhere a))))
    (begun_of b (beginning_right b))
    (in_first_of_three (here_faulty (of_one (rightly d))
    (refused_1 r (λ x. condition_asks x) (term_of d) q))))
body_here {r = r} (at_switch {b = t.block at' is} c q) =
    in_later (rightly c) (in_first (here_faulty of_none
    (refused_1 r (λ x. switch_asks x) (term_of c) q)))
body_here (at_break q) = here_faulty of_none q
body_here (at_continue q) = here_faulty of_none q
body_here (at_return q) = here_faulty of_none q
body_here {s = s} {r = r} (at_return_value d q) =
    here_faulty (of_one (rightly d)) (refused_1 r (λ x. return_value_asks s.result x) (term_of d) q)
body_here (at_stray_case e) = here_faulty of_none (inl (sym e, refl))
body_here (at_stray_default e) = here_faulty of_none (inl (sym e, refl))
body_here {r = r} (at_case {i = i} {before = before} c q) =
    in_later (rightly c) (in_first (here_faulty of_none
    (refused_1 r (λ y. case_asks i y before) (term_of c) q)))
body_here (at_default q) = in_first (here_faulty of_none q)

pub inner_found : {s : Site} {c : Context} {n : BodyNode} {m : Node} {w : Finding} → InnerPart s n c m
    → Found w (node_asked c m) → Found w (body_asked s n)
inner_found local_declarator h = in_earlier h
inner_found begun h = h
inner_found evaluated h = h
inner_found if_condition h = in_first (in_one h)
inner_found while_condition h = in_first (in_one h)
inner_found {s = s} {w = w} (do_condition {at = at} {e = e} a) h =
    in_later (statement_right a elsewhere) (subst
    (λ m. Found w (condition_asked at (past m s) e)) (added_of a (statement_right a elsewhere))
    (in_one h))
inner_found (switched {b = t.block at' is}) h = in_earlier h
inner_found returned h = in_one h
inner_found case_constant h = in_earlier h

pub step_found : {s : Site} {c : Context} {n : BodyNode} {m : Node} {w : Finding} → StepPart s n c m
    → Found w (node_asked c m) → Found w (body_asked s n)
step_found {w = w} (for_condition {at = at} {c = c} {n = n} {a = a} b) h =
    in_later (beginning_right b)
    (subst (λ z. Found w (only (beside (both (condition_asked at z c)
    (step_asked (past_maybe (t.an_expression c) z) n))
    (statement_asked (in_loop (past_maybe n (past_maybe (t.an_expression c) z))) elsewhere a))))
    (begun_of b (beginning_right b))
    (in_first_of_three (in_one h)))
step_found {w = w} (for_step {at = at} {c = c} {n = n} {a = a} b) h =
    in_later (beginning_right b)
    (subst (λ z. Found w (only (beside (both (test_asked at z c)
    (asked (past_maybe c z).context n)) (statement_asked
    (in_loop (past_maybe (t.an_expression n) (past_maybe c z))) elsewhere a))))
    (begun_of b (beginning_right b))
    (in_second_of_three h))

pub behind_found : {s z : Site} {n m : BodyNode} {w : Finding} → BodyPart s n z m
    → Found w (body_asked z m) → Found w (body_asked s n)
behind_found {s = s} {w = w} (locals_behind {q = q} {d = d} {i = i} {ds = ds} dd) h =
    in_later (declarator_rightly dd)
    (in_second (in_second (subst {A = Declared} (λ y. Found w
    (locals_asked q (behind_initializer (completed y.type i) i
    (with_local d y (completed y.type i) s)) ds)) (sym (declared_of dd)) h)))
behind_found (declared_locals m) h = in_later (of_node of_none m) h
behind_found begun_by h = h
behind_found block_items h = h
behind_found first_branch h = in_second (in_earlier h)
behind_found {s = s} {w = w} (second_branch {e = e} {b = b} a) h =
    in_second (in_later (statement_right a elsewhere)
    (subst (λ m. Found w (else_asked (past m (past_expression e s)) b))
    (added_of a (statement_right a elsewhere)) h))
behind_found else_statement h = h
behind_found while_body h = in_second h
behind_found do_body h = in_earlier h
behind_found for_beginning h = in_earlier h
behind_found {w = w} (for_body {at = at} {c = c} {n = n} {a = a} b) h =
    in_later (beginning_right b)
    (subst (λ z. Found w (only (beside (both (test_asked at z c) (step_asked (past_maybe c z) n))
    (statement_asked (in_loop (past_maybe n (past_maybe c z))) elsewhere a))))
    (begun_of b (beginning_right b))
    (in_second h))
behind_found {s = s} {w = w} (switch_block {e = e} {is = is} c) h =
    in_later (rightly c)
    (in_second (subst (λ x. Found w (cases_asked (switch_type (value_in s x))
    (in_switch (in_block (past_expression e s))) no_labels is)) (sym (term_of c)) h))
behind_found item_declaration h = in_earlier h
behind_found {w = w} (behind_declaration {is = is} d) h =
    in_later (declaration_right d) (subst (λ e. Found w (row_asked e is))
    (site_of d (declaration_right d)) h)
behind_found item_statement h = in_earlier h
behind_found {s = s} {w = w} (behind_statement {is = is} a) h =
    in_later (statement_right a elsewhere) (subst (λ m. Found w (row_asked (past m s) is))
    (added_of a (statement_right a elsewhere)) h)
behind_found case_declaration h = in_earlier h
behind_found {w = w} (cases_behind_declaration {i = i} {before = before} {is = is} d) h =
    in_later (declaration_right d) (subst (λ e. Found w (cases_asked i e before is))
    (site_of d (declaration_right d)) h)
behind_found case_statement h = in_earlier h
behind_found {s = s} {w = w} (cases_behind_statement {i = i} {n = n} {before = before} {a = a} {is = is} {m = m} l) h =
    let p = labelled_right l in
    let q = labelled_once l (labelled_of (built_statement s (in_switch_of i before) a p) n) in
    in_later p (subst (λ z. Found w (cases_asked i (past z s)
    (labels_behind i s before a) is)) q.4 (subst
    (λ b. Found w (cases_asked i (past m s) b is)) q.0 h))
behind_found {s = s} {w = w} (unlabelled {i = i} {before = before} {a = a} p) h =
    subst (λ z. Found w z) (same_elsewhere s (in_switch_of i before) a p) h
behind_found {s = s} {w = w} (behind_case {i = i} {before = before} {e = e} {a = a} c) h =
    in_later (rightly c)
    (in_second (subst (λ x. Found w (statement_asked (past_expression e s)
    (in_switch_of i (with_constant (label_value i (constant_in x)) before)) a))
    (sym (term_of c)) h))
behind_found behind_default h = in_second h

-- in the initialiser of an object
pub in_local : (s : Site) (i : t.Initializer) (ds : t.InitDeclarators) {q : Qualified}
    {d : t.Declarator} {y : Declared} {w : Finding} → Declares s.context q d y
    → Found w (items_asked (with_local d y (completed y.type (t.an_initializer i)) s).context
    (completed y.type (t.an_initializer i)) i)
    → Found w (body_asked s (some_locals q (t.more_init_declarators d (t.an_initializer i) ds)))
in_local s i ds {d = d} {w = w} dd h =
    in_later (declarator_rightly dd)
    (in_second (in_second_of_three (subst {A = Declared}
    (λ y. Found w (items_asked (with_local d y (completed y.type (t.an_initializer i)) s).context
    (completed y.type (t.an_initializer i)) i)) (sym (declared_of dd)) h)))

pub body_faulty : {s : Site} {n : BodyNode} {r k : ℕ} → BodyBroken s n r k
    → Found (a_fault r k) (body_asked s n)
body_faulty (here_in_body b) = body_here b
body_faulty (within_body p b) = behind_found p (body_faulty b)
body_faulty (in_inner p b) = inner_found p (expression_faulty b)
body_faulty (in_step p b) = step_found p (expression_faulty b)
body_faulty {s = s} (in_local_initialiser {i = i} {ds = ds} dd b) =
    in_local s i ds dd (given_faulty b)
