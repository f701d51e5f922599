-- An initialiser, a statement or a block that is typed has no node that breaks a rule.
use Rattle.std.proofs.Common.{◌≡◌, ℕ, ◌+◌, [], ◌∷◌, List, Option, ap, subst}
use Rattle.im_ctree.specs.Tree as t
use Rattle.im_typed.specs.im_ctype.declared.integer.Integer.{Integer}
use Rattle.im_typed.specs.im_ctype.declared.member.MemberPlace.{MemberPlace}
use Rattle.im_typed.specs.im_ctype.Types.{CType, Member, members_of}
use Rattle.im_typed.specs.im_ctype.Members.{places}
use Rattle.im_typed.specs.declared.statement.Case.{Case}
use Rattle.im_typed.specs.Program.{Expr, Stmt, Stmts}
use Rattle.im_rules.specs.Rules.{rule_34_break, rule_34_continue}
use Rattle.im_rules.specs.Context.{Context}
use Rattle.im_rules.specs.Terms.{Term, constant_in}
use Rattle.im_rules.specs.Demands.{asks, Refuses}
use Rattle.im_rules.specs.Declared.{Qualified, Declared, declaration_asks}
use Rattle.im_rules.specs.Typed.{Typed}
use Rattle.im_rules.specs.Breaks.{Node, an_expression}
use Rattle.im_rules.specs.Initialisers.{Shape, one, elements, members, Item, shape_asks, value_asks, completed, Initialised, initialised, Shaped, of_one, of_elements, of_members, Elements, an_element, InMembers, a_member}
use Rattle.im_rules.specs.Outline.{is_initialised}
use Rattle.im_rules.specs.Statements.{Site, Added, past, past_expression, in_loop, in_switch, in_block, with_local, behind_initializer, local_asks, MayInitialise, initialises, AreLocals, a_local, TypedDeclaration, of_declaration, Labels, Cases, condition_asks, switch_asks, return_asks, return_value_asks, case_asks, default_asks, switch_type, value_in, label_value, with_constant, count_stmts, past_maybe, MayTest, a_test, MayStep, a_step, Begins, by_declaration, by_expression, TypedStatement, of_block, of_expression, of_if, of_while, of_do, of_for, of_switch, of_break, of_continue, of_return, of_return_value, MayBeTyped, an_else, TypedItems, a_declaration, a_statement, TypedCases, between_cases, a_labelled, Labelled, no_label, of_case, of_default}
use Rattle.im_rules.specs.BodyBreaks.{Given, an_initialiser, some_elements, some_members, at_shape, at_value, GivenBroken, here_given, in_value, in_elements, in_members, first_element, other_elements, first_member, other_members, BodyNode, some_locals, a_declaration as declaration_node, a_beginning, a_statement as statement_node, an_else as else_node, some_items, some_cases, a_labelled as labelled_node, BodyBreaks, at_local, at_declared, at_if, at_while, at_do, at_for, at_switch, at_break, at_continue, at_return, at_return_value, at_stray_case, at_stray_default, at_case, at_default, InnerPart, local_declarator, begun, evaluated, if_condition, while_condition, do_condition, switched, returned, case_constant, StepPart, for_condition, for_step, BodyPart, locals_behind, declared_locals, begun_by, block_items, first_branch, second_branch, else_statement, while_body, do_body, for_beginning, for_body, switch_block, item_declaration, behind_declaration, item_statement, behind_statement, case_declaration, cases_behind_declaration, case_statement, cases_behind_statement, unlabelled, behind_case, behind_default, BodyBroken, here_in_body, within_body, in_inner, in_step, in_local_initialiser}
use Rattle.im_rules.proofs.Once.{once, declares_once}
use Rattle.im_rules.proofs.BodiesOnce.{declaration_once, begins_once, statement_once, labelled_once}
use Rattle.im_rules.proofs.Sound.{IsTyped, typed_expression, typed_declarator, typed_breaks_none, not_refused, clash}

-- initialisers

pub data IsGiven (c : Context) : Given → Type 0 where
  given_one : {a : CType} {at : ℕ} {i : t.Initializer} {ps : List Item} → Initialised c a at i ps → IsGiven c (an_initialiser a at i)
  given_elements : {e : CType} {at : ℕ} {is : t.Initializers} {ps : List Item} → Elements c e at is ps → IsGiven c (some_elements e at is)
  given_members : {ms : List Member} {os : List MemberPlace} {at : ℕ} {is : t.Initializers} {ps : List Item} → InMembers c ms os at is ps → IsGiven c (some_members ms os at is)

shaped_as : {c : Context} {a : CType} {at : ℕ} {h k : Shape} {ps : List Item} → h ≡ k → Shaped c a at h ps → Shaped c a at k ps
shaped_as {c = c} {a = a} {at = at} {ps = ps} e s = subst (λ x. Shaped c a at x ps) e s

open_one : {c : Context} {a : CType} {at r : ℕ} {e : t.Expression} {x : Term} {ps : List Item} → Shaped c a at (one e) ps → Typed c e x → Refuses r (value_asks a x) → ⊥
open_one {a = a} {r = r} (of_one d m) d' f = clash r _ _ (ap (value_asks a) (once d d')) m f

value_typed : {c : Context} {a : CType} {at : ℕ} {e : t.Expression} {ps : List Item} → Shaped c a at (one e) ps → IsTyped c (an_expression e)
value_typed (of_one d m) = typed_expression d

elements_typed : {c : Context} {a b : CType} {at : ℕ} {is : t.Initializers} {ps : List Item} → Shaped c a at (elements b is) ps → IsGiven c (some_elements b at is)
elements_typed (of_elements s) = given_elements s

members_typed : {c : Context} {a : CType} {n at : ℕ} {is : t.Initializers} {ps : List Item} → Shaped c a at (members n is) ps → IsGiven c (some_members (members_of c.known n) (places c.known n) at is)
members_typed (of_members s) = given_members s

pub given_breaks_none : {c : Context} {g : Given} {r k : ℕ} → GivenBroken c g r k → IsGiven c g → ⊥
given_breaks_none {c = c} {r = r} (here_given (at_shape {a = a} {i = i} f)) (given_one (initialised m s)) = not_refused r (shape_asks c.known a i) m f
given_breaks_none (here_given (at_value e d f)) (given_one (initialised m s)) = open_one (shaped_as e s) d f
given_breaks_none (in_value e b) (given_one (initialised m s)) = typed_breaks_none b (value_typed (shaped_as e s))
given_breaks_none (in_elements f e b) (given_one (initialised m s)) = given_breaks_none b (elements_typed (shaped_as e s))
given_breaks_none (in_members f e b) (given_one (initialised m s)) = given_breaks_none b (members_typed (shaped_as e s))
given_breaks_none (first_element b) (given_elements (an_element i s)) = given_breaks_none b (given_one i)
given_breaks_none (other_elements b) (given_elements (an_element i s)) = given_breaks_none b (given_elements s)
given_breaks_none (first_member b) (given_members (a_member i s)) = given_breaks_none b (given_one i)
given_breaks_none (other_members b) (given_members (a_member i s)) = given_breaks_none b (given_members s)

-- bodies

pub data IsBody (s : Site) : BodyNode → Type 0 where
  body_locals : {q : Qualified} {ds : t.InitDeclarators} {us : Stmts} {m : Added} {e : Site} → AreLocals q s ds us m e → IsBody s (some_locals q ds)
  body_declaration : {d : t.Declaration} {us : Stmts} {m : Added} {e : Site} → TypedDeclaration s d us m e → IsBody s (declaration_node d)
  body_beginning : {i : t.ForInit} {u : Stmt} {m : Added} {e : Site} → Begins s i u m e → IsBody s (a_beginning i)
  body_statement : {a : t.Statement} {u : Stmt} {m : Added} → TypedStatement s a u m → IsBody s (statement_node a)
  body_else : {a : t.MaybeStatement} {u : Stmt} {m : Added} → MayBeTyped s a u m → IsBody s (else_node a)
  body_items : {is : t.BlockItems} {us : Stmts} {m : Added} → TypedItems s is us m → IsBody s (some_items is)
  body_cases : {i : Integer} {n : ℕ} {before : Labels} {is : t.BlockItems} {k : Cases} {m : Added} → TypedCases i s n before is k m → IsBody s (some_cases i n before is)
  body_labelled : {i : Integer} {n : ℕ} {before behind : Labels} {a : t.Statement} {u : Stmt} {ks : List Case} {d : Option ℕ} {m : Added} → Labelled i s n before a behind u ks d m → IsBody s (labelled_node i n before a)

pub body_part : {s z : Site} {n m : BodyNode} → BodyPart s n z m → IsBody s n → IsBody z m
body_part {s = s} (locals_behind {q = q} {d = d} {i = i} {ds = ds} dd) (body_locals (a_local {e = e} {us = us} {more = more} dd' m k r)) =
    body_locals (subst (λ (x : Declared). AreLocals q (behind_initializer (completed x.type i) i (with_local d x (completed x.type i) s)) ds us more e) (declares_once dd' dd) r)
body_part (declared_locals m) (body_declaration (of_declaration m' l)) = body_locals l
body_part begun_by (body_beginning (by_declaration d)) = body_declaration d
body_part block_items (body_statement (of_block is)) = body_items is
body_part first_branch (body_statement (of_if c m a b)) = body_statement a
body_part {s = s} (second_branch {e = e} {b = b} a) (body_statement (of_if {v = v} {n = n} c m a' r)) =
    body_else (subst (λ k. MayBeTyped (past k (past_expression e s)) b v n) ((statement_once a' a).1) r)
body_part else_statement (body_else (an_else a)) = body_statement a
body_part while_body (body_statement (of_while c m a)) = body_statement a
body_part do_body (body_statement (of_do a c m)) = body_statement a
body_part for_beginning (body_statement (of_for b x y a)) = body_beginning b
body_part (for_body {c = c} {n = n} {a = a} b) (body_statement (of_for {u = u} {k = k} b' x y r)) =
    body_statement (subst (λ e. TypedStatement (in_loop (past_maybe n (past_maybe c e))) a u k) ((begins_once b' b).2) r)
body_part {s = s} (switch_block {e = e} {is = is} x) (body_statement (of_switch {k = k} {m = l} c m r)) =
    body_cases (subst (λ y. TypedCases (switch_type (value_in s y)) (in_switch (in_block (past_expression e s))) 0 (record { constants = []; defaults = 0 }) is k l) (once c x) r)
body_part item_declaration (body_items (a_declaration d r)) = body_declaration d
body_part (behind_declaration {is = is} d) (body_items (a_declaration {vs = vs} {n = n} d' r)) =
    body_items (subst (λ e. TypedItems e is vs n) ((declaration_once d' d).2) r)
body_part item_statement (body_items (a_statement a r)) = body_statement a
body_part {s = s} (behind_statement {is = is} a) (body_items (a_statement {us = us} {n = n} a' r)) =
    body_items (subst (λ k. TypedItems (past k s) is us n) ((statement_once a' a).1) r)
body_part case_declaration (body_cases (between_cases d r)) = body_declaration d
body_part (cases_behind_declaration {i = i} {n = n} {before = before} {is = is} {us = us} d) (body_cases (between_cases {e = e₂} {k = k} {l = l} d' r)) =
    body_cases (subst (λ e. TypedCases i e (n + count_stmts us) before is k l) ((declaration_once d' d).2) (subst (λ vs. TypedCases i e₂ (n + count_stmts vs) before is k l) ((declaration_once d' d).0) r))
body_part case_statement (body_cases (a_labelled a r)) = body_labelled a
body_part (cases_behind_statement {i = i} {s = s} {n = n} {behind = behind} {is = is} a) (body_cases (a_labelled {k = k} {m = m₂} {l = l} a' r)) =
    let p = labelled_once a' a in
    body_cases (subst (λ z. TypedCases i (past z s) (n + 1) behind is k l) p.4 (subst (λ b. TypedCases i (past m₂ s) (n + 1) b is k l) p.0 r))
body_part (unlabelled e) (body_labelled (no_label a)) = body_statement a
body_part (unlabelled e) (body_labelled (of_case x m r)) = cc
body_part (unlabelled e) (body_labelled (of_default m r)) = cc
body_part (behind_case x) (body_labelled (no_label a)) = elim a [ ]
body_part {s = s} (behind_case {i = i} {n = n} {before = before} {e = e} {a = a} x) (body_labelled (of_case {behind = b} {u = u} {ks = ks} {d = d} {m = l} x' m r)) =
    body_labelled (subst (λ y. Labelled i (past_expression e s) n (with_constant (label_value i (constant_in y)) before) a b u ks d l) (once x' x) r)
body_part behind_default (body_labelled (no_label a)) = elim a [ ]
body_part behind_default (body_labelled (of_default m r)) = body_labelled r

pub inner_part : {s : Site} {c : Context} {n : BodyNode} {m : Node} → InnerPart s n c m → IsBody s n → IsTyped c m
inner_part local_declarator (body_locals (a_local d m k r)) = typed_declarator d
inner_part begun (body_beginning (by_expression a)) = typed_expression a
inner_part evaluated (body_statement (of_expression a)) = typed_expression a
inner_part if_condition (body_statement (of_if c m a b)) = typed_expression c
inner_part while_condition (body_statement (of_while c m a)) = typed_expression c
inner_part {s = s} (do_condition {e = e} a) (body_statement (of_do {x = x} a' c m)) =
    typed_expression (subst (λ k. Typed (past k s).context e x) ((statement_once a' a).1) c)
inner_part switched (body_statement (of_switch c m k)) = typed_expression c
inner_part returned (body_statement (of_return_value a m)) = typed_expression a
inner_part case_constant (body_labelled (no_label a)) = elim a [ ]
inner_part case_constant (body_labelled (of_case x m r)) = typed_expression x

test_typed : {e : Site} {c : t.Expression} {x : Expr} → MayTest e (t.an_expression c) x → IsTyped e.context (an_expression c)
test_typed (a_test d m) = typed_expression d

step_typed : {e : Site} {c : t.Expression} {x : Expr} → MayStep e (t.an_expression c) x → IsTyped e.context (an_expression c)
step_typed (a_step d) = typed_expression d

pub step_part : {s : Site} {c : Context} {n : BodyNode} {m : Node} → StepPart s n c m → IsBody s n → IsTyped c m
step_part (for_condition {c = c} b) (body_statement (of_for {x = x} b' t' y r)) =
    test_typed (subst (λ e. MayTest e (t.an_expression c) x) ((begins_once b' b).2) t')
step_part (for_step {c = c} {n = n} b) (body_statement (of_for {y = y} b' t' p r)) =
    step_typed (subst (λ e. MayStep (past_maybe c e) (t.an_expression n) y) ((begins_once b' b).2) p)

test_met : {e : Site} {r : ℕ} {c : t.Expression} {x : Expr} {y : Term} → MayTest e (t.an_expression c) x → Typed e.context c y → Refuses r (condition_asks y) → ⊥
test_met {r = r} (a_test d m) d' f = clash r _ _ (ap condition_asks (once d d')) m f

initialises_typed : {c : Context} {n : ℕ} {a : CType} {i : t.Initializer} {u : Stmt} → MayInitialise c n a (t.an_initializer i) u → IsGiven c (an_initialiser a 0 i)
initialises_typed (initialises i) = given_one i

pub body_breaks_none : {s : Site} {r : ℕ} {n : BodyNode} → BodyBreaks s r n → IsBody s n → ⊥
body_breaks_none {s = s} {r = r} (at_local {i = i} d f) (body_locals (a_local d' m k l)) = clash r _ _ (ap (λ (y : Declared). local_asks s y (completed y.type i) (is_initialised i)) (declares_once d' d)) m f
body_breaks_none {s = s} {r = r} (at_declared {xs = xs} {ds = ds} f) (body_declaration (of_declaration m l)) = not_refused r (declaration_asks s.context xs ds) m f
body_breaks_none {r = r} (at_if c f) (body_statement (of_if c' m a b)) = clash r _ _ (ap condition_asks (once c' c)) m f
body_breaks_none {r = r} (at_while c f) (body_statement (of_while c' m a)) = clash r _ _ (ap condition_asks (once c' c)) m f
body_breaks_none {s = s} {r = r} (at_do {e = e} a c f) (body_statement (of_do {x = x} a' c' m)) =
    clash r _ _ (ap condition_asks (once (subst (λ k. Typed (past k s).context e x) ((statement_once a' a).1) c') c)) m f
body_breaks_none (at_for {c = c} b d f) (body_statement (of_for {x = x} b' t' y r)) =
    test_met (subst (λ e. MayTest e (t.an_expression c) x) ((begins_once b' b).2) t') d f
body_breaks_none {r = r} (at_switch c f) (body_statement (of_switch c' m k)) = clash r _ _ (ap switch_asks (once c' c)) m f
body_breaks_none {s = s} {r = r} (at_break f) (body_statement (of_break m)) = not_refused r (asks 34 (rule_34_break s.position) ∷ []) m f
body_breaks_none {s = s} {r = r} (at_continue f) (body_statement (of_continue m)) = not_refused r (asks 34 (rule_34_continue s.position) ∷ []) m f
body_breaks_none {s = s} {r = r} (at_return f) (body_statement (of_return m)) = not_refused r (return_asks s.result) m f
body_breaks_none {s = s} {r = r} (at_return_value a f) (body_statement (of_return_value a' m)) = clash r _ _ (ap (return_value_asks s.result) (once a' a)) m f
body_breaks_none (at_stray_case e) (body_statement a) = elim a [ ]
body_breaks_none (at_stray_default e) (body_statement a) = elim a [ ]
body_breaks_none (at_case x f) (body_labelled (no_label a)) = elim a [ ]
body_breaks_none {r = r} (at_case {i = i} {before = before} x f) (body_labelled (of_case x' m l)) = clash r _ _ (ap (λ y. case_asks i y before) (once x' x)) m f
body_breaks_none (at_default f) (body_labelled (no_label a)) = elim a [ ]
body_breaks_none {r = r} (at_default {before = before} f) (body_labelled (of_default m l)) = not_refused r (default_asks before) m f

pub typed_body_breaks_none : {s : Site} {n : BodyNode} {r k : ℕ} → BodyBroken s n r k → IsBody s n → ⊥
typed_body_breaks_none (here_in_body b) d = body_breaks_none b d
typed_body_breaks_none (within_body p b) d = typed_body_breaks_none b (body_part p d)
typed_body_breaks_none (in_inner p b) d = typed_breaks_none b (inner_part p d)
typed_body_breaks_none (in_step p b) d = typed_breaks_none b (step_part p d)
typed_body_breaks_none {s = s} (in_local_initialiser {d = d} {i = i} dd b) (body_locals (a_local {u = u} dd' m k l)) =
    given_breaks_none b (initialises_typed (subst (λ (x : Declared). MayInitialise (with_local d x (completed x.type (t.an_initializer i)) s).context s.locals (completed x.type (t.an_initializer i)) (t.an_initializer i) u) (declares_once dd' dd) k))
