-- Of an initialiser, a statement or a block that is typed, all that is asked is so.
use Rattle.std.proofs.Common.{◌≡◌, ℕ, List, Option, refl, sym, subst, ap, Bool, true, false}
use Rattle.std.specs.Prelude.{if◌then◌else◌}
use Rattle.im_rules.specs.im_ctree.Tree as t
use Rattle.im_rules.specs.im_typed.declared.statement.Case.{Case}
use Rattle.im_rules.specs.im_ctype.declared.integer.Integer.{Integer}
use Rattle.im_rules.specs.im_ctype.declared.member.MemberPlace.{MemberPlace}
use Rattle.im_rules.specs.im_ctype.Types.{CType, void, integer, pointer, array, unsized, struct, function, Member}
use Rattle.im_rules.specs.im_typed.Program.{Stmt, Stmts, Expr}
use Rattle.im_rules.specs.Rules.{is_string_for}
use Rattle.im_rules.specs.Outline.{is_initialised}
use Rattle.im_rules.specs.Context.{Context}
use Rattle.im_rules.specs.Terms.{constant_in}
use Rattle.im_rules.specs.Declared.{Qualified, Declared}
use Rattle.im_rules.specs.Initialisers.{Shape, one, bytes, elements, members, misshapen, shape, string_shape, element_shape, Item, value_asks, completed, Initialised, initialised, Shaped, of_one as one_shaped, of_bytes, of_elements, of_members, Elements, no_element, an_element, InMembers, no_member, a_member}
use Rattle.im_rules.specs.Statements.{Site, Added, past, past_expression, past_maybe, in_block, in_loop, in_switch, with_local, local_asks, behind_initializer, condition_asks, switch_asks, return_value_asks, case_asks, with_constant, label_value, Labels, Cases, switch_type, value_in, MayInitialise, forgets, initialises, AreLocals, no_local, a_local, TypedDeclaration, of_declaration, MayTest, no_test, a_test, MayStep, no_step, a_step, Begins, by_declaration, by_nothing, by_expression, TypedStatement, of_block, of_nothing, of_expression, of_if, of_while, of_do, of_for, of_switch, of_break, of_continue, of_return, of_return_value, MayBeTyped, no_else, an_else, TypedItems, no_item, a_declaration, a_statement, TypedCases, no_case, between_cases, a_labelled, Labelled, no_label, of_case, of_default}
use Rattle.im_rules.proofs.BodiesOnce.{declaration_once, begins_once, statement_once, labelled_once}
use Rattle.im_rules_asked.specs.Asked.{both, only, beside}
use Rattle.im_rules_asked.specs.Initialisers.{side_by_side, in_order, places_in, misplaced, shaped_asked, items_asked, among_asked}
use Rattle.im_rules_asked.specs.Statements.{initial_asked, locals_asked, declaration, declaration_asked, condition_asked, test_asked, step_asked, beginning, beginning_asked, no_labels, statement, labels_behind, Standing, elsewhere, in_switch_of, statement_asked, else_asked, row_asked, cases_asked}
use Rattle.im_rules_asked.proofs.Right.{Right, of_node, of_none, of_one, of_both, of_first, of_beside, of_sizes, met_1}
use Rattle.im_rules_asked.proofs.Terms.{term_of, declared_of}
use Rattle.im_rules_asked.proofs.Rightness.{rightly, declarator_rightly}
use Rattle.im_rules_asked.proofs.BuiltBodies.{list_of, shape_list, built_declaration, built_beginning, built_statement, typed_of, labelled_of}

-- initialisers

abbrev pub is_list : Shape → Bool
is_list (elements e is) = true
is_list (members n is) = true
is_list (one e) = false
is_list (bytes e s) = false
is_list misshapen = false

pub no_elements : {s : Shape} {e : CType} {is : t.Initializers} → is_list s ≡ false → s ≡ elements e is
    → ⊥
no_elements p q = cc (p, ap is_list q)

pub no_members : {s : Shape} {n : ℕ} {is : t.Initializers} → is_list s ≡ false → s ≡ members n is → ⊥
no_members p q = cc (p, ap is_list q)

string_no_list : (e : CType) (x : t.Expression)
    → is_list (string_shape e (t.value_initializer x)) ≡ false
string_no_list e (t.string_literal at s) = refl
string_no_list e x = refl

array_no_list : (b : Bool) (e : CType) (x : t.Expression)
    → is_list (if b then string_shape e (t.value_initializer x) else element_shape e
    (t.value_initializer x)) ≡ false
array_no_list true e x = string_no_list e x
array_no_list false e x = refl

pub value_no_list : (a : CType) (x : t.Expression)
    → is_list (shape a (t.value_initializer x)) ≡ false
value_no_list void x = refl
value_no_list (integer i) x = refl
value_no_list (pointer c a) x = refl
value_no_list (array e n) x = array_no_list (is_string_for (array e n) (t.value_initializer x)) e x
value_no_list (unsized e) x = refl
value_no_list (struct n) x = refl
value_no_list (function r ps) x = refl

value_right : {c : Context} {a : CType} {at : ℕ} {s : Shape} {ps : List Item} (token other : ℕ)
    → Shaped c a at s ps → is_list s ≡ false → Right (shaped_asked c a token s (misplaced other))
value_right {a = a} token other (one_shaped d m) p =
    of_node (of_one (rightly d)) (met_1 (λ x. value_asks a x) (term_of d) m)
value_right token other of_bytes p = of_node of_none tt
value_right token other (of_elements s) p = absurd (cc)
value_right token other (of_members s) p = absurd (cc)

mutual
  pub items_right : {c : Context} {a : CType} {at : ℕ} {i : t.Initializer} {ps : List Item}
      → Initialised c a at i ps → Right (items_asked c a i)
  items_right {a = a} (initialised {i = t.value_initializer e} m s) =
      of_node (of_both (of_node of_none m) (value_right _ _ s (value_no_list a e))) tt
  items_right {a = a} (initialised {i = t.braced_initializer k is} m s) =
      of_node (of_both (of_node of_none m) (braced_right k is s (shape_list a k is))) tt

  pub braced_right : {c : Context} {a : CType} {at : ℕ} {s : Shape} {ps : List Item} (token : ℕ)
      (is : t.Initializers) → Shaped c a at s ps → list_of s is ≡ is
      → Right (shaped_asked c a token s (among_asked c (places_in c.known s) is))
  braced_right {a = a} token is (one_shaped d m) p =
      of_node (of_one (rightly d)) (met_1 (λ x. value_asks a x) (term_of d) m)
  braced_right token is of_bytes p = of_node of_none tt
  braced_right {c = c} token is (of_elements {e = e} s) p =
      subst (λ ks. Right (among_asked c (side_by_side e) ks)) p (elements_right s)
  braced_right {c = c} token is (of_members {n = n} s) p =
      subst (λ ks. Right (among_asked c (places_in c.known (members n ks)) ks)) p (members_right s)

  pub elements_right : {c : Context} {e : CType} {at : ℕ} {is : t.Initializers} {ps : List Item}
      → Elements c e at is ps → Right (among_asked c (side_by_side e) is)
  elements_right no_element = of_node of_none tt
  elements_right (an_element i s) = of_node (of_both (items_right i) (elements_right s)) tt

  pub members_right : {c : Context} {ms : List Member} {os : List MemberPlace} {at : ℕ}
      {is : t.Initializers} {ps : List Item} → InMembers c ms os at is ps
      → Right (among_asked c (in_order ms os) is)
  members_right no_member = of_node of_none tt
  members_right (a_member i s) = of_node (of_both (items_right i) (members_right s)) tt

-- declarations in a block

pub initial_right : {c : Context} {n : ℕ} {a : CType} {i : t.MaybeInitializer} {u : Stmt}
    → MayInitialise c n a i u → Right (initial_asked c a i)
initial_right forgets = of_node of_none tt
initial_right (initialises k) = items_right k

pub locals_right : {q : Qualified} {s e : Site} {ds : t.InitDeclarators} {us : Stmts} {m : Added}
    → AreLocals q s ds us m e → Right (locals_asked q s ds)
locals_right no_local = of_node of_none tt
locals_right {q = q} {s = s} (a_local {d = d} {i = i} {ds = ds} dd m k r) =
    of_node (of_first (declarator_rightly dd) (of_node (of_both of_sizes
    (of_node (of_beside (of_both (of_node of_none
    (met_1 {A = Declared} (λ y. local_asks s y (completed y.type i) (is_initialised i))
    (declared_of dd) m))
    (subst {A = Declared} (λ y. Right (initial_asked (with_local d y (completed y.type i) s).context
    (completed y.type i) i)) (sym (declared_of dd)) (initial_right k)))
    (subst {A = Declared} (λ y. Right (locals_asked q
    (behind_initializer (completed y.type i) i (with_local d y (completed y.type i) s)) ds))
    (sym (declared_of dd)) (locals_right r))) tt)) tt)) tt

pub declaration_right : {s e : Site} {d : t.Declaration} {us : Stmts} {m : Added}
    → TypedDeclaration s d us m e → Right (declaration_asked s d)
declaration_right (of_declaration m l) = of_node (of_first (of_node of_none m) (locals_right l)) tt

-- parts of statements

test_right : {s : Site} {e : t.MaybeExpression} {x : Expr} (at : ℕ) → MayTest s e x
    → Right (test_asked at s e)
test_right at no_test = of_node of_none tt
test_right at (a_test d m) =
    of_node (of_one (rightly d)) (met_1 (λ x. condition_asks x) (term_of d) m)

step_right : {s : Site} {e : t.MaybeExpression} {x : Expr} → MayStep s e x → Right (step_asked s e)
step_right no_step = of_node of_none tt
step_right (a_step d) = rightly d

pub beginning_right : {s e : Site} {i : t.ForInit} {u : Stmt} {m : Added} → Begins s i u m e
    → Right (beginning_asked s i)
beginning_right (by_declaration d) = declaration_right d
beginning_right by_nothing = of_node of_none tt
beginning_right (by_expression d) = rightly d

-- what stands behind these is the same

pub added_of : {s : Site} {a : t.Statement} {u : Stmt} {m : Added} → TypedStatement s a u m
    → Right (statement_asked s elsewhere a) → m ≡ (statement s a).added
added_of {s = s} {a = a} d h = (statement_once d (typed_of (built_statement s elsewhere a h))).1

pub site_of : {s e : Site} {d : t.Declaration} {us : Stmts} {m : Added}
    → TypedDeclaration s d us m e → Right (declaration_asked s d) → e ≡ (declaration s d).site
site_of {s = s} {d = d} k h = (declaration_once k (built_declaration s d h)).2

pub begun_of : {s e : Site} {i : t.ForInit} {u : Stmt} {m : Added} → Begins s i u m e
    → Right (beginning_asked s i) → e ≡ (beginning s i).site
begun_of {s = s} {i = i} b h = (begins_once b (built_beginning s i h)).2

-- statements

mutual
  pub statement_right : {s : Site} {a : t.Statement} {u : Stmt} {m : Added} → TypedStatement s a u m
      → (p : Standing) → Right (statement_asked s p a)
  statement_right (of_block is) p = row_right is
  statement_right of_nothing p = of_node of_none tt
  statement_right (of_expression d) p = rightly d
  statement_right {s = s} (of_if {e = e} {b = b} c m a r) p =
      of_node (of_both (of_node (of_one (rightly c)) (met_1 (λ x. condition_asks x) (term_of c) m))
      (of_node (of_first (statement_right a elsewhere)
      (subst (λ k. Right (else_asked (past k (past_expression e s)) b))
      (added_of a (statement_right a elsewhere)) (else_right r))) tt)) tt
  statement_right (of_while c m a) p =
      of_node (of_both (of_node (of_one (rightly c)) (met_1 (λ x. condition_asks x) (term_of c) m))
      (statement_right a elsewhere)) tt
  statement_right {s = s} (of_do {at = at} {e = e} a c m) p =
      of_node (of_first (statement_right a elsewhere)
      (subst (λ k. Right (condition_asked at (past k s) e))
      (added_of a (statement_right a elsewhere))
      (of_node (of_one (rightly c)) (met_1 (λ x. condition_asks x) (term_of c) m)))) tt
  statement_right (of_for {at = at} {c = c} {n = n} {a = a} b x y r) p =
      of_node (of_first (beginning_right b)
      (subst (λ z. Right (only (beside (both (test_asked at z c) (step_asked (past_maybe c z) n))
      (statement_asked (in_loop (past_maybe n (past_maybe c z))) elsewhere a))))
      (begun_of b (beginning_right b))
      (of_node (of_beside (of_both (test_right at x) (step_right y))
      (statement_right r elsewhere)) tt))) tt
  statement_right {s = s} (of_switch {e = e} {is = is} c m k) p =
      of_node (of_first (rightly c)
      (of_node (of_both (of_node of_none (met_1 (λ x. switch_asks x) (term_of c) m))
      (subst (λ x. Right (cases_asked (switch_type (value_in s x))
      (in_switch (in_block (past_expression e s))) no_labels is)) (sym (term_of c))
      (cases_right k))) tt)) tt
  statement_right (of_break m) p = of_node of_none m
  statement_right (of_continue m) p = of_node of_none m
  statement_right (of_return m) p = of_node of_none m
  statement_right {s = s} (of_return_value d m) p =
      of_node (of_one (rightly d)) (met_1 (λ x. return_value_asks s.result x) (term_of d) m)

  pub else_right : {s : Site} {b : t.MaybeStatement} {u : Stmt} {m : Added} → MayBeTyped s b u m
      → Right (else_asked s b)
  else_right no_else = of_node of_none tt
  else_right (an_else a) = statement_right a elsewhere

  pub row_right : {s : Site} {is : t.BlockItems} {us : Stmts} {m : Added} → TypedItems s is us m
      → Right (row_asked s is)
  row_right no_item = of_node of_none tt
  row_right (a_declaration {is = is} d r) =
      of_node (of_first (declaration_right d) (subst (λ e. Right (row_asked e is))
      (site_of d (declaration_right d)) (row_right r))) tt
  row_right {s = s} (a_statement {is = is} a r) =
      of_node (of_first (statement_right a elsewhere)
      (subst (λ k. Right (row_asked (past k s) is)) (added_of a (statement_right a elsewhere))
      (row_right r))) tt

  pub cases_right : {i : Integer} {s : Site} {n : ℕ} {before : Labels} {is : t.BlockItems}
      {k : Cases} {m : Added} → TypedCases i s n before is k m → Right (cases_asked i s before is)
  cases_right no_case = of_node of_none tt
  cases_right {i = i} {before = before} (between_cases {is = is} d r) =
      of_node (of_first (declaration_right d) (subst (λ e. Right (cases_asked i e before is))
      (site_of d (declaration_right d)) (cases_right r))) tt
  cases_right {i = i} {s = s} {n = n} {before = before} (a_labelled {a = a} {is = is} {m = m} l r) =
      let h = labelled_right l in
      let q = labelled_once l (labelled_of (built_statement s (in_switch_of i before) a h) n) in
      of_node (of_first h (subst (λ k. Right (cases_asked i (past k s)
      (labels_behind i s before a) is)) q.4 (subst (λ b. Right (cases_asked i (past m s) b is)) q.0
      (cases_right r)))) tt

  pub labelled_right : {i : Integer} {s : Site} {n : ℕ} {before behind : Labels} {a : t.Statement}
      {u : Stmt} {ks : List Case} {d : Option ℕ} {m : Added}
      → Labelled i s n before a behind u ks d m
      → Right (statement_asked s (in_switch_of i before) a)
  labelled_right {i = i} {before = before} (no_label a) = statement_right a (in_switch_of i before)
  labelled_right {i = i} {s = s} {before = before} (of_case {e = e} {a = a} x m r) =
      of_node (of_first (rightly x)
      (of_node (of_both (of_node of_none (met_1 (λ y. case_asks i y before) (term_of x) m))
      (subst (λ y. Right (statement_asked (past_expression e s)
      (in_switch_of i (with_constant (label_value i (constant_in y)) before)) a)) (sym (term_of x))
      (labelled_right r))) tt)) tt
  labelled_right (of_default m r) = of_node (of_both (of_node of_none m) (labelled_right r)) tt
