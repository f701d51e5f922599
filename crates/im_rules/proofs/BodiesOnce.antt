-- No initialiser and no statement is typed to two things.
use Rattle.std.proofs.Common.{◌≡◌, ℕ, ◌+◌, [], List, Option, refl, sym, subst}
use Rattle.im_ctree.specs.Tree as t
use Rattle.im_typed.specs.im_ctype.declared.integer.Integer.{Integer}
use Rattle.im_typed.specs.im_ctype.declared.member.MemberPlace.{MemberPlace}
use Rattle.im_typed.specs.im_ctype.Types.{CType, Member}
use Rattle.im_typed.specs.declared.statement.Case.{Case}
use Rattle.im_typed.specs.Program.{Expr, Stmt, Stmts}
use Rattle.im_rules.specs.Context.{Context}
use Rattle.im_rules.specs.Terms.{constant_in}
use Rattle.im_rules.specs.Declared.{Qualified, Declared}
use Rattle.im_rules.specs.Typed.{Typed}
use Rattle.im_rules.specs.Initialisers.{Shape, Item, completed, Initialised, initialised, Shaped, of_one, of_bytes, of_elements, of_members, Elements, no_element, an_element, InMembers, no_member, a_member}
use Rattle.im_rules.specs.Statements.{Site, Added, past, past_expression, in_loop, in_switch, in_block, with_local, behind_initializer, MayInitialise, forgets, initialises, AreLocals, no_local, a_local, TypedDeclaration, of_declaration, Labels, Cases, switch_type, value_in, label_value, with_constant, count_stmts, past_maybe, MayTest, no_test, a_test, MayStep, no_step, a_step, Begins, by_declaration, by_nothing, by_expression, TypedStatement, of_block, of_nothing, of_expression, of_if, of_while, of_do, of_for, of_switch, of_break, of_continue, of_return, of_return_value, MayBeTyped, no_else, an_else, TypedItems, no_item, a_declaration, a_statement, TypedCases, no_case, between_cases, a_labelled, Labelled, no_label, of_case, of_default}
use Rattle.im_rules.proofs.Once.{once, declares_once}

mutual
  pub initialised_once : {c : Context} {a : CType} {at : ℕ} {i : t.Initializer} {ps qs : List Item} → Initialised c a at i ps → Initialised c a at i qs → ps ≡ qs
  initialised_once (initialised m s) (initialised m' s') = shaped_once s s'

  pub shaped_once : {c : Context} {a : CType} {at : ℕ} {h : Shape} {ps qs : List Item} → Shaped c a at h ps → Shaped c a at h qs → ps ≡ qs
  shaped_once (of_one e m) (of_one e' m') = cc (once e e')
  shaped_once of_bytes of_bytes = refl
  shaped_once (of_elements s) (of_elements s') = elements_once s s'
  shaped_once (of_members s) (of_members s') = in_members_once s s'

  pub elements_once : {c : Context} {e : CType} {at : ℕ} {is : t.Initializers} {ps qs : List Item} → Elements c e at is ps → Elements c e at is qs → ps ≡ qs
  elements_once no_element no_element = refl
  elements_once (an_element i s) (an_element i' s') = cc (initialised_once i i', elements_once s s')

  pub in_members_once : {c : Context} {ms : List Member} {os : List MemberPlace} {at : ℕ} {is : t.Initializers} {ps qs : List Item} → InMembers c ms os at is ps → InMembers c ms os at is qs → ps ≡ qs
  in_members_once no_member no_member = refl
  in_members_once (a_member i s) (a_member i' s') = cc (initialised_once i i', in_members_once s s')

pub may_initialise_once : {c : Context} {n : ℕ} {a : CType} {i : t.MaybeInitializer} {u v : Stmt} → MayInitialise c n a i u → MayInitialise c n a i v → u ≡ v
may_initialise_once forgets forgets = refl
may_initialise_once (initialises i) (initialises i') = cc (initialised_once i i')

pub locals_once : {q : Qualified} {s e f : Site} {ds : t.InitDeclarators} {us vs : Stmts} {m n : Added} → AreLocals q s ds us m e → AreLocals q s ds vs n f → (us ≡ vs) × (m ≡ n) × (e ≡ f)
locals_once no_local no_local = (refl, refl, refl)
locals_once {q = q} {s = s} {f = f} (a_local {d = d} {i = i} {ds = ds} {y = y} dd m k r) (a_local {y = z} {u = v} {us = vs} {more = n} dd' m' k' r') =
    let p = sym (declares_once dd dd') in
    let g = λ (x : Declared). with_local d x (completed x.type i) s in
    let h = λ (x : Declared). MayInitialise (g x).context s.locals (completed x.type i) i v in
    let j = λ (x : Declared). AreLocals q (behind_initializer (completed x.type i) i (g x)) ds vs n f in
    let a = may_initialise_once k (subst h p k') in
    let b = locals_once r (subst j p r') in
    (cc (a, b.0), cc (p, b.1), b.2)

pub declaration_once : {s e f : Site} {d : t.Declaration} {us vs : Stmts} {m n : Added} → TypedDeclaration s d us m e → TypedDeclaration s d vs n f → (us ≡ vs) × (m ≡ n) × (e ≡ f)
declaration_once (of_declaration m l) (of_declaration m' l') = locals_once l l'

pub test_once : {s : Site} {e : t.MaybeExpression} {x y : Expr} → MayTest s e x → MayTest s e y → x ≡ y
test_once no_test no_test = refl
test_once (a_test a m) (a_test a' m') = cc (once a a')

pub step_once : {s : Site} {e : t.MaybeExpression} {x y : Expr} → MayStep s e x → MayStep s e y → x ≡ y
step_once no_step no_step = refl
step_once (a_step a) (a_step a') = cc (once a a')

pub begins_once : {s e f : Site} {i : t.ForInit} {u v : Stmt} {m n : Added} → Begins s i u m e → Begins s i v n f → (u ≡ v) × (m ≡ n) × (e ≡ f)
begins_once (by_declaration d) (by_declaration d') = let p = declaration_once d d' in (cc p.0, p.1, p.2)
begins_once by_nothing by_nothing = (refl, refl, refl)
begins_once (by_expression a) (by_expression a') = (cc (once a a'), refl, refl)

mutual
  pub statement_once : {s : Site} {a : t.Statement} {u v : Stmt} {m n : Added} → TypedStatement s a u m → TypedStatement s a v n → (u ≡ v) × (m ≡ n)
  statement_once (of_block is) (of_block is') = let p = items_once is is' in (cc p.0, p.1)
  statement_once of_nothing of_nothing = (refl, refl)
  statement_once (of_expression a) (of_expression a') = (cc (once a a'), refl)
  statement_once {s = s} (of_if {e = e} {b = b} c m a r) (of_if {v = v} {n = n} c' m' a' r') =
      let p = statement_once a a' in
      let q = maybe_once r (subst (λ k. MayBeTyped (past k (past_expression e s)) b v n) (sym p.1) r') in
      (cc (once c c', p.0, q.0), cc (p.1, q.1))
  statement_once (of_while c m a) (of_while c' m' a') = let p = statement_once a a' in (cc (once c c', p.0), cc p.1)
  statement_once {s = s} (of_do {e = e} a c m) (of_do {x = y} a' c' m') =
      let p = statement_once a a' in
      let q = once c (subst (λ k. Typed (past k s).context e y) (sym p.1) c') in
      (cc (p.0, q), cc p.1)
  statement_once (of_for {c = c} {n = n} {a = a} b x y r) (of_for {u = u₂} {x = x₂} {y = y₂} {k = k₂} b' x' y' r') =
      let p = begins_once b b' in
      let o = sym p.2 in
      let q = test_once x (subst (λ e. MayTest e c x₂) o x') in
      let w = step_once y (subst (λ e. MayStep (past_maybe c e) n y₂) o y') in
      let z = statement_once r (subst (λ e. TypedStatement (in_loop (past_maybe n (past_maybe c e))) a u₂ k₂) o r') in
      (cc (p.0, q, w, z.0), cc (p.1, z.1))
  statement_once {s = s} (of_switch {e = e} {is = is} c m k) (of_switch {k = k₂} {m = m₂} c' m' k') =
      let p = sym (once c c') in
      let q = cases_once k (subst (λ x. TypedCases (switch_type (value_in s x)) (in_switch (in_block (past_expression e s))) 0 (record { constants = []; defaults = 0 }) is k₂ m₂) p k') in
      (cc (p, q.0), cc q.1)
  statement_once (of_break m) (of_break m') = (refl, refl)
  statement_once (of_continue m) (of_continue m') = (refl, refl)
  statement_once (of_return m) (of_return m') = (refl, refl)
  statement_once (of_return_value a m) (of_return_value a' m') = (cc (once a a'), refl)

  pub maybe_once : {s : Site} {a : t.MaybeStatement} {u v : Stmt} {m n : Added} → MayBeTyped s a u m → MayBeTyped s a v n → (u ≡ v) × (m ≡ n)
  maybe_once no_else no_else = (refl, refl)
  maybe_once (an_else a) (an_else a') = statement_once a a'

  pub items_once : {s : Site} {is : t.BlockItems} {us vs : Stmts} {m n : Added} → TypedItems s is us m → TypedItems s is vs n → (us ≡ vs) × (m ≡ n)
  items_once no_item no_item = (refl, refl)
  items_once (a_declaration {is = is} d r) (a_declaration {vs = vs} {n = n} d' r') =
      let p = declaration_once d d' in
      let q = items_once r (subst (λ e. TypedItems e is vs n) (sym p.2) r') in
      (cc (p.0, q.0), cc (p.1, q.1))
  items_once {s = s} (a_statement {is = is} a r) (a_statement {us = us} {n = n} a' r') =
      let p = statement_once a a' in
      let q = items_once r (subst (λ k. TypedItems (past k s) is us n) (sym p.1) r') in
      (cc (p.0, q.0), cc (p.1, q.1))

  pub cases_once : {i : Integer} {s : Site} {n : ℕ} {before : Labels} {is : t.BlockItems} {k l : Cases} {m o : Added} → TypedCases i s n before is k m → TypedCases i s n before is l o → (k ≡ l) × (m ≡ o)
  cases_once no_case no_case = (refl, refl)
  cases_once {i = i} {n = n} {before = before} (between_cases {is = is} {us = us} d r) (between_cases {e = e₂} {us = us₂} {k = k₂} {l = l₂} d' r') =
      let p = declaration_once d d' in
      let q = cases_once r (subst (λ e. TypedCases i e (n + count_stmts us) before is k₂ l₂) (sym p.2) (subst (λ vs. TypedCases i e₂ (n + count_stmts vs) before is k₂ l₂) (sym p.0) r')) in
      (cc (p.0, q.0), cc (p.1, q.1))
  cases_once {i = i} {s = s} {n = n} (a_labelled {behind = behind} {is = is} {m = m} a r) (a_labelled {behind = behind₂} {k = k₂} {m = m₂} {l = l₂} a' r') =
      let p = labelled_once a a' in
      let q = cases_once r (subst (λ z. TypedCases i (past z s) (n + 1) behind is k₂ l₂) (sym p.4) (subst (λ b. TypedCases i (past m₂ s) (n + 1) b is k₂ l₂) (sym p.0) r')) in
      (cc (p.1, p.2, p.3, q.0), cc (p.4, q.1))

  pub labelled_once : {i : Integer} {s : Site} {n : ℕ} {before b₁ b₂ : Labels} {a : t.Statement} {u v : Stmt} {ks ls : List Case} {d e : Option ℕ} {m o : Added} → Labelled i s n before a b₁ u ks d m → Labelled i s n before a b₂ v ls e o → (b₁ ≡ b₂) × (u ≡ v) × (ks ≡ ls) × (d ≡ e) × (m ≡ o)
  labelled_once (no_label a) (no_label a') = let p = statement_once a a' in (refl, p.0, refl, refl, p.1)
  labelled_once {i = i} {s = s} {n = n} {before = before} (of_case {e = e} {a = a} x m r) (of_case {behind = b₂} {u = u₂} {ks = ks₂} {d = d₂} {m = m₂} x' m' r') =
      let p = sym (once x x') in
      let q = labelled_once r (subst (λ y. Labelled i (past_expression e s) n (with_constant (label_value i (constant_in y)) before) a b₂ u₂ ks₂ d₂ m₂) p r') in
      (q.0, q.1, cc (p, q.2), q.3, cc q.4)
  labelled_once (of_default m r) (of_default m' r') = let q = labelled_once r r' in (q.0, q.1, q.2, refl, q.4)
  labelled_once (no_label a) (of_case x' m' r') = elim a [ ]
  labelled_once (no_label a) (of_default m' r') = elim a [ ]
  labelled_once (of_case x m r) (no_label a') = elim a' [ ]
  labelled_once (of_default m r) (no_label a') = elim a' [ ]
