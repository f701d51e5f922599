-- A size that is found in what is asked of a declaration in a block or of a statement is counted by the relations.
use Rattle.std.proofs.Common.{◌≡◌, ℕ, ◌+◌, false, refl}
use Rattle.im_rules.specs.im_ctree.Tree as t
use Rattle.im_rules.specs.im_ctype.declared.integer.Integer.{Integer}
use Rattle.im_rules.specs.Declared.{Qualified, type_of_specifiers}
use Rattle.im_rules.specs.Typed.{Declares}
use Rattle.im_rules.specs.Statements.{Site, Labels, Begins, past, past_expression, past_maybe, in_block, in_loop, in_switch, behind_initializer, with_constant, with_default, switch_type, value_in, count_stmts}
use Rattle.im_rules.specs.BodyBreaks.{BodyNode, some_locals, a_declaration, a_beginning, a_statement, an_else, some_items, some_cases, a_labelled, is_label, local_declarator, begun, evaluated, if_condition, while_condition, do_condition, switched, returned, case_constant, for_condition, for_step, locals_behind, declared_locals, begun_by, block_items, first_branch, second_branch, else_statement, while_body, do_body, for_beginning, for_body, switch_block, item_declaration, behind_declaration, item_statement, behind_statement, case_declaration, cases_behind_declaration, case_statement, cases_behind_statement, unlabelled, behind_case, behind_default}
use Rattle.im_rules_limits.specs.Limits.{BodySized, of_local, size_in_part, size_in_inner, size_in_step, size_in_local_initialiser}
use Rattle.im_rules_asked.specs.Expressions.{term, declared}
use Rattle.im_rules_asked.specs.Statements.{local_type, past_local, locals_asked, past_specifiers, declaration, declaration_asked, initial_asked, test_asked, step_asked, beginning, beginning_asked, value_of_case, labels_behind, no_labels, statement, Standing, elsewhere, in_switch_of, statement_asked, else_asked, row_asked, cases_asked}
use Rattle.im_rules_asked.proofs.Right.{own}
use Rattle.im_rules_asked.proofs.Built.{built, built_declarator}
use Rattle.im_rules_asked.proofs.BuiltBodies.{built_declaration, built_beginning, built_statement, typed_of, labelled_of}
use Rattle.im_rules_asked.proofs.Faults.{a_size, Found}
use Rattle.im_rules_asked.proofs.Counting.{is_counted}
use Rattle.im_rules_asked.proofs.Finding.{nowhere, of_these, found_one, found_both, found_three, found_then}
use Rattle.im_rules_asked.proofs.SizedExpressions.{sized_expression, sized_declarator, sized_given}

-- declarations in a block

sized_initial : (q : Qualified) (s : Site) (d : t.Declarator) (i : t.MaybeInitializer) (ds : t.InitDeclarators) {n : ℕ}
    → Declares s.context q d (declared s.context q d)
    → Found (a_size n) (initial_asked (past_local q s d i).context (local_type q s d i) i)
    → BodySized s (some_locals q (t.more_init_declarators d i ds)) n
sized_initial q s d t.no_initializer ds p h = nowhere h
sized_initial q s d (t.an_initializer i) ds p h =
    size_in_local_initialiser p (sized_given (past_local q s d (t.an_initializer i)).context (local_type q s d (t.an_initializer i)) 0 i h)

sized_locals : (q : Qualified) (s : Site) (ds : t.InitDeclarators) {n : ℕ} → Found (a_size n) (locals_asked q s ds)
    → BodySized s (some_locals q ds) n
sized_locals q s t.no_init_declarators h = nowhere h
sized_locals q s (t.more_init_declarators d i ds) h =
    found_then h (λ x. size_in_inner local_declarator (sized_declarator s.context q d x))
    (λ p y. found_both y
    (λ x. of_local (built_declarator s.context q d p) (is_counted s.context.known (local_type q s d i) (of_these x)))
    (λ z. found_three z (λ x. nowhere x) (λ x. sized_initial q s d i ds (built_declarator s.context q d p) x)
    (λ x. size_in_part (locals_behind (built_declarator s.context q d p))
    (sized_locals q (behind_initializer (local_type q s d i) i (past_local q s d i)) ds x))))

sized_declaration : (s : Site) (d : t.Declaration) {n : ℕ} → Found (a_size n) (declaration_asked s d)
    → BodySized s (a_declaration d) n
sized_declaration s (t.declaration (t.specifiers at xs) ds) h =
    found_then h (λ x. nowhere x) (λ p x. size_in_part (declared_locals (own p))
    (sized_locals (type_of_specifiers s.context xs) (past_specifiers xs ds s) ds x))

-- parts of a `for`

sized_beginning : (s : Site) (i : t.ForInit) {n : ℕ} → Found (a_size n) (beginning_asked s i) → BodySized s (a_beginning i) n
sized_beginning s (t.for_declaration d) h = size_in_part begun_by (sized_declaration s d h)
sized_beginning s (t.for_expression t.no_expression) h = nowhere h
sized_beginning s (t.for_expression (t.an_expression e)) h = size_in_inner begun (sized_expression s.context e h)

abbrev BeginsSo : Site → t.ForInit → Type 0
BeginsSo s i = Begins (in_block s) i (beginning (in_block s) i).statement (beginning (in_block s) i).added (beginning (in_block s) i).site

sized_test : (s : Site) (at : ℕ) (i : t.ForInit) (c m : t.MaybeExpression) (a : t.Statement) {n : ℕ} → BeginsSo s i
    → Found (a_size n) (test_asked at (beginning (in_block s) i).site c)
    → BodySized s (a_statement (t.for_statement at i c m a)) n
sized_test s at i t.no_expression m a b h = nowhere h
sized_test s at i (t.an_expression e) m a b h =
    size_in_step (for_condition b) (sized_expression (beginning (in_block s) i).site.context e (found_one h))

sized_step : (s : Site) (at : ℕ) (i : t.ForInit) (c m : t.MaybeExpression) (a : t.Statement) {n : ℕ} → BeginsSo s i
    → Found (a_size n) (step_asked (past_maybe c (beginning (in_block s) i).site) m)
    → BodySized s (a_statement (t.for_statement at i c m a)) n
sized_step s at i c t.no_expression a b h = nowhere h
sized_step s at i c (t.an_expression e) a b h =
    size_in_step (for_step b) (sized_expression (past_maybe c (beginning (in_block s) i).site).context e h)

-- statements, each as a node of where it stands

abbrev standing_node : Standing → ℕ → t.Statement → BodyNode
standing_node elsewhere m a = a_statement a
standing_node (in_switch_of i before) m a = a_labelled i m before a

sized_so : {s : Site} {a : t.Statement} {n : ℕ} (p : Standing) (m : ℕ) → is_label a ≡ false → BodySized s (a_statement a) n
    → BodySized s (standing_node p m a) n
sized_so elsewhere m l h = h
sized_so (in_switch_of i before) m l h = size_in_part (unlabelled l) h

mutual
  sized_statement : (s : Site) (p : Standing) (m : ℕ) (a : t.Statement) {n : ℕ} → Found (a_size n) (statement_asked s p a)
      → BodySized s (standing_node p m a) n
  sized_statement s p m (t.block_statement at (t.block at' is)) h =
      sized_so p m refl (size_in_part block_items (sized_row (in_block s) is h))
  sized_statement s p m (t.expression_statement at t.no_expression) h = nowhere h
  sized_statement s p m (t.expression_statement at (t.an_expression e)) h =
      sized_so p m refl (size_in_inner evaluated (sized_expression s.context e h))
  sized_statement s p m (t.if_statement at e a b) h =
      sized_so p m refl (found_both h (λ x. size_in_inner if_condition (sized_expression s.context e (found_one x)))
      (λ y. found_then y (λ x. size_in_part first_branch (sized_statement (past_expression e s) elsewhere 0 a x))
      (λ r x. size_in_part (second_branch (typed_of (built_statement (past_expression e s) elsewhere a r)))
      (sized_else (past (statement (past_expression e s) a).added (past_expression e s)) b x))))
  sized_statement s p m (t.while_statement at e a) h =
      sized_so p m refl (found_both h (λ x. size_in_inner while_condition (sized_expression s.context e (found_one x)))
      (λ x. size_in_part while_body (sized_statement (in_loop (past_expression e s)) elsewhere 0 a x)))
  sized_statement s p m (t.do_statement at a e) h =
      sized_so p m refl (found_then h (λ x. size_in_part do_body (sized_statement (in_loop s) elsewhere 0 a x))
      (λ r x. size_in_inner (do_condition (typed_of (built_statement (in_loop s) elsewhere a r)))
      (sized_expression (past (statement (in_loop s) a).added s).context e (found_one x))))
  sized_statement s p m (t.for_statement at i c k a) h =
      sized_so p m refl (found_then h (λ x. size_in_part for_beginning (sized_beginning (in_block s) i x))
      (λ r y. found_three y (λ x. sized_test s at i c k a (built_beginning (in_block s) i r) x)
      (λ x. sized_step s at i c k a (built_beginning (in_block s) i r) x)
      (λ x. size_in_part (for_body (built_beginning (in_block s) i r))
      (sized_statement (in_loop (past_maybe k (past_maybe c (beginning (in_block s) i).site))) elsewhere 0 a x))))
  sized_statement s p m (t.switch_statement at e (t.block at' is)) h =
      sized_so p m refl (found_then h (λ x. size_in_inner switched (sized_expression s.context e x))
      (λ r y. found_both y (λ x. nowhere x) (λ x. size_in_part (switch_block (built s.context e r))
      (sized_cases (switch_type (value_in s (term s.context e))) (in_switch (in_block (past_expression e s))) 0 no_labels is x))))
  sized_statement s elsewhere m (t.case_statement at e a) h = nowhere h
  sized_statement s (in_switch_of i before) m (t.case_statement at e a) h =
      found_then h (λ x. size_in_inner case_constant (sized_expression s.context e x))
      (λ r y. found_both y (λ x. nowhere x) (λ x. size_in_part (behind_case (built s.context e r))
      (sized_statement (past_expression e s) (in_switch_of i (with_constant (value_of_case i s e) before)) m a x)))
  sized_statement s elsewhere m (t.default_statement at a) h = nowhere h
  sized_statement s (in_switch_of i before) m (t.default_statement at a) h =
      found_both h (λ x. nowhere x) (λ x. size_in_part behind_default (sized_statement s (in_switch_of i (with_default before)) m a x))
  sized_statement s p m (t.break_statement at) h = nowhere h
  sized_statement s p m (t.continue_statement at) h = nowhere h
  sized_statement s p m (t.return_statement at t.no_expression) h = nowhere h
  sized_statement s p m (t.return_statement at (t.an_expression e)) h =
      sized_so p m refl (size_in_inner returned (sized_expression s.context e (found_one h)))

  sized_else : (s : Site) (b : t.MaybeStatement) {n : ℕ} → Found (a_size n) (else_asked s b) → BodySized s (an_else b) n
  sized_else s t.no_statement h = nowhere h
  sized_else s (t.a_statement a) h = size_in_part else_statement (sized_statement s elsewhere 0 a h)

  pub sized_row : (s : Site) (is : t.BlockItems) {n : ℕ} → Found (a_size n) (row_asked s is) → BodySized s (some_items is) n
  sized_row s t.no_items h = nowhere h
  sized_row s (t.declaration_item d is) h =
      found_then h (λ x. size_in_part item_declaration (sized_declaration s d x))
      (λ r x. size_in_part (behind_declaration (built_declaration s d r)) (sized_row (declaration s d).site is x))
  sized_row s (t.statement_item a is) h =
      found_then h (λ x. size_in_part item_statement (sized_statement s elsewhere 0 a x))
      (λ r x. size_in_part (behind_statement (typed_of (built_statement s elsewhere a r))) (sized_row (past (statement s a).added s) is x))

  sized_cases : (i : Integer) (s : Site) (m : ℕ) (before : Labels) (is : t.BlockItems) {n : ℕ}
      → Found (a_size n) (cases_asked i s before is) → BodySized s (some_cases i m before is) n
  sized_cases i s m before t.no_items h = nowhere h
  sized_cases i s m before (t.declaration_item d is) h =
      found_then h (λ x. size_in_part case_declaration (sized_declaration s d x))
      (λ r x. size_in_part (cases_behind_declaration (built_declaration s d r))
      (sized_cases i (declaration s d).site (m + count_stmts (declaration s d).statements) before is x))
  sized_cases i s m before (t.statement_item a is) h =
      found_then h (λ x. size_in_part case_statement (sized_statement s (in_switch_of i before) m a x))
      (λ r x. size_in_part (cases_behind_statement (labelled_of (built_statement s (in_switch_of i before) a r) m))
      (sized_cases i (past (statement s a).added s) (m + 1) (labels_behind i s before a) is x))
