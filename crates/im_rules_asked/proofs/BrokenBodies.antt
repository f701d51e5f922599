-- The first fault of what is asked of an initialiser, a statement or a block is one by the relations.
use Rattle.std.proofs.Common.{◌≡◌, ◌∙◌, ◌≤◌, ℕ, ◌+◌, true, false, List, [], ◌∷◌, length, refl, sym, subst, arith}
use Rattle.im_rules.specs.im_ctree.Tree as t
use Rattle.im_rules.specs.im_ctype.declared.integer.Integer.{Integer}
use Rattle.im_rules.specs.im_ctype.declared.member.MemberPlace.{MemberPlace}
use Rattle.im_rules.specs.im_ctype.Types.{CType, Member, members_of}
use Rattle.im_rules.specs.im_ctype.Members.{places}
use Rattle.im_rules.specs.Rules.{initializer_count}
use Rattle.im_rules.specs.Outline.{is_initialised}
use Rattle.im_rules.specs.Context.{Context, behind_strings}
use Rattle.im_rules.specs.Terms.{size_in}
use Rattle.im_rules.specs.Demands.{Meets}
use Rattle.im_rules.specs.Declared.{Qualified, type_of_specifiers}
use Rattle.im_rules.specs.Typed.{Declares}
use Rattle.im_rules.specs.Initialisers.{Shape, one, bytes, elements, members, misshapen, shape, shape_asks, strings_given}
use Rattle.im_rules.specs.Statements.{Site, Labels, Begins, local_asks, past, past_expression, past_maybe, in_block, in_loop, in_switch, behind_initializer, with_constant, with_default, switch_type, value_in, count_stmts}
use Rattle.im_rules.specs.BodyBreaks.{Given, an_initialiser, some_elements, some_members, GivenBreaks, at_shape, at_value, initialiser_token, given_token, GivenBroken, here_given, in_value, in_elements, in_members, first_element, other_elements, first_member, other_members, BodyNode, some_locals, a_declaration, a_beginning, a_statement, an_else, some_items, some_cases, a_labelled, BodyBreaks, at_local, at_declared, at_if, at_while, at_do, at_for, at_switch, at_break, at_continue, at_return, at_return_value, at_stray_case, at_stray_default, at_case, at_default, is_label, local_declarator, begun, evaluated, if_condition, while_condition, do_condition, switched, returned, case_constant, for_condition, for_step, locals_behind, declared_locals, begun_by, block_items, first_branch, second_branch, else_statement, while_body, do_body, for_beginning, for_body, switch_block, item_declaration, behind_declaration, item_statement, behind_statement, case_declaration, cases_behind_declaration, case_statement, cases_behind_statement, unlabelled, behind_case, behind_default, body_token, BodyBroken, here_in_body, within_body, in_inner, in_step, in_local_initialiser}
use Rattle.im_rules_asked.specs.Asked.{Asked}
use Rattle.im_rules_asked.specs.Expressions.{term, declared}
use Rattle.im_rules_asked.specs.Initialisers.{side_by_side, in_order, places_in, misplaced, shaped_asked, items_asked, among_asked}
use Rattle.im_rules_asked.specs.Statements.{local_type, past_local, locals, locals_asked, past_specifiers, declaration, declaration_asked, initial_asked, test_asked, step_asked, beginning, beginning_asked, value_of_case, labels_behind, no_labels, statement, Standing, elsewhere, in_switch_of, statement_asked, else_asked, row_asked, cases_asked}
use Rattle.im_rules_asked.proofs.Right.{own}
use Rattle.im_rules_asked.proofs.Built.{built, built_declarator}
use Rattle.im_rules_asked.proofs.BuiltBodies.{list_of, shape_list, built_declaration, built_beginning, built_statement, typed_of, labelled_of}
use Rattle.im_rules_asked.proofs.RightBodies.{no_elements, no_members, value_no_list}
use Rattle.im_rules_asked.proofs.WholeStructs.{AreWhole, IsWhole, is_fit, complete_fit, elements_fit, members_few, places_many, has_shape}
use Rattle.im_rules_asked.proofs.Foremost.{Foremost, none_asked, none_sized, of_leaf, only_rule, of_one, of_both, of_each, of_first}
use Rattle.im_rules_asked.proofs.BrokenExpressions.{broken_expression, broken_declarator}

-- initialisers

given_at : {c : Context} {g : Given} {r k : ℕ} → given_token g ≡ k → GivenBreaks c r g → GivenBroken c g r k
given_at {c = c} {g = g} {r = r} p b = subst (λ z. GivenBroken c g r z) p (here_given b)

broken_one : (c : Context) (a : CType) (at token : ℕ) (i : t.Initializer) {r k : ℕ} (e : t.Expression) (inner : Asked)
    → initialiser_token i ≡ token → shape a i ≡ one e
    → Foremost r k (shaped_asked c a token (one e) inner)
    → GivenBroken c (an_initialiser a at i) r k
broken_one c a at token i e inner w p h =
    of_one h (λ q x y. given_at (w ∙ q) (at_value p (built c e x) y)) (λ x. in_value p (broken_expression c e x))

broken_value : (c : Context) (a : CType) (at other : ℕ) (e : t.Expression) {r k : ℕ} (s : Shape)
    → shape a (t.value_initializer e) ≡ s
    → (shape a (t.value_initializer e) ≡ misshapen → ⊥)
    → Foremost r k (shaped_asked c a (initialiser_token (t.value_initializer e)) s (misplaced other))
    → GivenBroken c (an_initialiser a at (t.value_initializer e)) r k
broken_value c a at other e (one x) p f h =
    broken_one c a at (initialiser_token (t.value_initializer e)) (t.value_initializer e) x (misplaced other) refl p h
broken_value c a at other e (bytes x s) p f h = none_asked h
broken_value c a at other e (elements x is) p f h = absurd (no_elements (value_no_list a e) p)
broken_value c a at other e (members m is) p f h = absurd (no_members (value_no_list a e) p)
broken_value c a at other e misshapen p f h = absurd (f p)

broken_braces : (c : Context) (a : CType) (at token : ℕ) (is : t.Initializers) {r k : ℕ} (s : Shape)
    → shape a (t.braced_initializer token is) ≡ s
    → list_of s is ≡ is
    → Meets (shape_asks c.known a (t.braced_initializer token is))
    → (shape a (t.braced_initializer token is) ≡ misshapen → ⊥)
    → ((e : CType) (js : t.Initializers) → shape a (t.braced_initializer token is) ≡ elements e js
    → Foremost r k (among_asked c (side_by_side e) is) → GivenBroken c (some_elements e at is) r k)
    → ((m : ℕ) (js : t.Initializers) → shape a (t.braced_initializer token is) ≡ members m js
    → Foremost r k (among_asked c (in_order (members_of c.known m) (places c.known m)) is)
    → GivenBroken c (some_members (members_of c.known m) (places c.known m) at is) r k)
    → Foremost r k (shaped_asked c a token s (among_asked c (places_in c.known s) is))
    → GivenBroken c (an_initialiser a at (t.braced_initializer token is)) r k
broken_braces c a at token is (one e) p q m f g l h =
    broken_one c a at token (t.braced_initializer token is) e (among_asked c (places_in c.known (one e)) is) refl p h
broken_braces c a at token is (bytes e s) p q m f g l h = none_asked h
broken_braces c a at token is {r = r} {k = k} (elements e js) p q m f g l h =
    in_elements m p (subst (λ z. GivenBroken c (some_elements e at z) r k) (sym q) (g e js p h))
broken_braces c a at token is {r = r} {k = k} (members n js) p q m f g l h =
    in_members m p (subst (λ z. GivenBroken c (some_members (members_of c.known n) (places c.known n) at z) r k) (sym q) (l n js p h))
broken_braces c a at token is misshapen p q m f g l h = absurd (f p)

mutual
  pub broken_given : (c : Context) (a : CType) (at : ℕ) (i : t.Initializer) {r k : ℕ} → IsWhole c.known
      → is_fit (length c.known) a ≡ true
      → Foremost r k (items_asked c a i) → GivenBroken c (an_initialiser a at i) r k
  broken_given c a at (t.value_initializer e) w f h =
      of_both h (λ x. let l = of_leaf x in given_at l.0 (at_shape l.1))
      (λ m x. broken_value c a at _ e (shape a (t.value_initializer e)) refl
      (λ p. has_shape c.known (length c.known) a (t.value_initializer e) f (own m).0 p) x)
  broken_given c a at (t.braced_initializer k is) w f h =
      of_both h (λ x. let l = of_leaf x in given_at l.0 (at_shape l.1))
      (λ m x. broken_braces c a at k is (shape a (t.braced_initializer k is)) refl (shape_list a k is) (own m)
      (λ p. has_shape c.known (length c.known) a (t.braced_initializer k is) f (own m).0 p)
      (λ e js p y. broken_elements c e at is w (elements_fit (length c.known) a k is js e p f) y)
      (λ n js p y. broken_members c (members_of c.known n) (places c.known n) at is w (w n)
      (members_few c.known a k is js n p (own m).0) (places_many c.known n) y) x)

  broken_elements : (c : Context) (e : CType) (at : ℕ) (is : t.Initializers) {r k : ℕ} → IsWhole c.known
      → is_fit (length c.known) e ≡ true
      → Foremost r k (among_asked c (side_by_side e) is) → GivenBroken c (some_elements e at is) r k
  broken_elements c e at t.no_initializers w f h = none_asked h
  broken_elements c e at (t.more_initializers i is) w f h =
      of_both h (λ x. first_element (broken_given c e at i w f x))
      (λ p x. other_elements (broken_elements (behind_strings (strings_given c.known e i) c) e (at + size_in c.known e) is w f x))

  broken_members : (c : Context) (ms : List Member) (os : List MemberPlace) (at : ℕ) (is : t.Initializers) {r k : ℕ}
      → IsWhole c.known
      → AreWhole (length c.known) ms
      → initializer_count is ≤ length ms
      → length os ≡ length ms
      → Foremost r k (among_asked c (in_order ms os) is) → GivenBroken c (some_members ms os at is) r k
  broken_members c ms os at t.no_initializers w v few many h = none_asked h
  broken_members c (m ∷ ms) (o ∷ os) at (t.more_initializers i is) w v few many h =
      of_both h (λ x. first_member (broken_given c m.type (at + o.offset) i w (complete_fit (length c.known) m.type v.0) x))
      (λ p x. other_members (broken_members (behind_strings (strings_given c.known m.type i) c) ms os at is w v.1
      (omega (arith, few)) (omega (arith, many)) x))
  broken_members c [] os at (t.more_initializers i is) w v few many h = absurd (omega (arith, few))
  broken_members c (m ∷ ms) [] at (t.more_initializers i is) w v few many h = absurd (omega (arith, many))

-- declarations in a block

body_at : {s : Site} {n : BodyNode} {r k : ℕ} → body_token n ≡ k → BodyBreaks s r n → BodyBroken s n r k
body_at {s = s} {n = n} {r = r} p b = subst (λ z. BodyBroken s n r z) p (here_in_body b)

broken_initial : (q : Qualified) (s : Site) (d : t.Declarator) (i : t.MaybeInitializer) (ds : t.InitDeclarators) {r k : ℕ}
    → IsWhole s.context.known
    → Declares s.context q d (declared s.context q d)
    → Meets (local_asks s (declared s.context q d) (local_type q s d i) (is_initialised i))
    → Foremost r k (initial_asked (past_local q s d i).context (local_type q s d i) i)
    → BodyBroken s (some_locals q (t.more_init_declarators d i ds)) r k
broken_initial q s d t.no_initializer ds w p m h = none_asked h
broken_initial q s d (t.an_initializer i) ds w p m h =
    in_local_initialiser p (broken_given (past_local q s d (t.an_initializer i)).context (local_type q s d (t.an_initializer i)) 0 i w
    (complete_fit (length s.context.known) (local_type q s d (t.an_initializer i)) m.1.1.1.0) h)

broken_locals : (q : Qualified) (s : Site) (ds : t.InitDeclarators) {r k : ℕ} → IsWhole s.context.known
    → Foremost r k (locals_asked q s ds) → BodyBroken s (some_locals q ds) r k
broken_locals q s t.no_init_declarators w h = none_asked h
broken_locals q s (t.more_init_declarators d i ds) w h =
    of_first h (λ x. in_inner local_declarator (broken_declarator s.context q d x))
    (λ p y. of_both y (λ x. none_sized x)
    (λ e z. of_each z (λ x. let l = of_leaf x in body_at l.0 (at_local (built_declarator s.context q d p) l.1))
    (λ m x. broken_initial q s d i ds w (built_declarator s.context q d p) (own m) x)
    (λ m n x. within_body (locals_behind (built_declarator s.context q d p))
    (broken_locals q (behind_initializer (local_type q s d i) i (past_local q s d i)) ds w x))))

broken_declaration : (s : Site) (d : t.Declaration) {r k : ℕ} → IsWhole s.context.known
    → Foremost r k (declaration_asked s d) → BodyBroken s (a_declaration d) r k
broken_declaration s (t.declaration (t.specifiers at xs) ds) w h =
    of_first h (λ x. let l = of_leaf x in body_at l.0 (at_declared l.1)) (λ p x. within_body (declared_locals (own p))
    (broken_locals (type_of_specifiers s.context xs) (past_specifiers xs ds s) ds w x))

-- no list of members ends in a body

locals_known : (q : Qualified) (s : Site) (ds : t.InitDeclarators) → s.context.known ≡ (locals q s ds).site.context.known
locals_known q s t.no_init_declarators = refl
locals_known q s (t.more_init_declarators d i ds) =
    locals_known q (behind_initializer (local_type q s d i) i (past_local q s d i)) ds

declaration_known : (s : Site) (d : t.Declaration) → s.context.known ≡ (declaration s d).site.context.known
declaration_known s (t.declaration (t.specifiers at xs) ds) =
    locals_known (type_of_specifiers s.context xs) (past_specifiers xs ds s) ds

beginning_known : (s : Site) (i : t.ForInit) → s.context.known ≡ (beginning s i).site.context.known
beginning_known s (t.for_declaration d) = declaration_known s d
beginning_known s (t.for_expression t.no_expression) = refl
beginning_known s (t.for_expression (t.an_expression e)) = refl

declaration_whole : (s : Site) (d : t.Declaration) → IsWhole s.context.known → IsWhole (declaration s d).site.context.known
declaration_whole s d w = subst (λ z. IsWhole z) (declaration_known s d) w

beginning_whole : (s : Site) (i : t.ForInit) → IsWhole s.context.known → IsWhole (beginning s i).site.context.known
beginning_whole s i w = subst (λ z. IsWhole z) (beginning_known s i) w

-- parts of a `for`

broken_beginning : (s : Site) (i : t.ForInit) {r k : ℕ} → IsWhole s.context.known
    → Foremost r k (beginning_asked s i) → BodyBroken s (a_beginning i) r k
broken_beginning s (t.for_declaration d) w h = within_body begun_by (broken_declaration s d w h)
broken_beginning s (t.for_expression t.no_expression) w h = none_asked h
broken_beginning s (t.for_expression (t.an_expression e)) w h = in_inner begun (broken_expression s.context e h)

abbrev BeginsSo : Site → t.ForInit → Type 0
BeginsSo s i = Begins (in_block s) i (beginning (in_block s) i).statement (beginning (in_block s) i).added (beginning (in_block s) i).site

broken_test : (s : Site) (at : ℕ) (i : t.ForInit) (c n : t.MaybeExpression) (a : t.Statement) {r k : ℕ} → BeginsSo s i
    → Foremost r k (test_asked at (beginning (in_block s) i).site c)
    → BodyBroken s (a_statement (t.for_statement at i c n a)) r k
broken_test s at i t.no_expression n a b h = none_asked h
broken_test s at i (t.an_expression e) n a b h =
    of_one h (λ p x q. body_at p (at_for b (built (beginning (in_block s) i).site.context e x) q))
    (λ x. in_step (for_condition b) (broken_expression (beginning (in_block s) i).site.context e x))

broken_step : (s : Site) (at : ℕ) (i : t.ForInit) (c n : t.MaybeExpression) (a : t.Statement) {r k : ℕ} → BeginsSo s i
    → Foremost r k (step_asked (past_maybe c (beginning (in_block s) i).site) n)
    → BodyBroken s (a_statement (t.for_statement at i c n a)) r k
broken_step s at i c t.no_expression a b h = none_asked h
broken_step s at i c (t.an_expression e) a b h =
    in_step (for_step b) (broken_expression (past_maybe c (beginning (in_block s) i).site).context e h)

-- statements, each as a node of where it stands

abbrev standing_node : Standing → ℕ → t.Statement → BodyNode
standing_node elsewhere n a = a_statement a
standing_node (in_switch_of i before) n a = a_labelled i n before a

broken_so : {s : Site} {a : t.Statement} {r k : ℕ} (p : Standing) (n : ℕ) → is_label a ≡ false
    → BodyBroken s (a_statement a) r k → BodyBroken s (standing_node p n a) r k
broken_so elsewhere n l h = h
broken_so (in_switch_of i before) n l h = within_body (unlabelled l) h

mutual
  broken_statement : (s : Site) (p : Standing) (n : ℕ) (a : t.Statement) {r k : ℕ} → IsWhole s.context.known
      → Foremost r k (statement_asked s p a) → BodyBroken s (standing_node p n a) r k
  broken_statement s p n (t.block_statement at (t.block at' is)) w h =
      broken_so p n refl (within_body block_items (broken_row (in_block s) is w h))
  broken_statement s p n (t.expression_statement at t.no_expression) w h = none_asked h
  broken_statement s p n (t.expression_statement at (t.an_expression e)) w h =
      broken_so p n refl (in_inner evaluated (broken_expression s.context e h))
  broken_statement s p n (t.if_statement at e a b) w h =
      broken_so p n refl (of_both h (λ y. of_one y (λ q x m. body_at q (at_if (built s.context e x) m))
      (λ x. in_inner if_condition (broken_expression s.context e x)))
      (λ m y. of_first y (λ x. within_body first_branch (broken_statement (past_expression e s) elsewhere 0 a w x))
      (λ r x. within_body (second_branch (typed_of (built_statement (past_expression e s) elsewhere a r)))
      (broken_else (past (statement (past_expression e s) a).added (past_expression e s)) b w x))))
  broken_statement s p n (t.while_statement at e a) w h =
      broken_so p n refl (of_both h (λ y. of_one y (λ q x m. body_at q (at_while (built s.context e x) m))
      (λ x. in_inner while_condition (broken_expression s.context e x)))
      (λ m x. within_body while_body (broken_statement (in_loop (past_expression e s)) elsewhere 0 a w x)))
  broken_statement s p n (t.do_statement at a e) w h =
      broken_so p n refl (of_first h (λ x. within_body do_body (broken_statement (in_loop s) elsewhere 0 a w x))
      (λ r y. of_one y (λ q x m. body_at q (at_do (typed_of (built_statement (in_loop s) elsewhere a r))
      (built (past (statement (in_loop s) a).added s).context e x) m))
      (λ x. in_inner (do_condition (typed_of (built_statement (in_loop s) elsewhere a r)))
      (broken_expression (past (statement (in_loop s) a).added s).context e x))))
  broken_statement s p n (t.for_statement at i c m a) w h =
      broken_so p n refl (of_first h (λ x. within_body for_beginning (broken_beginning (in_block s) i w x))
      (λ r y. of_each y (λ x. broken_test s at i c m a (built_beginning (in_block s) i r) x)
      (λ q x. broken_step s at i c m a (built_beginning (in_block s) i r) x)
      (λ q d x. within_body (for_body (built_beginning (in_block s) i r))
      (broken_statement (in_loop (past_maybe m (past_maybe c (beginning (in_block s) i).site))) elsewhere 0 a
      (beginning_whole (in_block s) i w) x))))
  broken_statement s p n (t.switch_statement at e (t.block at' is)) w h =
      broken_so p n refl (of_first h (λ x. in_inner switched (broken_expression s.context e x))
      (λ r y. of_both y (λ x. let l = of_leaf x in body_at l.0 (at_switch (built s.context e r) l.1))
      (λ m x. within_body (switch_block (built s.context e r))
      (broken_cases (switch_type (value_in s (term s.context e))) (in_switch (in_block (past_expression e s))) 0 no_labels is w x))))
  broken_statement s elsewhere n (t.case_statement at e a) w h =
      let l = of_leaf h in body_at l.0 (at_stray_case (only_rule l.1))
  broken_statement s (in_switch_of i before) n (t.case_statement at e a) w h =
      of_first h (λ x. in_inner case_constant (broken_expression s.context e x))
      (λ r y. of_both y (λ x. let l = of_leaf x in body_at l.0 (at_case (built s.context e r) l.1))
      (λ m x. within_body (behind_case (built s.context e r))
      (broken_statement (past_expression e s) (in_switch_of i (with_constant (value_of_case i s e) before)) n a w x)))
  broken_statement s elsewhere n (t.default_statement at a) w h =
      let l = of_leaf h in body_at l.0 (at_stray_default (only_rule l.1))
  broken_statement s (in_switch_of i before) n (t.default_statement at a) w h =
      of_both h (λ x. let l = of_leaf x in body_at l.0 (at_default l.1))
      (λ m x. within_body behind_default (broken_statement s (in_switch_of i (with_default before)) n a w x))
  broken_statement s p n (t.break_statement at) w h =
      let l = of_leaf h in broken_so p n refl (body_at l.0 (at_break l.1))
  broken_statement s p n (t.continue_statement at) w h =
      let l = of_leaf h in broken_so p n refl (body_at l.0 (at_continue l.1))
  broken_statement s p n (t.return_statement at t.no_expression) w h =
      let l = of_leaf h in broken_so p n refl (body_at l.0 (at_return l.1))
  broken_statement s p n (t.return_statement at (t.an_expression e)) w h =
      broken_so p n refl (of_one h (λ q x m. body_at q (at_return_value (built s.context e x) m))
      (λ x. in_inner returned (broken_expression s.context e x)))

  broken_else : (s : Site) (b : t.MaybeStatement) {r k : ℕ} → IsWhole s.context.known
      → Foremost r k (else_asked s b) → BodyBroken s (an_else b) r k
  broken_else s t.no_statement w h = none_asked h
  broken_else s (t.a_statement a) w h = within_body else_statement (broken_statement s elsewhere 0 a w h)

  pub broken_row : (s : Site) (is : t.BlockItems) {r k : ℕ} → IsWhole s.context.known
      → Foremost r k (row_asked s is) → BodyBroken s (some_items is) r k
  broken_row s t.no_items w h = none_asked h
  broken_row s (t.declaration_item d is) w h =
      of_first h (λ x. within_body item_declaration (broken_declaration s d w x))
      (λ r x. within_body (behind_declaration (built_declaration s d r))
      (broken_row (declaration s d).site is (declaration_whole s d w) x))
  broken_row s (t.statement_item a is) w h =
      of_first h (λ x. within_body item_statement (broken_statement s elsewhere 0 a w x))
      (λ r x. within_body (behind_statement (typed_of (built_statement s elsewhere a r)))
      (broken_row (past (statement s a).added s) is w x))

  broken_cases : (i : Integer) (s : Site) (n : ℕ) (before : Labels) (is : t.BlockItems) {r k : ℕ} → IsWhole s.context.known
      → Foremost r k (cases_asked i s before is) → BodyBroken s (some_cases i n before is) r k
  broken_cases i s n before t.no_items w h = none_asked h
  broken_cases i s n before (t.declaration_item d is) w h =
      of_first h (λ x. within_body case_declaration (broken_declaration s d w x))
      (λ r x. within_body (cases_behind_declaration (built_declaration s d r))
      (broken_cases i (declaration s d).site (n + count_stmts (declaration s d).statements) before is (declaration_whole s d w) x))
  broken_cases i s n before (t.statement_item a is) w h =
      of_first h (λ x. within_body case_statement (broken_statement s (in_switch_of i before) n a w x))
      (λ r x. within_body (cases_behind_statement (labelled_of (built_statement s (in_switch_of i before) a r) n))
      (broken_cases i (past (statement s a).added s) (n + 1) (labels_behind i s before a) is w x))
