-- Where all that is asked is so, an initialiser, a statement or a block is typed.
use Rattle.std.proofs.Common.{◌≡◌, ℕ, ◌+◌, List, [], ◌∷◌, None, refl, sym, subst, Bool, true, false, pos}
use Rattle.std.specs.Prelude.{if◌then◌else◌}
use Rattle.im_rules.specs.im_ctree.Tree as t
use Rattle.im_rules.specs.im_ctype.declared.integer.Integer.{Integer}
use Rattle.im_rules.specs.im_ctype.declared.member.MemberPlace.{MemberPlace}
use Rattle.im_rules.specs.im_ctype.Types.{CType, void, integer, pointer, array, unsized, struct, function, Member, members_of}
use Rattle.im_rules.specs.im_ctype.Members.{places}
use Rattle.im_rules.specs.Rules.{is_string_for}
use Rattle.im_rules.specs.Context.{Context, behind_strings}
use Rattle.im_rules.specs.Terms.{size_in}
use Rattle.im_rules.specs.Demands.{asks}
use Rattle.im_rules.specs.Declared.{Qualified, type_of_specifiers}
use Rattle.im_rules.specs.Initialisers.{Shape, one, bytes, elements, members, misshapen, shape, string_shape, one_shape, element_shape, strings_given, Initialised, initialised, Shaped, of_one, of_bytes, of_elements, of_members, Elements, no_element, an_element, InMembers, no_member, a_member}
use Rattle.im_rules.specs.Statements.{Site, past, past_expression, past_maybe, in_block, in_loop, in_switch, behind_initializer, with_constant, with_default, Labels, switch_type, value_in, count_stmts, MayInitialise, forgets, initialises, AreLocals, no_local, a_local, TypedDeclaration, of_declaration, MayTest, no_test, a_test, MayStep, no_step, a_step, Begins, by_declaration, by_nothing, by_expression, TypedStatement, of_block, of_nothing, of_expression, of_if, of_while, of_do, of_for, of_switch, of_break, of_continue, of_return, of_return_value, MayBeTyped, no_else, an_else, TypedItems, no_item, a_declaration, a_statement, TypedCases, no_case, between_cases, a_labelled, Labelled, no_label, of_case, of_default}
use Rattle.im_rules_asked.specs.Expressions.{term}
use Rattle.im_rules_asked.specs.Initialisers.{side_by_side, in_order, places_in, shaped, items, items_among, misplaced, shaped_asked, items_asked, among_asked}
use Rattle.im_rules_asked.specs.Statements.{initial, local_type, past_local, locals, past_specifiers, declaration, initial_asked, locals_asked, declaration_asked, maybe_evaluated, test_asked, step_asked, beginning, beginning_asked, value_of_case, cases_at, default_at, labels_behind, no_labels, statement, maybe_statement, row, cases, Standing, elsewhere, in_switch_of, statement_asked, else_asked, row_asked, cases_asked}
use Rattle.im_rules_asked.proofs.Right.{Right, own, within, beside_last, beside_rest}
use Rattle.im_rules_asked.proofs.Built.{part, first_part, second_part, first_of, then_of, not_so, built, built_declarator}

-- initialisers

-- the list of a shape; of one that has none this one
abbrev pub list_of : Shape → t.Initializers → t.Initializers
list_of (one e) is = is
list_of (bytes e s) is = is
list_of (elements e js) is = js
list_of (members n js) is = js
list_of misshapen is = is

one_list : (k : ℕ) (is : t.Initializers) → list_of (one_shape (t.braced_initializer k is)) is ≡ is
one_list k t.no_initializers = refl
one_list k (t.more_initializers (t.value_initializer e) t.no_initializers) = refl
one_list k (t.more_initializers (t.value_initializer e) (t.more_initializers i is)) = refl
one_list k (t.more_initializers (t.braced_initializer j js) is) = refl

string_list : (e : CType) (k : ℕ) (is : t.Initializers)
    → list_of (string_shape e (t.braced_initializer k is)) is ≡ is
string_list e k t.no_initializers = refl
string_list e k (t.more_initializers (t.value_initializer (t.string_literal at s)) t.no_initializers) =
    refl
string_list e k (t.more_initializers (t.value_initializer (t.string_literal at s)) (t.more_initializers i is)) =
    refl
string_list e k (t.more_initializers (t.value_initializer x) is) = refl
string_list e k (t.more_initializers (t.braced_initializer j js) is) = refl

array_list : (b : Bool) (e : CType) (k : ℕ) (is : t.Initializers)
    → list_of (if b then string_shape e (t.braced_initializer k is) else element_shape e
    (t.braced_initializer k is)) is ≡ is
array_list true e k is = string_list e k is
array_list false e k is = refl

-- the list of the shape that braces have is what stands in them
pub shape_list : (a : CType) (k : ℕ) (is : t.Initializers)
    → list_of (shape a (t.braced_initializer k is)) is ≡ is
shape_list void k is = refl
shape_list (integer i) k is = one_list k is
shape_list (pointer c a) k is = one_list k is
shape_list (array e n) k is =
    array_list (is_string_for (array e n) (t.braced_initializer k is)) e k is
shape_list (unsized e) k is = refl
shape_list (struct n) k is = refl
shape_list (function r ps) k is = refl

value_built : (c : Context) (a : CType) (at token other : ℕ) (s : Shape)
    → Right (shaped_asked c a token s (misplaced other)) → Shaped c a at s (shaped c a at s [])
value_built c a at token other (one e) h = of_one (built c e (part h)) (own h)
value_built c a at token other (bytes e s) h = of_bytes
value_built c a at token other (elements e is) h = absurd (not_so (asks 16 false) refl (own h))
value_built c a at token other (members n is) h = absurd (not_so (asks 16 false) refl (own h))
value_built c a at token other misshapen h = absurd (not_so (asks 16 false) refl (own h))

braced_built : (c : Context) (a : CType) (at token : ℕ) (is : t.Initializers) (s : Shape)
    → list_of s is ≡ is
    → ((e : CType) → Right (among_asked c (side_by_side e) is) → Elements c e at is
    (items_among c (side_by_side e) at is))
    → ((n : ℕ) → Right (among_asked c (in_order (members_of c.known n) (places c.known n)) is)
    → InMembers c (members_of c.known n) (places c.known n) at is
    (items_among c (in_order (members_of c.known n) (places c.known n)) at is))
    → Right (shaped_asked c a token s (among_asked c (places_in c.known s) is))
    → Shaped c a at s (shaped c a at s (items_among c (places_in c.known s) at is))
braced_built c a at token is (one e) p f g h = of_one (built c e (part h)) (own h)
braced_built c a at token is (bytes e s) p f g h = of_bytes
braced_built c a at token is (elements e js) p f g h =
    of_elements (subst (λ ks. Elements c e at ks (items_among c (side_by_side e) at is)) (sym p)
    (f e h))
braced_built c a at token is (members n js) p f g h =
    of_members (subst (λ ks. InMembers c (members_of c.known n) (places c.known n) at ks
    (items_among c (in_order (members_of c.known n) (places c.known n)) at is)) (sym p) (g n h))
braced_built c a at token is misshapen p f g h = absurd (not_so (asks 16 false) refl (own h))

mutual
  pub built_items : (c : Context) (a : CType) (at : ℕ) (i : t.Initializer)
      → Right (items_asked c a i) → Initialised c a at i (items c a at i)
  built_items c a at (t.value_initializer e) h =
      initialised (own (first_part h)) (value_built c a at _ _ (shape a (t.value_initializer e))
      (second_part h))
  built_items c a at (t.braced_initializer k is) h =
      initialised (own (first_part h))
      (braced_built c a at k is (shape a (t.braced_initializer k is)) (shape_list a k is)
      (λ e q. built_elements c e at is q) (λ n q. built_in_order c (members_of c.known n)
      (places c.known n) at is q) (second_part h))

  pub built_elements : (c : Context) (e : CType) (at : ℕ) (is : t.Initializers)
      → Right (among_asked c (side_by_side e) is)
      → Elements c e at is (items_among c (side_by_side e) at is)
  built_elements c e at t.no_initializers h = no_element
  built_elements c e at (t.more_initializers i is) h =
      an_element (built_items c e at i (first_part h))
      (built_elements (behind_strings (strings_given c.known e i) c) e (at + size_in c.known e) is
      (second_part h))

  pub built_in_order : (c : Context) (ms : List Member) (os : List MemberPlace) (at : ℕ)
      (is : t.Initializers) → Right (among_asked c (in_order ms os) is)
      → InMembers c ms os at is (items_among c (in_order ms os) at is)
  built_in_order c ms os at t.no_initializers h = no_member
  built_in_order c (m ∷ ms) (o ∷ os) at (t.more_initializers i is) h =
      a_member (built_items c m.type (at + o.offset) i (first_part h))
      (built_in_order (behind_strings (strings_given c.known m.type i) c) ms os at is
      (second_part h))
  built_in_order c [] os at (t.more_initializers i is) h =
      absurd (not_so (asks 16 false) refl (own h))
  built_in_order c (m ∷ ms) [] at (t.more_initializers i is) h =
      absurd (not_so (asks 16 false) refl (own h))

-- declarations in a block

pub built_initial : (c : Context) (n : ℕ) (a : CType) (i : t.MaybeInitializer)
    → Right (initial_asked c a i) → MayInitialise c n a i (initial c n a i)
built_initial c n a t.no_initializer h = forgets
built_initial c n a (t.an_initializer i) h = initialises (built_items c a 0 i h)

pub built_locals : (q : Qualified) (s : Site) (ds : t.InitDeclarators) → Right (locals_asked q s ds)
    → AreLocals q s ds (locals q s ds).statements (locals q s ds).added (locals q s ds).site
built_locals q s t.no_init_declarators h = no_local
built_locals q s (t.more_init_declarators d i ds) h =
    a_local (built_declarator s.context q d (first_of h))
    (own (beside_last (beside_rest (beside_rest (within (second_part (then_of h)))))))
    (built_initial (past_local q s d i).context s.locals (local_type q s d i) i
    (beside_last (beside_rest (within (second_part (then_of h))))))
    (built_locals q (behind_initializer (local_type q s d i) i (past_local q s d i)) ds
    (beside_last (within (second_part (then_of h)))))

pub built_declaration : (s : Site) (d : t.Declaration) → Right (declaration_asked s d)
    → TypedDeclaration s d (declaration s d).statements (declaration s d).added
    (declaration s d).site
built_declaration s (t.declaration (t.specifiers at xs) ds) h =
    of_declaration (own (first_of h)) (built_locals (type_of_specifiers s.context xs)
    (past_specifiers xs ds s) ds (then_of h))

-- parts of statements

built_test : (at : ℕ) (s : Site) (e : t.MaybeExpression) → Right (test_asked at s e)
    → MayTest s e (maybe_evaluated (pos 1) s e)
built_test at s t.no_expression h = no_test
built_test at s (t.an_expression e) h = a_test (built s.context e (part h)) (own h)

built_step : (s : Site) (e : t.MaybeExpression) → Right (step_asked s e)
    → MayStep s e (maybe_evaluated (pos 0) s e)
built_step s t.no_expression h = no_step
built_step s (t.an_expression e) h = a_step (built s.context e h)

pub built_beginning : (s : Site) (i : t.ForInit) → Right (beginning_asked s i)
    → Begins s i (beginning s i).statement (beginning s i).added (beginning s i).site
built_beginning s (t.for_declaration d) h = by_declaration (built_declaration s d h)
built_beginning s (t.for_expression t.no_expression) h = by_nothing
built_beginning s (t.for_expression (t.an_expression e)) h = by_expression (built s.context e h)

-- statements: one that stands elsewhere is typed; one in a switch's block is so with its labels
pub data Stands (s : Site) (a : t.Statement) : Standing → Type 0 where
  stands_typed : TypedStatement s a (statement s a).statement (statement s a).added
      → Stands s a elsewhere
  stands_labelled : {i : Integer} {before : Labels}
      → ((n : ℕ) → Labelled i s n before a (labels_behind i s before a) (statement s a).statement
      (cases_at i s n a) (default_at n a) (statement s a).added)
      → Stands s a (in_switch_of i before)

pub typed_of : {s : Site} {a : t.Statement} → Stands s a elsewhere
    → TypedStatement s a (statement s a).statement (statement s a).added
typed_of (stands_typed d) = d

pub labelled_of : {s : Site} {a : t.Statement} {i : Integer} {before : Labels}
    → Stands s a (in_switch_of i before)
    → (n : ℕ)
    → Labelled i s n before a (labels_behind i s before a) (statement s a).statement
    (cases_at i s n a) (default_at n a) (statement s a).added
labelled_of (stands_labelled f) = f

-- what carries no label
placed : (p : Standing) (s : Site) (a : t.Statement)
    → ((i : Integer) (before : Labels) (n : ℕ) → Labelled i s n before a before
    (statement s a).statement [] None (statement s a).added
    → Labelled i s n before a (labels_behind i s before a) (statement s a).statement
    (cases_at i s n a) (default_at n a) (statement s a).added)
    → TypedStatement s a (statement s a).statement (statement s a).added
    → Stands s a p
placed elsewhere s a f d = stands_typed d
placed (in_switch_of i before) s a f d = stands_labelled (λ n. f i before n (no_label d))

mutual
  pub built_statement : (s : Site) (p : Standing) (a : t.Statement) → Right (statement_asked s p a)
      → Stands s a p
  built_statement s p (t.block_statement at (t.block at' is)) h =
      placed p s (t.block_statement at (t.block at' is)) (λ i b n x. x)
      (of_block (built_row (in_block s) is h))
  built_statement s p (t.expression_statement at t.no_expression) h =
      placed p s (t.expression_statement at t.no_expression) (λ i b n x. x) of_nothing
  built_statement s p (t.expression_statement at (t.an_expression e)) h =
      placed p s (t.expression_statement at (t.an_expression e)) (λ i b n x. x)
      (of_expression (built s.context e h))
  built_statement s p (t.if_statement at e a b) h =
      placed p s (t.if_statement at e a b) (λ i b n x. x)
      (of_if (built s.context e (part (first_part h))) (own (first_part h))
      (typed_of (built_statement (past_expression e s) elsewhere a (first_of (second_part h))))
      (built_else (past (statement (past_expression e s) a).added (past_expression e s)) b
      (then_of (second_part h))))
  built_statement s p (t.while_statement at e a) h =
      placed p s (t.while_statement at e a) (λ i b n x. x)
      (of_while (built s.context e (part (first_part h))) (own (first_part h))
      (typed_of (built_statement (in_loop (past_expression e s)) elsewhere a (second_part h))))
  built_statement s p (t.do_statement at a e) h =
      placed p s (t.do_statement at a e) (λ i b n x. x)
      (of_do (typed_of (built_statement (in_loop s) elsewhere a (first_of h)))
      (built (past (statement (in_loop s) a).added s).context e (part (then_of h)))
      (own (then_of h)))
  built_statement s p (t.for_statement at i c n a) h =
      placed p s (t.for_statement at i c n a) (λ i b n x. x)
      (of_for (built_beginning (in_block s) i (first_of h))
      (built_test at (beginning (in_block s) i).site c
      (beside_last (beside_rest (beside_rest (within (then_of h))))))
      (built_step (past_maybe c (beginning (in_block s) i).site) n
      (beside_last (beside_rest (within (then_of h)))))
      (typed_of (built_statement (in_loop (past_maybe n
      (past_maybe c (beginning (in_block s) i).site))) elsewhere a
      (beside_last (within (then_of h))))))
  built_statement s p (t.switch_statement at e (t.block at' is)) h =
      placed p s (t.switch_statement at e (t.block at' is)) (λ i b n x. x)
      (of_switch (built s.context e (first_of h)) (own (first_part (then_of h)))
      (built_cases (switch_type (value_in s (term s.context e)))
      (in_switch (in_block (past_expression e s))) 0 no_labels is (second_part (then_of h))))
  built_statement s elsewhere (t.case_statement at e a) h =
      absurd (not_so (asks 34 false) refl (own h))
  built_statement s (in_switch_of i before) (t.case_statement at e a) h =
      stands_labelled (λ n. of_case (built s.context e (first_of h)) (own (first_part (then_of h)))
      (labelled_of (built_statement (past_expression e s)
      (in_switch_of i (with_constant (value_of_case i s e) before)) a (second_part (then_of h))) n))
  built_statement s elsewhere (t.default_statement at a) h =
      absurd (not_so (asks 34 false) refl (own h))
  built_statement s (in_switch_of i before) (t.default_statement at a) h =
      stands_labelled (λ n. of_default (own (first_part h))
      (labelled_of (built_statement s (in_switch_of i (with_default before)) a (second_part h)) n))
  built_statement s p (t.break_statement at) h =
      placed p s (t.break_statement at) (λ i b n x. x) (of_break (own h))
  built_statement s p (t.continue_statement at) h =
      placed p s (t.continue_statement at) (λ i b n x. x) (of_continue (own h))
  built_statement s p (t.return_statement at t.no_expression) h =
      placed p s (t.return_statement at t.no_expression) (λ i b n x. x) (of_return (own h))
  built_statement s p (t.return_statement at (t.an_expression e)) h =
      placed p s (t.return_statement at (t.an_expression e)) (λ i b n x. x)
      (of_return_value (built s.context e (part h)) (own h))

  pub built_else : (s : Site) (b : t.MaybeStatement) → Right (else_asked s b)
      → MayBeTyped s b (maybe_statement s b).statement (maybe_statement s b).added
  built_else s t.no_statement h = no_else
  built_else s (t.a_statement a) h = an_else (typed_of (built_statement s elsewhere a h))

  pub built_row : (s : Site) (is : t.BlockItems) → Right (row_asked s is)
      → TypedItems s is (row s is).statements (row s is).added
  built_row s t.no_items h = no_item
  built_row s (t.declaration_item d is) h =
      a_declaration (built_declaration s d (first_of h))
      (built_row (declaration s d).site is (then_of h))
  built_row s (t.statement_item a is) h =
      a_statement (typed_of (built_statement s elsewhere a (first_of h)))
      (built_row (past (statement s a).added s) is (then_of h))

  pub built_cases : (i : Integer) (s : Site) (n : ℕ) (before : Labels) (is : t.BlockItems)
      → Right (cases_asked i s before is)
      → TypedCases i s n before is (cases i s n is).cases (cases i s n is).added
  built_cases i s n before t.no_items h = no_case
  built_cases i s n before (t.declaration_item d is) h =
      between_cases (built_declaration s d (first_of h))
      (built_cases i (declaration s d).site (n + count_stmts (declaration s d).statements) before is
      (then_of h))
  built_cases i s n before (t.statement_item a is) h =
      a_labelled (labelled_of (built_statement s (in_switch_of i before) a (first_of h)) n)
      (built_cases i (past (statement s a).added s) (n + 1) (labels_behind i s before a) is
      (then_of h))
