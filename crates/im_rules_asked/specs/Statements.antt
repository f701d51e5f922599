-- What declarations in a block and statements are typed to, and what the rules ask of them (C11 6.7, 6.8).
use Rattle.std.specs.Prelude.{ℕ, ◌+◌, ℤ, pos, List, [], ◌∷◌, ◌++◌, length, Option, Some, None, false}
use Rattle.im_rules.specs.im_ctree.Tree as t
use Rattle.im_rules.specs.im_ctype.declared.integer.Integer.{Integer}
use Rattle.im_rules.specs.im_ctype.Types.{CType}
use Rattle.im_rules.specs.im_ctype.Layout.{layout}
use Rattle.im_rules.specs.im_word.Words.{Name}
use Rattle.im_rules.specs.im_typed.declared.statement.Case.{Case}
use Rattle.im_rules.specs.im_typed.Program.{Expr, Stmt, Do, Forget, Initialise, Block, If, While, DoWhile, For, Switch, Break, Continue, Return, Stmts, no_stmts, more_stmts}
use Rattle.im_rules.specs.Rules.{rule_34_break, rule_34_continue}
use Rattle.im_rules.specs.Strings.{strings_in, strings_maybe}
use Rattle.im_rules.specs.Outline.{is_initialised}
use Rattle.im_rules.specs.Context.{Context}
use Rattle.im_rules.specs.Terms.{constant_in}
use Rattle.im_rules.specs.Conversions.{as_type, as_integer}
use Rattle.im_rules.specs.Demands.{asks}
use Rattle.im_rules.specs.Declared.{Qualified, declaration_asks, behind_tags, type_of_specifiers}
use Rattle.im_rules.specs.Initialisers.{completed, pieces_of}
use Rattle.im_rules.specs.Statements.{Site, Added, nothing_added, just_strings, and_then, past, past_expression, past_maybe, in_block, in_loop, in_switch, in_context, name_of, local_asks, with_local, local_added, behind_initializer, condition_asks, switch_asks, return_asks, return_value_asks, value_in, switch_type, Labels, Cases, label_value, case_asks, default_asks, with_constant, with_default, case_at, no_cases, appended, count_stmts, with_cases, otherwise_of, empty_block, one_or_zero}
use Rattle.im_rules.specs.BodyBreaks.{declarator_token}
use Rattle.im_rules_asked.specs.Asked.{Asked, node, sized, beside, one, both, first_then, only, leaf, nothing_asked}
use Rattle.im_rules_asked.specs.Expressions.{term, asked, declared, declarator_asked}
use Rattle.im_rules_asked.specs.Initialisers.{items, items_asked}
use Rattle.im_rules_asked.specs.Sizes.{counted}

-- a statement, and the objects and string literals that it adds
pub record Made : Type 0 where
  pub statement : Stmt
  pub added : Added

-- statements, what they add, and the site behind them
pub record Row : Type 0 where
  pub statements : Stmts
  pub added : Added
  pub site : Site

-- what a `for` begins with, what that adds, and the site behind it
pub record Begun : Type 0 where
  pub statement : Stmt
  pub added : Added
  pub site : Site

-- what the block of a switch gives, and what it adds
pub record Switched : Type 0 where
  pub cases : Cases
  pub added : Added

abbrev pub made : Stmt → Added → Made
made u m = record { statement = u; added = m }

-- declarations in a block

-- the type of an object with the length that its initialiser gives
abbrev pub local_type : Qualified → Site → t.Declarator → t.MaybeInitializer → CType
local_type q s d i = completed (declared s.context q d).type i

-- behind the declarator, where its initialiser stands
abbrev pub past_local : Qualified → Site → t.Declarator → t.MaybeInitializer → Site
past_local q s d i = with_local d (declared s.context q d) (local_type q s d i) s

-- an object is uninitialised again, or initialised (C11 6.2.4p6)
abbrev pub initial : Context → ℕ → CType → t.MaybeInitializer → Stmt
initial c n a t.no_initializer = Forget n
initial c n a (t.an_initializer i) = Initialise n (length (layout c.known a).cells) (pieces_of c.known (items c a 0 i))

abbrev pub before_row : Stmt → Added → Row → Row
before_row u m r = record { statements = more_stmts u r.statements; added = and_then m r.added; site = r.site }

abbrev pub locals : Qualified → Site → t.InitDeclarators → Row
locals q s t.no_init_declarators = record { statements = no_stmts; added = nothing_added; site = s }
locals q s (t.more_init_declarators d i ds) =
    before_row (initial (past_local q s d i).context s.locals (local_type q s d i) i)
    (local_added s.context.known d (name_of (declared s.context q d).name) (local_type q s d i) i)
    (locals q (behind_initializer (local_type q s d i) i (past_local q s d i)) ds)

abbrev pub past_specifiers : t.SpecifierList → t.InitDeclarators → Site → Site
past_specifiers xs ds s = in_context (behind_tags s.context xs ds) s

abbrev pub declaration : Site → t.Declaration → Row
declaration s (t.declaration (t.specifiers at xs) ds) = locals (type_of_specifiers s.context xs) (past_specifiers xs ds s) ds

abbrev pub initial_asked : Context → CType → t.MaybeInitializer → Asked
initial_asked c a t.no_initializer = nothing_asked
initial_asked c a (t.an_initializer i) = items_asked c a i

-- all else is asked once the declarator is right
abbrev pub locals_asked : Qualified → Site → t.InitDeclarators → Asked
locals_asked q s t.no_init_declarators = nothing_asked
locals_asked q s (t.more_init_declarators d i ds) =
    only (first_then (declarator_asked s.context q d)
    (only (both (sized (counted s.context.known (local_type q s d i)))
    (only (beside (both (leaf (declarator_token d) (local_asks s (declared s.context q d) (local_type q s d i) (is_initialised i)))
    (initial_asked (past_local q s d i).context (local_type q s d i) i))
    (locals_asked q (behind_initializer (local_type q s d i) i (past_local q s d i)) ds))))))

abbrev pub declaration_asked : Site → t.Declaration → Asked
declaration_asked s (t.declaration (t.specifiers at xs) ds) =
    only (first_then (leaf at (declaration_asks s.context xs ds)) (locals_asked (type_of_specifiers s.context xs) (past_specifiers xs ds s) ds))

-- parts of statements

abbrev pub evaluated : Site → t.Expression → Expr
evaluated s e = (value_in s (term s.context e)).expr

-- an absent condition is 1, an absent step 0
abbrev pub maybe_evaluated : ℤ → Site → t.MaybeExpression → Expr
maybe_evaluated z s t.no_expression = one_or_zero z
maybe_evaluated z s (t.an_expression e) = evaluated s e

abbrev pub condition_asked : ℕ → Site → t.Expression → Asked
condition_asked at s e = node at (condition_asks (term s.context e)) (one (asked s.context e))

abbrev pub test_asked : ℕ → Site → t.MaybeExpression → Asked
test_asked at s t.no_expression = nothing_asked
test_asked at s (t.an_expression e) = condition_asked at s e

abbrev pub step_asked : Site → t.MaybeExpression → Asked
step_asked s t.no_expression = nothing_asked
step_asked s (t.an_expression e) = asked s.context e

abbrev pub by_row : Row → Begun
by_row r = record { statement = Block r.statements; added = r.added; site = r.site }

-- what a `for` begins with: a declaration is one block; its names are in scope in all of the statement (C11 6.8.5p5)
abbrev pub beginning : Site → t.ForInit → Begun
beginning s (t.for_declaration d) = by_row (declaration s d)
beginning s (t.for_expression t.no_expression) = record { statement = empty_block; added = nothing_added; site = s }
beginning s (t.for_expression (t.an_expression e)) =
    record { statement = Do (evaluated s e); added = just_strings (strings_in e); site = past_expression e s }

abbrev pub beginning_asked : Site → t.ForInit → Asked
beginning_asked s (t.for_declaration d) = declaration_asked s d
beginning_asked s (t.for_expression e) = step_asked s e

-- labels (C11 6.8.1, 6.8.4.2): those that a statement carries

abbrev pub value_of_case : Integer → Site → t.Expression → ℤ
value_of_case i s e = label_value i (constant_in (term s.context e))

abbrev pub cases_at : Integer → Site → ℕ → t.Statement → List Case
cases_at i s n (t.case_statement at e a) = case_at (value_of_case i s e) n ∷ cases_at i (past_expression e s) n a
cases_at i s n (t.default_statement at a) = cases_at i s n a
cases_at i s n a = []

abbrev pub default_at : ℕ → t.Statement → Option ℕ
default_at n (t.case_statement at e a) = default_at n a
default_at n (t.default_statement at a) = Some n
default_at n a = None

abbrev pub labels_behind : Integer → Site → Labels → t.Statement → Labels
labels_behind i s before (t.case_statement at e a) = labels_behind i (past_expression e s) (with_constant (value_of_case i s e) before) a
labels_behind i s before (t.default_statement at a) = labels_behind i s (with_default before) a
labels_behind i s before a = before

-- before the first label of a switch
abbrev pub no_labels : Labels
no_labels = record { constants = []; defaults = 0 }

-- statements

abbrev pub behind_made : Made → Row → Row
behind_made u r = before_row u.statement u.added r

abbrev pub behind_row : Row → Row → Row
behind_row d r = record { statements = appended d.statements r.statements; added = and_then d.added r.added; site = r.site }

abbrev pub block_of : Row → Made
block_of r = made (Block r.statements) r.added

abbrev pub if_of : Expr → List Name → Made → Made → Made
if_of x ss u v = made (If x u.statement v.statement) (and_then (just_strings ss) (and_then u.added v.added))

abbrev pub while_of : Expr → List Name → Made → Made
while_of x ss u = made (While x u.statement) (and_then (just_strings ss) u.added)

abbrev pub do_of : Made → Expr → List Name → Made
do_of u x ss = made (DoWhile u.statement x) (and_then u.added (just_strings ss))

abbrev pub for_of : Begun → Expr → Expr → List Name → Made → Made
for_of b x y ss u = made (For b.statement x y u.statement) (and_then b.added (and_then (just_strings ss) u.added))

abbrev pub switch_of : Expr → List Name → Switched → Made
switch_of x ss k = made (Switch x k.cases.cases (otherwise_of k.cases) k.cases.statements) (and_then (just_strings ss) k.added)

abbrev pub with_strings : List Name → Made → Made
with_strings ss u = made u.statement (and_then (just_strings ss) u.added)

abbrev pub before_cases : Stmts → List Case → Option ℕ → Added → Switched → Switched
before_cases us ks d m k = record { cases = with_cases us ks d k.cases; added = and_then m k.added }

-- what was made is used twice: for what is typed, and for the site behind it
abbrev pub after_made : Site → Made → (Made → Site → Made) → Made
after_made s u rest = rest u (past u.added s)

abbrev pub row_after : Site → Made → (Site → Row) → Row
row_after s u rest = behind_made u (rest (past u.added s))

abbrev pub row_behind : Row → (Site → Row) → Row
row_behind d rest = behind_row d (rest d.site)

abbrev pub cases_after : Site → Made → List Case → Option ℕ → (Site → Switched) → Switched
cases_after s u ks d rest = before_cases (more_stmts u.statement no_stmts) ks d u.added (rest (past u.added s))

abbrev pub cases_behind : Row → (Site → ℕ → Switched) → Switched
cases_behind d rest = before_cases d.statements [] None d.added (rest d.site (count_stmts d.statements))

abbrev pub for_behind : Begun → t.MaybeExpression → t.MaybeExpression → (Site → Made) → Made
for_behind b c n body =
    for_of b (maybe_evaluated (pos 1) b.site c) (maybe_evaluated (pos 0) (past_maybe c b.site) n) (strings_maybe c ++ strings_maybe n) (body (in_loop (past_maybe n (past_maybe c b.site))))

abbrev pub returned : Site → t.MaybeExpression → Made
returned s t.no_expression = made (Return None) nothing_added
returned s (t.an_expression e) = made (Return (Some (as_type s.result (value_in s (term s.context e))))) (just_strings (strings_in e))

abbrev pub done : Site → t.MaybeExpression → Made
done s t.no_expression = made empty_block nothing_added
done s (t.an_expression e) = made (Do (evaluated s e)) (just_strings (strings_in e))

abbrev mutual
  -- of a statement that carries labels: what stands behind them
  pub statement : Site → t.Statement → Made
  statement s (t.block_statement at (t.block at' is)) = block_of (row (in_block s) is)
  statement s (t.expression_statement at e) = done s e
  statement s (t.if_statement at e a b) =
      after_made (past_expression e s) (statement (past_expression e s) a) (λ u z. if_of (evaluated s e) (strings_in e) u (maybe_statement z b))
  statement s (t.while_statement at e a) = while_of (evaluated s e) (strings_in e) (statement (in_loop (past_expression e s)) a)
  statement s (t.do_statement at a e) = after_made s (statement (in_loop s) a) (λ u z. do_of u (evaluated z e) (strings_in e))
  statement s (t.for_statement at i c n a) = for_behind (beginning (in_block s) i) c n (λ z. statement z a)
  statement s (t.switch_statement at e (t.block at' is)) =
      switch_of (as_integer (switch_type (value_in s (term s.context e))) (value_in s (term s.context e))) (strings_in e)
      (cases (switch_type (value_in s (term s.context e))) (in_switch (in_block (past_expression e s))) 0 is)
  statement s (t.case_statement at e a) = with_strings (strings_in e) (statement (past_expression e s) a)
  statement s (t.default_statement at a) = statement s a
  statement s (t.break_statement at) = made Break nothing_added
  statement s (t.continue_statement at) = made Continue nothing_added
  statement s (t.return_statement at e) = returned s e

  pub maybe_statement : Site → t.MaybeStatement → Made
  maybe_statement s t.no_statement = made empty_block nothing_added
  maybe_statement s (t.a_statement a) = statement s a

  -- the items of a block
  pub row : Site → t.BlockItems → Row
  row s t.no_items = record { statements = no_stmts; added = nothing_added; site = s }
  row s (t.declaration_item d is) = row_behind (declaration s d) (λ z. row z is)
  row s (t.statement_item a is) = row_after s (statement s a) (λ z. row z is)

  -- the items of a switch's block, so many statements behind its start
  pub cases : Integer → Site → ℕ → t.BlockItems → Switched
  cases i s n t.no_items = record { cases = no_cases; added = nothing_added }
  cases i s n (t.declaration_item d is) = cases_behind (declaration s d) (λ z k. cases i z (n + k) is)
  cases i s n (t.statement_item a is) = cases_after s (statement s a) (cases_at i s n a) (default_at n a) (λ z. cases i z (n + 1) is)

-- where a statement stands: directly in the block of a switch of that type or behind a label there, with these labels
-- before it; or elsewhere
pub data Standing : Type 0 where
  elsewhere : Standing
  in_switch_of : Integer → Labels → Standing

abbrev pub case_asked : ℕ → Site → Standing → t.Expression → (Site → Standing → Asked) → Asked
case_asked at s elsewhere e rest = leaf at (asks 34 false ∷ [])
case_asked at s (in_switch_of i before) e rest =
    only (first_then (asked s.context e)
    (only (both (leaf at (case_asks i (term s.context e) before)) (rest (past_expression e s) (in_switch_of i (with_constant (value_of_case i s e) before))))))

abbrev pub default_asked : ℕ → Standing → (Standing → Asked) → Asked
default_asked at elsewhere rest = leaf at (asks 34 false ∷ [])
default_asked at (in_switch_of i before) rest = only (both (leaf at (default_asks before)) (rest (in_switch_of i (with_default before))))

abbrev pub return_asked : ℕ → Site → t.MaybeExpression → Asked
return_asked at s t.no_expression = leaf at (return_asks s.result)
return_asked at s (t.an_expression e) = node at (return_value_asks s.result (term s.context e)) (one (asked s.context e))

-- what stands behind something is asked once that is right
abbrev mutual
  pub statement_asked : Site → Standing → t.Statement → Asked
  statement_asked s p (t.block_statement at (t.block at' is)) = row_asked (in_block s) is
  statement_asked s p (t.expression_statement at e) = step_asked s e
  statement_asked s p (t.if_statement at e a b) =
      only (both (condition_asked at s e)
      (only (first_then (statement_asked (past_expression e s) elsewhere a) (else_asked (past (statement (past_expression e s) a).added (past_expression e s)) b))))
  statement_asked s p (t.while_statement at e a) = only (both (condition_asked at s e) (statement_asked (in_loop (past_expression e s)) elsewhere a))
  statement_asked s p (t.do_statement at a e) =
      only (first_then (statement_asked (in_loop s) elsewhere a) (condition_asked at (past (statement (in_loop s) a).added s) e))
  statement_asked s p (t.for_statement at i c n a) =
      only (first_then (beginning_asked (in_block s) i)
      (only (beside (both (test_asked at (beginning (in_block s) i).site c) (step_asked (past_maybe c (beginning (in_block s) i).site) n))
      (statement_asked (in_loop (past_maybe n (past_maybe c (beginning (in_block s) i).site))) elsewhere a))))
  statement_asked s p (t.switch_statement at e (t.block at' is)) =
      only (first_then (asked s.context e)
      (only (both (leaf at (switch_asks (term s.context e)))
      (cases_asked (switch_type (value_in s (term s.context e))) (in_switch (in_block (past_expression e s))) no_labels is))))
  statement_asked s p (t.case_statement at e a) = case_asked at s p e (λ z k. statement_asked z k a)
  statement_asked s p (t.default_statement at a) = default_asked at p (λ k. statement_asked s k a)
  statement_asked s p (t.break_statement at) = leaf at (asks 34 (rule_34_break s.position) ∷ [])
  statement_asked s p (t.continue_statement at) = leaf at (asks 34 (rule_34_continue s.position) ∷ [])
  statement_asked s p (t.return_statement at e) = return_asked at s e

  pub else_asked : Site → t.MaybeStatement → Asked
  else_asked s t.no_statement = nothing_asked
  else_asked s (t.a_statement a) = statement_asked s elsewhere a

  pub row_asked : Site → t.BlockItems → Asked
  row_asked s t.no_items = nothing_asked
  row_asked s (t.declaration_item d is) = only (first_then (declaration_asked s d) (row_asked (declaration s d).site is))
  row_asked s (t.statement_item a is) = only (first_then (statement_asked s elsewhere a) (row_asked (past (statement s a).added s) is))

  pub cases_asked : Integer → Site → Labels → t.BlockItems → Asked
  cases_asked i s before t.no_items = nothing_asked
  cases_asked i s before (t.declaration_item d is) = only (first_then (declaration_asked s d) (cases_asked i (declaration s d).site before is))
  cases_asked i s before (t.statement_item a is) =
      only (first_then (statement_asked s (in_switch_of i before) a) (cases_asked i (past (statement s a).added s) (labels_behind i s before a) is))
