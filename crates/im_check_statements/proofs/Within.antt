-- No size in a statement is over the limit where none in its parts is.
use Rattle.std.proofs.Common.{◌≡◌, ℕ, ◌+◌, false, List, [], Option, subst}
use Rattle.im_ctree.specs.Tree as t
use Rattle.im_ctype.specs.declared.integer.Integer.{Integer}
use Rattle.im_typed.specs.declared.statement.Case.{Case}
use Rattle.im_typed.specs.Program.{Stmt, Stmts}
use Rattle.im_rules.specs.Breaks.{an_expression}
use Rattle.im_rules.specs.Terms.{Term, constant_in}
use Rattle.im_rules.specs.Typed.{Typed}
use Rattle.im_rules.specs.Statements.{Site, Added, past, past_expression, past_maybe, in_block, in_loop, in_switch, Labels, value_in, switch_type, label_value, with_constant, with_default, count_stmts, Begins, TypedDeclaration, TypedStatement, Labelled}
use Rattle.im_rules.specs.BodyBreaks as b
use Rattle.im_rules.proofs.Once.{once}
use Rattle.im_rules.proofs.BodiesOnce.{begins_once, declaration_once, statement_once, labelled_once}
use Rattle.im_check_statement_forms.specs.im_rules_limits.Limits.{Sized, BodySized, size_in_part, size_in_inner, size_in_step, IsWithin, IsBodyWithin}
use Rattle.im_check_statement_forms.specs.Done.{MaybeWithin}

pub block_within : {s : Site} {at at' : ℕ} {is : t.BlockItems} → IsBodyWithin (in_block s) (b.some_items is) → IsBodyWithin s (b.a_statement (t.block_statement at (t.block at' is)))
block_within h k (size_in_part b.block_items z) = h k z
block_within h k (size_in_inner p z) = elim p [ ]
block_within h k (size_in_step p z) = elim p [ ]

-- `if`

pub no_else_within : {s : Site} → IsBodyWithin s (b.an_else t.no_statement)
no_else_within k (size_in_part p z) = elim p [ ]
no_else_within k (size_in_inner p z) = elim p [ ]
no_else_within k (size_in_step p z) = elim p [ ]

pub else_within : {s : Site} {a : t.Statement} → IsBodyWithin s (b.a_statement a) → IsBodyWithin s (b.an_else (t.a_statement a))
else_within h k (size_in_part b.else_statement z) = h k z
else_within h k (size_in_inner p z) = elim p [ ]
else_within h k (size_in_step p z) = elim p [ ]

pub if_within : {s : Site} {at : ℕ} {e : t.Expression} {a : t.Statement} {c : t.MaybeStatement} {u : Stmt} {m : Added}
    → IsWithin s.context (an_expression e)
    → TypedStatement (past_expression e s) a u m
    → IsBodyWithin (past_expression e s) (b.a_statement a)
    → IsBodyWithin (past m (past_expression e s)) (b.an_else c)
    → IsBodyWithin s (b.a_statement (t.if_statement at e a c))
if_within test d first second k (size_in_part b.first_branch z) = first k z
if_within {s = s} {e = e} {c = c} test d first second k (size_in_part (b.second_branch d') z) =
    second k (subst (λ m. BodySized (past m (past_expression e s)) (b.an_else c) k) (statement_once d' d).1 z)
if_within test d first second k (size_in_inner b.if_condition z) = test k z
if_within test d first second k (size_in_step p z) = elim p [ ]

-- loops

pub while_within : {s : Site} {at : ℕ} {e : t.Expression} {a : t.Statement}
    → IsWithin s.context (an_expression e)
    → IsBodyWithin (in_loop (past_expression e s)) (b.a_statement a)
    → IsBodyWithin s (b.a_statement (t.while_statement at e a))
while_within test turn k (size_in_part b.while_body z) = turn k z
while_within test turn k (size_in_inner b.while_condition z) = test k z
while_within test turn k (size_in_step p z) = elim p [ ]

pub do_within : {s : Site} {at : ℕ} {e : t.Expression} {a : t.Statement} {u : Stmt} {m : Added}
    → TypedStatement (in_loop s) a u m
    → IsBodyWithin (in_loop s) (b.a_statement a)
    → IsWithin (past m s).context (an_expression e)
    → IsBodyWithin s (b.a_statement (t.do_statement at a e))
do_within d turn test k (size_in_part b.do_body z) = turn k z
do_within {s = s} {e = e} d turn test k (size_in_inner (b.do_condition d') z) =
    test k (subst (λ m. Sized (past m s).context (an_expression e) k) (statement_once d' d).1 z)
do_within d turn test k (size_in_step p z) = elim p [ ]

pub for_within : {s f : Site} {at : ℕ} {i : t.ForInit} {c n : t.MaybeExpression} {a : t.Statement} {u : Stmt} {m : Added}
    → Begins (in_block s) i u m f
    → IsBodyWithin (in_block s) (b.a_beginning i)
    → MaybeWithin f.context c
    → MaybeWithin (past_maybe c f).context n
    → IsBodyWithin (in_loop (past_maybe n (past_maybe c f))) (b.a_statement a)
    → IsBodyWithin s (b.a_statement (t.for_statement at i c n a))
for_within d first test step turn k (size_in_part b.for_beginning z) = first k z
for_within {c = c} {n = n} {a = a} d first test step turn k (size_in_part (b.for_body d') z) =
    turn k (subst (λ x. BodySized (in_loop (past_maybe n (past_maybe c x))) (b.a_statement a) k) (begins_once d' d).2 z)
for_within d first test step turn k (size_in_inner p z) = elim p [ ]
for_within d first test step turn k (size_in_step (b.for_condition {c = c} d') z) =
    test k (subst (λ (x : Site). Sized x.context (an_expression c) k) (begins_once d' d).2 z)
for_within d first test step turn k (size_in_step (b.for_step {c = c} {n = n} d') z) =
    step k (subst (λ x. Sized (past_maybe c x).context (an_expression n) k) (begins_once d' d).2 z)

pub switch_within : {s : Site} {at at' : ℕ} {e : t.Expression} {is : t.BlockItems} {x : Term}
    → Typed s.context e x
    → IsWithin s.context (an_expression e)
    → IsBodyWithin (in_switch (in_block (past_expression e s))) (b.some_cases (switch_type (value_in s x)) 0 (record { constants = []; defaults = 0 }) is)
    → IsBodyWithin s (b.a_statement (t.switch_statement at e (t.block at' is)))
switch_within {s = s} {e = e} {is = is} d chosen block k (size_in_part (b.switch_block d') z) =
    block k (subst (λ x. BodySized (in_switch (in_block (past_expression e s))) (b.some_cases (switch_type (value_in s x)) 0 (record { constants = []; defaults = 0 }) is) k) (once d' d) z)
switch_within d chosen block k (size_in_inner b.switched z) = chosen k z
switch_within d chosen block k (size_in_step p z) = elim p [ ]

-- items

pub no_item_within : {s : Site} → IsBodyWithin s (b.some_items t.no_items)
no_item_within k (size_in_part p z) = elim p [ ]
no_item_within k (size_in_inner p z) = elim p [ ]
no_item_within k (size_in_step p z) = elim p [ ]

pub declaration_within : {s e : Site} {d : t.Declaration} {is : t.BlockItems} {us : Stmts} {m : Added}
    → TypedDeclaration s d us m e
    → IsBodyWithin s (b.a_declaration d)
    → IsBodyWithin e (b.some_items is)
    → IsBodyWithin s (b.some_items (t.declaration_item d is))
declaration_within d first rest k (size_in_part b.item_declaration z) = first k z
declaration_within {is = is} d first rest k (size_in_part (b.behind_declaration d') z) =
    rest k (subst (λ e. BodySized e (b.some_items is) k) (declaration_once d' d).2 z)
declaration_within d first rest k (size_in_inner p z) = elim p [ ]
declaration_within d first rest k (size_in_step p z) = elim p [ ]

pub statement_within : {s : Site} {a : t.Statement} {is : t.BlockItems} {u : Stmt} {m : Added}
    → TypedStatement s a u m
    → IsBodyWithin s (b.a_statement a)
    → IsBodyWithin (past m s) (b.some_items is)
    → IsBodyWithin s (b.some_items (t.statement_item a is))
statement_within d first rest k (size_in_part b.item_statement z) = first k z
statement_within {s = s} {is = is} d first rest k (size_in_part (b.behind_statement d') z) =
    rest k (subst (λ m. BodySized (past m s) (b.some_items is) k) (statement_once d' d).1 z)
statement_within d first rest k (size_in_inner p z) = elim p [ ]
statement_within d first rest k (size_in_step p z) = elim p [ ]

-- the items of a switch's block

pub no_case_within : {s : Site} {i : Integer} {n : ℕ} {before : Labels} → IsBodyWithin s (b.some_cases i n before t.no_items)
no_case_within k (size_in_part p z) = elim p [ ]
no_case_within k (size_in_inner p z) = elim p [ ]
no_case_within k (size_in_step p z) = elim p [ ]

pub between_within : {s e : Site} {i : Integer} {n : ℕ} {before : Labels} {d : t.Declaration} {is : t.BlockItems} {us : Stmts} {m : Added}
    → TypedDeclaration s d us m e
    → IsBodyWithin s (b.a_declaration d)
    → IsBodyWithin e (b.some_cases i (n + count_stmts us) before is)
    → IsBodyWithin s (b.some_cases i n before (t.declaration_item d is))
between_within d first rest k (size_in_part b.case_declaration z) = first k z
between_within {i = i} {n = n} {before = before} {is = is} {us = us} d first rest k (size_in_part (b.cases_behind_declaration {e = e₂} d') z) =
    let p = declaration_once d' d in
    rest k (subst (λ e. BodySized e (b.some_cases i (n + count_stmts us) before is) k) p.2 (subst (λ vs. BodySized e₂ (b.some_cases i (n + count_stmts vs) before is) k) p.0 z))
between_within d first rest k (size_in_inner p z) = elim p [ ]
between_within d first rest k (size_in_step p z) = elim p [ ]

pub case_within : {s : Site} {i : Integer} {n : ℕ} {before behind : Labels} {a : t.Statement} {is : t.BlockItems} {u : Stmt} {ks : List Case} {o : Option ℕ} {m : Added}
    → Labelled i s n before a behind u ks o m
    → IsBodyWithin s (b.a_labelled i n before a)
    → IsBodyWithin (past m s) (b.some_cases i (n + 1) behind is)
    → IsBodyWithin s (b.some_cases i n before (t.statement_item a is))
case_within d first rest k (size_in_part b.case_statement z) = first k z
case_within {s = s} {i = i} {n = n} {behind = behind} {is = is} d first rest k (size_in_part (b.cases_behind_statement {m = m₂} d') z) =
    let p = labelled_once d' d in
    rest k (subst (λ m. BodySized (past m s) (b.some_cases i (n + 1) behind is) k) p.4 (subst (λ l. BodySized (past m₂ s) (b.some_cases i (n + 1) l is) k) p.0 z))
case_within d first rest k (size_in_inner p z) = elim p [ ]
case_within d first rest k (size_in_step p z) = elim p [ ]

-- labels

pub unlabelled_within : {s : Site} {i : Integer} {n : ℕ} {before : Labels} {a : t.Statement}
    → b.is_label a ≡ false
    → IsBodyWithin s (b.a_statement a)
    → IsBodyWithin s (b.a_labelled i n before a)
unlabelled_within plain h k (size_in_part (b.unlabelled e) z) = h k z
unlabelled_within plain h k (size_in_part (b.behind_case d) z) = cc
unlabelled_within plain h k (size_in_part b.behind_default z) = cc
unlabelled_within plain h k (size_in_inner b.case_constant z) = cc
unlabelled_within plain h k (size_in_step p z) = elim p [ ]

pub of_case_within : {s : Site} {i : Integer} {n at : ℕ} {before : Labels} {e : t.Expression} {a : t.Statement} {x : Term}
    → Typed s.context e x
    → IsWithin s.context (an_expression e)
    → IsBodyWithin (past_expression e s) (b.a_labelled i n (with_constant (label_value i (constant_in x)) before) a)
    → IsBodyWithin s (b.a_labelled i n before (t.case_statement at e a))
of_case_within d constant rest k (size_in_part (b.unlabelled e) z) = cc
of_case_within {s = s} {i = i} {n = n} {before = before} {e = e} {a = a} d constant rest k (size_in_part (b.behind_case d') z) =
    rest k (subst (λ x. BodySized (past_expression e s) (b.a_labelled i n (with_constant (label_value i (constant_in x)) before) a) k) (once d' d) z)
of_case_within d constant rest k (size_in_inner b.case_constant z) = constant k z
of_case_within d constant rest k (size_in_step p z) = elim p [ ]

pub of_default_within : {s : Site} {i : Integer} {n at : ℕ} {before : Labels} {a : t.Statement}
    → IsBodyWithin s (b.a_labelled i n (with_default before) a)
    → IsBodyWithin s (b.a_labelled i n before (t.default_statement at a))
of_default_within rest k (size_in_part (b.unlabelled e) z) = cc
of_default_within rest k (size_in_part b.behind_default z) = rest k z
of_default_within rest k (size_in_inner p z) = elim p [ ]
of_default_within rest k (size_in_step p z) = elim p [ ]
