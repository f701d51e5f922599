-- Loops and switches of their parts.
use Rattle.std.proofs.Common.{◌≡◌, ℕ, List, ◌++◌, length, take, Option, Some, None, refl, sym, ap, ◌∙◌, subst}
use Rattle.im_ctree.specs.Tree as t
use Rattle.im_ctree.specs.Shape.{block_items_of}
use Rattle.im_ctree.specs.declared.statement.BlockItem.{BlockItem}
use Rattle.im_ctype.specs.Table.{Table, structs_of}
use Rattle.im_typed.specs.declared.statement.Case.{Case}
use Rattle.im_typed.specs.Program as p
use Rattle.im_typed.specs.ProgramOf.{expr_of, stmt_of}
use Rattle.im_typed.specs.declared.expression.Expr as re
use Rattle.im_typed.specs.declared.statement.Stmt as rs
use Rattle.im_rules.specs.Conversions.{as_integer}
use Rattle.im_rules.specs.Strings.{strings_in, strings_maybe}
use Rattle.im_rules.specs.Terms as r
use Rattle.im_rules.specs.Typed.{Typed}
use Rattle.im_rules.specs.Statements.{Site, just_strings, and_then, past, in_block, in_loop, in_switch, past_expression, past_maybe, condition_asks, switch_asks, switch_type, otherwise_of, TypedStatement, TypedCases, of_while, of_do, of_for, of_switch}
use Rattle.im_rules.specs.BodyBreaks as b
use Rattle.im_rules.specs.Breaks.{an_expression}
use Rattle.im_rules.specs.BodyBreaks.{a_statement}
use Rattle.im_check_statement_forms.specs.im_rules_limits.Limits.{Sized, size_in_inner, IsWithin, IsBodyWithin}
use Rattle.im_check_stop.specs.declared.stop.Stop.{Stop}
use Rattle.im_check_stop.specs.declared.stop.Stop.TheVariants.{Rule, Large, Memory}
use Rattle.im_check_sites.specs.declared.body.Body.{Body}
use Rattle.im_check_sites.specs.declared.position.Position.{Position}
use Rattle.im_check_sites.specs.Sites.{site_of, IsBodyFault}
use Rattle.im_check_sites.specs.Stmts.{stmts_from}
use Rattle.im_check_sites.proofs.Sites.{past_then, past_site, declared_then, declared_past, structs_stay}
use Rattle.im_check_statement_forms.specs.declared.heads.ForHead.{ForHead}
use Rattle.im_check_statement_forms.specs.declared.labels.Selector.{Selector}
use Rattle.im_check_statement_forms.specs.Asked.{Asked, AskedBreaks, IsAskedFault}
use Rattle.im_check_statement_forms.specs.Done.{StatementDone, HeadDone}
use Rattle.im_check_statement_forms.specs.Labelling.{IsSelected, no_labels, place_of}
use Rattle.im_check_statement_forms.specs.Opening.{with_scope, IsOpened}
use Rattle.im_check_statement_forms.proofs.Asking.{valued, asked_broken, asked_fault}
use Rattle.im_check_statement_forms.proofs.Behind.{site_behind, opened_site, opened_structs, opened_declared, closed_again}
use Rattle.im_check_statement_forms.proofs.Rows.{count_from}
use Rattle.im_check_statements.specs.Checked.{looped_in, switched_in, CasesDone}
use Rattle.im_check_statement_forms.proofs.Parts.{moved_within, part_fault}
use Rattle.im_check_statements.proofs.Moved.{moved_statement, behind_both}
use Rattle.im_check_statements.proofs.Within.{while_within, do_within, for_within, switch_within}

-- `while` and `do`

pub done_while : {w : Position} {b0 b1 b2 : Body} {e : t.Expression} {c : t.Statement} {test : re.Expr} {u x : rs.Stmt} (at : ℕ)
    → Asked condition_asks valued b0 e b1 test
    → StatementDone (looped_in w) b1 c b2 u
    → ((types : Table) → stmt_of types x ≡ p.While (expr_of types test) (stmt_of types u))
    → StatementDone w b0 (t.while_statement at e c) b2 x
done_while {w = w} {b0 = b0} {e = e} {c = c} {u = u} at q first made =
    let types = b0.place.structs in
    let m = and_then (just_strings (strings_in e)) first.added in
    record {
      added = m;
      past = past_then q.past first.past;
      typed =
          subst (λ z. TypedStatement (site_of b0 w) (t.while_statement at e c) z m) (sym (made types ∙ ap (λ z. p.While z (stmt_of types u)) q.is))
          (of_while q.typed q.meets (moved_statement u (site_behind (looped_in w) q.past) (structs_stay q.past.added) first.typed));
      within = while_within q.within (moved_within (site_behind (looped_in w) q.past) first.within);
    }

pub while_test_fault : (w : Position) (s : Body) (at : ℕ) (e : t.Expression) (c : t.Statement) (f : Stop)
    → IsAskedFault condition_asks s e at f → IsBodyFault s w (a_statement (t.while_statement at e c)) f
while_test_fault w s at e c = asked_fault s w (a_statement (t.while_statement at e c)) condition_asks e at b.while_condition (λ rule x. b.at_while) refl

pub while_body_fault : {b0 b1 : Body} {e : t.Expression} {test : re.Expr} (w : Position) (at : ℕ) (c : t.Statement) (f : Stop)
    → Asked condition_asks valued b0 e b1 test
    → IsBodyFault b1 (looped_in w) (a_statement c) f → IsBodyFault b0 w (a_statement (t.while_statement at e c)) f
while_body_fault {b0 = b0} {b1 = b1} w at c f q h = part_fault b0 b1 (looped_in w) w b.while_body (site_behind (looped_in w) q.past) f h

pub done_do : {w : Position} {b0 b1 b2 : Body} {e : t.Expression} {c : t.Statement} {test : re.Expr} {u x : rs.Stmt} (at : ℕ)
    → StatementDone (looped_in w) b0 c b1 u
    → Asked condition_asks valued b1 e b2 test
    → ((types : Table) → stmt_of types x ≡ p.DoWhile (stmt_of types u) (expr_of types test))
    → StatementDone w b0 (t.do_statement at c e) b2 x
done_do {w = w} {b0 = b0} {b1 = b1} {e = e} {c = c} {test = test} {u = u} at first q made =
    let types = b0.place.structs in
    let m = and_then first.added (just_strings (strings_in e)) in
    let typed' : Typed (past first.added (site_of b0 w)).context e q.term = subst (λ (z : Site). Typed z.context e q.term) (past_site first.past w) q.typed in
    let is' : expr_of types test ≡ valued (structs_of types) q.term = subst (λ z. expr_of z test ≡ valued (structs_of z) q.term) (structs_stay first.past.added) q.is in
    record {
      added = m;
      past = past_then first.past q.past;
      typed =
          subst (λ z. TypedStatement (site_of b0 w) (t.do_statement at c e) z m) (sym (made types ∙ ap (λ z. p.DoWhile (stmt_of types u) z) is'))
          (of_do first.typed typed' q.meets);
      within = do_within first.typed first.within (subst (λ (z : Site). IsWithin z.context (an_expression e)) (past_site first.past w) q.within);
    }

pub do_body_fault : (w : Position) (b0 : Body) (at : ℕ) (e : t.Expression) (c : t.Statement) (f : Stop)
    → IsBodyFault b0 (looped_in w) (a_statement c) f → IsBodyFault b0 w (a_statement (t.do_statement at c e)) f
do_body_fault w b0 at e c f h = part_fault b0 b0 (looped_in w) w b.do_body refl f h

pub do_test_fault : {b0 b1 : Body} {c : t.Statement} {u : rs.Stmt} (w : Position) (at : ℕ) (e : t.Expression) (f : Stop)
    → StatementDone (looped_in w) b0 c b1 u
    → IsAskedFault condition_asks b1 e at f
    → IsBodyFault b0 w (a_statement (t.do_statement at c e)) f
do_test_fault {b0 = b0} {c = c} w at e (Rule rule token) first h =
    let here' : AskedBreaks condition_asks (past first.added (site_of b0 w)).context e at rule token =
    subst (λ (z : Site). AskedBreaks condition_asks z.context e at rule token) (past_site first.past w) h in
    asked_broken (site_of b0 w) (a_statement (t.do_statement at c e)) (b.do_condition first.typed) (λ x. b.at_do first.typed) refl here'
do_test_fault w at e (Large bytes) first h = (size_in_inner (b.do_condition first.typed) (subst (λ (z : Site). Sized z.context (an_expression e) bytes) (past_site first.past w) h.0), h.1)
do_test_fault w at e Memory first h = tt

-- `for`

turn_site : {b0 b1 : Body} {i : t.ForInit} {c n : t.MaybeExpression} {h : ForHead} (w : Position) → (d : HeadDone b0 i c n b1 h) → site_of b1 (looped_in w) ≡ in_loop (past_maybe n (past_maybe c (site_of d.begun w)))
turn_site {c = c} {n = n} w d =
    site_behind (looped_in w) d.past ∙ ap (λ z. record (site_of d.begun (looped_in w)) { context = z }) (behind_both (strings_maybe c) (strings_maybe n) (site_of d.begun w).context)

pub done_for : {w : Position} {b0 b1 b2 b3 : Body} {i : t.ForInit} {c n : t.MaybeExpression} {turn : t.Statement} {h : ForHead} {u x : rs.Stmt} (at : ℕ)
    → HeadDone b0 i c n b1 h
    → StatementDone (looped_in w) b1 turn b2 u
    → b3 ≡ with_scope (take (length b0.place.scope) b2.place.scope) b2
    → ((types : Table) → stmt_of types x ≡ p.For (stmt_of types h.first) (expr_of types h.test) (expr_of types h.step) (stmt_of types u))
    → StatementDone w b0 (t.for_statement at i c n turn) b3 x
done_for {w = w} {b0 = b0} {i = i} {c = c} {n = n} {turn = turn} {u = u} at d body closed made =
    let m = and_then d.added (and_then (just_strings (strings_maybe c ++ strings_maybe n)) body.added) in
    let inner = moved_statement u (turn_site w d) (structs_stay d.past.added ∙ structs_stay d.behind.added) body.typed in
    record {
      added = m;
      past = closed_again (declared_then d.behind (declared_past (past_then d.past body.past))) closed;
      typed =
          subst (λ z. TypedStatement (site_of b0 w) (t.for_statement at i c n turn) z m) (sym (made b0.place.structs))
          (of_for (d.begins w) (d.tests w) (d.steps w) inner);
      within = for_within (d.begins w) (d.within_beginning w) d.within_test (d.within_step w) (moved_within (turn_site w d) body.within);
    }

pub for_body_fault : {b0 b1 : Body} {i : t.ForInit} {c n : t.MaybeExpression} {h : ForHead} (w : Position) (at : ℕ) (turn : t.Statement) (f : Stop)
    → HeadDone b0 i c n b1 h
    → IsBodyFault b1 (looped_in w) (a_statement turn) f
    → IsBodyFault b0 w (a_statement (t.for_statement at i c n turn)) f
for_body_fault {b0 = b0} {b1 = b1} w at turn f d h = part_fault b0 b1 (looped_in w) w (b.for_body (d.begins w)) (turn_site w d) f h

-- `switch`

otherwise_same : (types : Table) (us : List rs.Stmt) (ks : List Case) (o : Option ℕ) → place_of o (length us) ≡ otherwise_of (record { statements = stmts_from types us; cases = ks; otherwise = o })
otherwise_same types us ks None = sym (count_from types us)
otherwise_same types us ks (Some n) = refl

block_site : {b0 b1 b2 : Body} {e : t.Expression} {x : Selector} (w : Position) → IsSelected b0 e b1 x → IsOpened b1 b2 → site_of b2 (switched_in w) ≡ in_switch (in_block (past_expression e (site_of b0 w)))
block_site w q opened = opened_site (switched_in w) opened ∙ ap in_block (site_behind (switched_in w) q.past)

pub done_switch : {w : Position} {b0 b1 b2 b3 b4 : Body} {e : t.Expression} {x : Selector} {xs : List BlockItem} {us : List rs.Stmt} {ks : List Case} {otherwise : Option ℕ} {y : rs.Stmt} (at at' : ℕ)
    → IsSelected b0 e b1 x
    → IsOpened b1 b2
    → CasesDone x.ty (switched_in w) b2 xs b3 us ks otherwise
    → b4 ≡ with_scope (take (length b1.place.scope) b3.place.scope) b3
    → ((types : Table) → stmt_of types y ≡ p.Switch (expr_of types x.value) ks (place_of otherwise (length us)) (stmts_from types us))
    → StatementDone w b0 (t.switch_statement at e (t.block at' (block_items_of xs))) b4 y
done_switch {w = w} {b0 = b0} {b1 = b1} {b2 = b2} {e = e} {x = x} {xs = xs} {us = us} {ks = ks} {otherwise = otherwise} {y = y} at at' q opened d closed made =
    let types = b0.place.structs in
    let s = site_of b0 w in
    let v = r.value_of (structs_of types) q.term in
    let i = switch_type v in
    let z = in_switch (in_block (past_expression e s)) in
    let m = and_then (just_strings (strings_in e)) d.added in
    let made' : stmt_of types y ≡ p.Switch (as_integer i v) ks (otherwise_of (record { statements = stmts_from types us; cases = ks; otherwise = otherwise })) (stmts_from types us) =
    made types ∙ ap (λ a. p.Switch a ks (place_of otherwise (length us)) (stmts_from types us)) q.is ∙ ap (λ a. p.Switch (as_integer i v) ks a (stmts_from types us)) (otherwise_same types us ks otherwise) in
    let placed : TypedCases x.ty z 0 no_labels (block_items_of xs) (record { statements = stmts_from b2.place.structs us; cases = ks; otherwise = otherwise }) d.added =
    subst (λ a. TypedCases x.ty a 0 no_labels (block_items_of xs) (record { statements = stmts_from b2.place.structs us; cases = ks; otherwise = otherwise }) d.added) (block_site w q opened) d.typed in
    let told : TypedCases x.ty z 0 no_labels (block_items_of xs) (record { statements = stmts_from types us; cases = ks; otherwise = otherwise }) d.added =
    subst (λ a. TypedCases x.ty z 0 no_labels (block_items_of xs) (record { statements = stmts_from a us; cases = ks; otherwise = otherwise }) d.added) (opened_structs opened ∙ structs_stay q.past.added) placed in
    let typed' : TypedCases i z 0 no_labels (block_items_of xs) (record { statements = stmts_from types us; cases = ks; otherwise = otherwise }) d.added =
    subst (λ a. TypedCases a z 0 no_labels (block_items_of xs) (record { statements = stmts_from types us; cases = ks; otherwise = otherwise }) d.added) q.type told in
    record {
      added = m;
      past = past_then q.past (closed_again (opened_declared opened d.behind) closed);
      typed = subst (λ a. TypedStatement s (t.switch_statement at e (t.block at' (block_items_of xs))) a m) (sym made') (of_switch q.typed q.meets typed');
      within = switch_within q.typed q.within (subst (λ a. IsBodyWithin z (b.some_cases a 0 no_labels (block_items_of xs))) q.type (moved_within (block_site w q opened) d.within));
    }

pub selector_fault : (w : Position) (s : Body) (at : ℕ) (e : t.Expression) (l : t.Block) (f : Stop)
    → IsAskedFault switch_asks s e at f → IsBodyFault s w (a_statement (t.switch_statement at e l)) f
selector_fault w s at e l = asked_fault s w (a_statement (t.switch_statement at e l)) switch_asks e at b.switched (λ rule x. b.at_switch) refl

pub cases_fault : {b0 b1 b2 : Body} {e : t.Expression} {x : Selector} (w : Position) (at at' : ℕ) (is : t.BlockItems) (f : Stop)
    → IsSelected b0 e b1 x
    → IsOpened b1 b2
    → IsBodyFault b2 (switched_in w) (b.some_cases x.ty 0 no_labels is) f
    → IsBodyFault b0 w (a_statement (t.switch_statement at e (t.block at' is))) f
cases_fault {b0 = b0} {b2 = b2} w at at' is f q opened h =
    part_fault b0 b2 (switched_in w) w (b.switch_block q.typed) (block_site w q opened) f (subst (λ i. IsBodyFault b2 (switched_in w) (b.some_cases i 0 no_labels is) f) q.type h)
