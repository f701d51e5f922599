-- What the parts of a statement leave, put together.
use Rattle.std.proofs.Common.{◌≡◌, ℕ, List, length, take, Result, Ok, Err, MatchResult, refl, sym, ap, ◌∙◌, subst}
use Rattle.im_ctree.specs.Tree as t
use Rattle.im_ctree.specs.Shape.{block_items_of}
use Rattle.im_ctree.specs.declared.statement.BlockItem.{BlockItem}
use Rattle.im_ctype.specs.Table.{Table, structs_of}
use Rattle.im_typed.specs.Program as p
use Rattle.im_typed.specs.ProgramOf.{expr_of, stmt_of}
use Rattle.im_typed.specs.declared.expression.Expr as re
use Rattle.im_typed.specs.declared.statement.Stmt as rs
use Rattle.im_rules.specs.Strings.{strings_in}
use Rattle.im_rules.specs.Statements.{nothing_added, just_strings, and_then, past, condition_asks, TypedStatement, of_block, of_if, no_else, an_else}
use Rattle.im_rules.specs.BodyBreaks as b
use Rattle.im_rules.specs.BodyBreaks.{BodyNode, a_statement}
use Rattle.im_check_stop.specs.declared.stop.Stop.{Stop}
use Rattle.im_check_stop.specs.Answers.{IsNoRule}
use Rattle.im_check_sites.specs.declared.body.Body.{Body}
use Rattle.im_check_sites.specs.declared.position.Position.{Position}
use Rattle.im_check_sites.specs.Sites.{site_of, IsBodyFault}
use Rattle.im_check_sites.specs.Stmts.{stmts_from}
use Rattle.im_check_sites.proofs.Sites.{past_none, past_then, past_site, structs_stay}
use Rattle.im_check_statement_forms.specs.Asked.{Asked, IsAskedFault}
use Rattle.im_check_statement_forms.specs.Done.{StatementDone}
use Rattle.im_check_statement_forms.specs.Opening.{with_scope, IsOpened}
use Rattle.im_check_statement_forms.proofs.Asking.{valued, asked_fault, body_no_rule}
use Rattle.im_check_statement_forms.proofs.Behind.{site_behind, opened_site, opened_structs, opened_declared, closed_again}
use Rattle.im_check_statements.specs.Checked.{ItemsDone, BodyDone, alone}
use Rattle.im_check_statement_forms.proofs.Parts.{moved_within, part_fault}
use Rattle.im_check_statements.proofs.Moved.{moved_statement, moved_items}
use Rattle.im_check_statements.proofs.Within.{block_within, if_within, else_within, no_else_within}

pub done_block : {w : Position} {b0 b1 b2 b3 : Body} {xs : List BlockItem} {us : List rs.Stmt} {u : rs.Stmt} (at at' : ℕ)
    → IsOpened b0 b1
    → ItemsDone w b1 xs b2 us
    → b3 ≡ with_scope (take (length b0.place.scope) b2.place.scope) b2
    → ((types : Table) → stmt_of types u ≡ p.Block (stmts_from types us))
    → StatementDone w b0 (t.block_statement at (t.block at' (block_items_of xs))) b3 u
done_block {w = w} {b0 = b0} {xs = xs} {us = us} at at' opened d closed made = record {
  added = d.added;
  past = closed_again (opened_declared opened d.behind) closed;
  typed =
      subst (λ z. TypedStatement (site_of b0 w) (t.block_statement at (t.block at' (block_items_of xs))) z d.added) (sym (made b0.place.structs))
      (of_block (moved_items us (opened_site w opened) (opened_structs opened) d.typed));
  within = block_within (moved_within (opened_site w opened) d.within);
}

pub block_fault : {b0 b1 : Body} (w : Position) (at at' : ℕ) (is : t.BlockItems) (f : Stop) → IsOpened b0 b1 → IsBodyFault b1 w (b.some_items is) f → IsBodyFault b0 w (a_statement (t.block_statement at (t.block at' is))) f
block_fault {b0 = b0} {b1 = b1} w at at' is f opened h = part_fault b0 b1 w w b.block_items (opened_site w opened) f h

-- `if`

pub done_if : {w : Position} {b0 b1 b2 b3 : Body} {e : t.Expression} {c d : t.Statement} {test : re.Expr} {u v x : rs.Stmt} (at : ℕ)
    → Asked condition_asks valued b0 e b1 test
    → StatementDone w b1 c b2 u
    → StatementDone w b2 d b3 v
    → ((types : Table) → stmt_of types x ≡ p.If (expr_of types test) (stmt_of types u) (stmt_of types v))
    → StatementDone w b0 (t.if_statement at e c (t.a_statement d)) b3 x
done_if {w = w} {b0 = b0} {e = e} {c = c} {d = d} {u = u} {v = v} at q first second made =
    let types = b0.place.structs in
    let s = site_of b0 w in
    let m = and_then (just_strings (strings_in e)) (and_then first.added second.added) in
    let one = moved_statement u (site_behind w q.past) (structs_stay q.past.added) first.typed in
    let two = moved_statement v (past_site first.past w ∙ ap (past first.added) (site_behind w q.past)) (structs_stay first.past.added ∙ structs_stay q.past.added) second.typed in
    record {
      added = m;
      past = past_then q.past (past_then first.past second.past);
      typed =
          subst (λ z. TypedStatement s (t.if_statement at e c (t.a_statement d)) z m) (sym (made types ∙ ap (λ z. p.If z (stmt_of types u) (stmt_of types v)) q.is))
          (of_if q.typed q.meets one (an_else two));
      within = if_within q.within one (moved_within (site_behind w q.past) first.within) (else_within (moved_within (past_site first.past w ∙ ap (past first.added) (site_behind w q.past)) second.within));
    }

pub done_if_alone : {w : Position} {b0 b1 b2 : Body} {e : t.Expression} {c : t.Statement} {test : re.Expr} {u x : rs.Stmt} (at : ℕ) (v : rs.Stmt)
    → Asked condition_asks valued b0 e b1 test
    → StatementDone w b1 c b2 u
    → ((types : Table) → stmt_of types v ≡ p.Block p.no_stmts)
    → ((types : Table) → stmt_of types x ≡ p.If (expr_of types test) (stmt_of types u) (stmt_of types v))
    → StatementDone w b0 (t.if_statement at e c t.no_statement) b2 x
done_if_alone {w = w} {b0 = b0} {b2 = b2} {e = e} {c = c} {u = u} at v q first empty made =
    let types = b0.place.structs in
    let s = site_of b0 w in
    let m = and_then (just_strings (strings_in e)) (and_then first.added nothing_added) in
    let one = moved_statement u (site_behind w q.past) (structs_stay q.past.added) first.typed in
    record {
      added = m;
      past = past_then q.past (past_then first.past (past_none b2));
      typed =
          subst (λ z. TypedStatement s (t.if_statement at e c t.no_statement) z m)
          (sym (made types ∙ ap (λ z. p.If z (stmt_of types u) (stmt_of types v)) q.is ∙ ap (λ z. p.If (valued (structs_of types) q.term) (stmt_of types u) z) (empty types)))
          (of_if q.typed q.meets one no_else);
      within = if_within q.within one (moved_within (site_behind w q.past) first.within) no_else_within;
    }

pub if_test_fault : (w : Position) (s : Body) (at : ℕ) (e : t.Expression) (c : t.Statement) (d : t.MaybeStatement) (f : Stop)
    → IsAskedFault condition_asks s e at f → IsBodyFault s w (a_statement (t.if_statement at e c d)) f
if_test_fault w s at e c d = asked_fault s w (a_statement (t.if_statement at e c d)) condition_asks e at b.if_condition (λ rule x. b.at_if) refl

pub if_first_fault : {b0 b1 : Body} {e : t.Expression} {test : re.Expr} (w : Position) (at : ℕ) (c : t.Statement) (d : t.MaybeStatement) (f : Stop)
    → Asked condition_asks valued b0 e b1 test
    → IsBodyFault b1 w (a_statement c) f → IsBodyFault b0 w (a_statement (t.if_statement at e c d)) f
if_first_fault {b0 = b0} {b1 = b1} w at c d f q h = part_fault b0 b1 w w b.first_branch (site_behind w q.past) f h

pub if_second_fault : {w : Position} {b0 b1 b2 : Body} {e : t.Expression} {c : t.Statement} {test : re.Expr} {u : rs.Stmt} (at : ℕ) (d : t.Statement) (f : Stop)
    → Asked condition_asks valued b0 e b1 test
    → StatementDone w b1 c b2 u
    → IsBodyFault b2 w (a_statement d) f → IsBodyFault b0 w (a_statement (t.if_statement at e c (t.a_statement d))) f
if_second_fault {w = w} {b0 = b0} {b2 = b2} {u = u} at d f q first h =
    let one = moved_statement u (site_behind w q.past) (structs_stay q.past.added) first.typed in
    part_fault b0 b2 w w (b.second_branch one) (past_site first.past w ∙ ap (past first.added) (site_behind w q.past)) f (part_fault b2 b2 w w b.else_statement refl f h)

-- a function's body

pub done_body : {b0 b1 b2 : Body} {xs : List BlockItem} {us : List rs.Stmt} {u : rs.Stmt}
    → ItemsDone alone b0 xs b1 us
    → b2 ≡ with_scope (take (length b0.place.scope) b1.place.scope) b1
    → ((types : Table) → stmt_of types u ≡ p.Block (stmts_from types us))
    → BodyDone b0 xs b2 u
done_body {b0 = b0} {us = us} d closed made = record {
  added = d.added;
  past = closed_again d.behind closed;
  statements = stmts_from b0.place.structs us;
  is_block = made b0.place.structs;
  typed = d.typed;
  within = d.within;
}

-- from what is made of a statement's parts to the statement
pub made_of : (P Q : rs.Stmt → Type 0) (s : Body) (w : Position) (node : BodyNode) (result : Result rs.Stmt Stop)
    → ((u : rs.Stmt) → P u → Q u)
    → MatchResult result P IsNoRule
    → MatchResult result Q (IsBodyFault s w node)
made_of P Q s w node (Ok u) f h = f u h
made_of P Q s w node (Err e) f h = body_no_rule s w node e h
