-- Statements that have no statement in them.
use Rattle.std.proofs.Common.{◌≡◌, ℕ, ◌||◌, true, false, [], Some, None, inl, refl, sym, subst}
use Rattle.im_ctree.specs.Tree as t
use Rattle.im_ctype.specs.Types.{CType, is_void}
use Rattle.im_typed.specs.Program as p
use Rattle.im_typed.specs.ProgramOf.{stmt_of}
use Rattle.im_typed.specs.declared.expression.Expr as re
use Rattle.im_typed.specs.declared.statement.Stmt as rs
use Rattle.im_types.specs.Shape.{type_of}
use Rattle.im_check_locals.specs.im_rules.Conversions.{as_type}
use Rattle.im_check_locals.specs.im_rules.Rules.{rule_34_return}
use Rattle.im_check_locals.specs.im_rules.Terms as r
use Rattle.im_check_locals.specs.im_rules.Strings.{strings_in}
use Rattle.im_check_locals.specs.im_rules.Statements.{nothing_added, just_strings, return_value_asks, TypedStatement, of_nothing, of_expression, of_break, of_continue, of_return, of_return_value}
use Rattle.im_check_locals.specs.im_rules.BodyBreaks as b
use Rattle.im_check_locals.specs.im_rules.BodyBreaks.{here_in_body, in_inner, a_statement}
use Rattle.im_check_locals.specs.im_rules_limits.Limits.{size_in_inner, IsBodyWithin}
use Rattle.im_check_stop.specs.declared.stop.Stop.{Stop}
use Rattle.im_check_stop.specs.declared.stop.Stop.TheVariants.{Rule, Large, Memory}
use Rattle.im_check_sites.specs.declared.body.Body.{Body}
use Rattle.im_check_sites.specs.declared.position.Position.{Position}
use Rattle.im_check_sites.specs.Sites.{site_of, IsBodyFault}
use Rattle.im_check_sites.proofs.Sites.{past_none}
use Rattle.im_check_statement_forms.specs.Asked.{Asked, in_it, of_it, IsAskedFault}
use Rattle.im_check_statement_forms.specs.Done.{StatementDone}
use Rattle.im_check_statement_forms.proofs.Asking.{valued, asked_fault}
use Rattle.im_check_statement_forms.proofs.Within.{nothing_within, evaluated_within, return_within, returned_within, break_within, continue_within}

-- a statement that adds nothing
pub alone_done : {tree : t.Statement} {u : rs.Stmt} (v : Position) (s : Body) → TypedStatement (site_of s v) tree (stmt_of s.place.structs u) nothing_added → IsBodyWithin (site_of s v) (a_statement tree) → StatementDone v s tree s u
alone_done v s typed within = record { added = nothing_added; past = past_none s; typed = typed; within = within }

pub nothing_done : (v : Position) (s : Body) (at : ℕ) (u : rs.Stmt) → stmt_of s.place.structs u ≡ p.Block p.no_stmts → StatementDone v s (t.expression_statement at t.no_expression) s u
nothing_done v s at u e = alone_done v s (subst (λ z. TypedStatement (site_of s v) (t.expression_statement at t.no_expression) z nothing_added) (sym e) of_nothing) nothing_within

pub evaluated_done : {s0 s1 : Body} {e : t.Expression} {x : re.Expr} (v : Position) (at : ℕ) → Asked (λ x. []) valued s0 e s1 x
    → StatementDone v s0 (t.expression_statement at (t.an_expression e)) s1 (rs.Expr x)
evaluated_done {s0 = s0} {e = e} v at d = record {
  added = just_strings (strings_in e);
  past = d.past;
  typed = subst (λ z. TypedStatement (site_of s0 v) (t.expression_statement at (t.an_expression e)) (p.Do z) (just_strings (strings_in e))) (sym d.is) (of_expression d.typed);
  within = evaluated_within d.within;
}

pub evaluated_fault : (v : Position) (s : Body) (at : ℕ) (e : t.Expression) (f : Stop) → IsAskedFault (λ x. []) s e 0 f → IsBodyFault s v (a_statement (t.expression_statement at (t.an_expression e))) f
evaluated_fault v s at e (Rule rule token) (in_it h) = in_inner b.evaluated h
evaluated_fault v s at e (Rule rule token) (of_it d h) = absurd h
evaluated_fault v s at e (Large bytes) h = (size_in_inner b.evaluated h.0, h.1)
evaluated_fault v s at e Memory h = tt

-- `return`

with_value : (r : CType) → is_void r ≡ true → rule_34_return r false ≡ true
with_value r e = rw e refl

without_value : (r : CType) → is_void r ≡ false → rule_34_return r false ≡ false
without_value r e = rw e refl

pub bare_return : (v : Position) (s : Body) (at : ℕ) → true ≡ is_void (type_of s.result) → StatementDone v s (t.return_statement at t.no_expression) s (rs.Return None)
bare_return v s at e = alone_done v s (of_return (with_value (type_of s.result) (sym e), tt)) return_within

pub bare_fault : (v : Position) (s : Body) (at : ℕ) → false ≡ is_void (type_of s.result) → IsBodyFault s v (a_statement (t.return_statement at t.no_expression)) (Rule 34 at)
bare_fault v s at e = here_in_body (b.at_return (inl (refl, without_value (type_of s.result) (sym e))))

pub returned_done : {s0 s1 : Body} {e : t.Expression} {x : re.Expr} (v : Position) (at : ℕ)
    → Asked (return_value_asks (type_of s0.result)) (λ known x. as_type (type_of s0.result) (r.value_of known x)) s0 e s1 x
    → StatementDone v s0 (t.return_statement at (t.an_expression e)) s1 (rs.Return (Some x))
returned_done {s0 = s0} {e = e} v at d = record {
  added = just_strings (strings_in e);
  past = d.past;
  typed = subst (λ z. TypedStatement (site_of s0 v) (t.return_statement at (t.an_expression e)) (p.Return (Some z)) (just_strings (strings_in e))) (sym d.is) (of_return_value d.typed d.meets);
  within = returned_within d.within;
}

pub returned_fault : (v : Position) (s : Body) (at : ℕ) (e : t.Expression) (f : Stop) → IsAskedFault (return_value_asks (type_of s.result)) s e at f → IsBodyFault s v (a_statement (t.return_statement at (t.an_expression e))) f
returned_fault v s at e = asked_fault s v (a_statement (t.return_statement at (t.an_expression e))) (return_value_asks (type_of s.result)) e at b.returned (λ rule x. b.at_return_value) refl

-- what `return` asks of its value

pub value_for_void : (r : CType) → true ≡ is_void r → rule_34_return r true ≡ false
value_for_void r e = rw (sym e) refl

pub value_for_type : (r : CType) → false ≡ is_void r → rule_34_return r true ≡ true
value_for_type r e = rw (sym e) refl

-- `break` and `continue`

pub break_done : (v : Position) (s : Body) (at : ℕ) → true ≡ (v.in_loop || v.in_switch) → StatementDone v s (t.break_statement at) s rs.Break
break_done v s at e = alone_done v s (of_break (sym e, tt)) break_within

pub break_fault : (v : Position) (s : Body) (at : ℕ) → false ≡ (v.in_loop || v.in_switch) → IsBodyFault s v (a_statement (t.break_statement at)) (Rule 34 at)
break_fault v s at e = here_in_body (b.at_break (inl (refl, sym e)))

pub continue_done : (v : Position) (s : Body) (at : ℕ) → true ≡ v.in_loop → StatementDone v s (t.continue_statement at) s rs.Continue
continue_done v s at e = alone_done v s (of_continue (sym e, tt)) continue_within

pub continue_fault : (v : Position) (s : Body) (at : ℕ) → false ≡ v.in_loop → IsBodyFault s v (a_statement (t.continue_statement at)) (Rule 34 at)
continue_fault v s at e = here_in_body (b.at_continue (inl (refl, sym e)))

pub stray_case : (v : Position) (s : Body) (at : ℕ) (e : t.Expression) (d : t.Statement) → IsBodyFault s v (a_statement (t.case_statement at e d)) (Rule 34 at)
stray_case v s at e d = here_in_body (b.at_stray_case refl)

pub stray_default : (v : Position) (s : Body) (at : ℕ) (d : t.Statement) → IsBodyFault s v (a_statement (t.default_statement at d)) (Rule 34 at)
stray_default v s at d = here_in_body (b.at_stray_default refl)
