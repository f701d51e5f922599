-- The head of a `for`.
use Rattle.std.proofs.Common.{◌≡◌, ℕ, pos, List, [], ◌∷◌, ◌++◌, refl, sym, ap, ◌∙◌, subst}
use Rattle.im_ctree.specs.Tree as t
use Rattle.im_typed.specs.Program as p
use Rattle.im_typed.specs.ProgramOf.{expr_of, stmt_of}
use Rattle.im_typed.specs.declared.expression.Expr as re
use Rattle.im_typed.specs.declared.statement.Stmt as rs
use Rattle.im_check_locals.specs.im_rules.Demands.{Demand}
use Rattle.im_check_locals.specs.im_rules.Terms as r
use Rattle.im_check_locals.specs.im_rules.Strings.{strings_in}
use Rattle.im_check_locals.specs.im_rules.Statements.{Site, Added, nothing_added, just_strings, past_maybe, past_expression, in_block, condition_asks, MayTest, MayStep, one_or_zero, no_test, a_test, no_step, a_step, Begins, by_declaration, by_nothing, by_expression}
use Rattle.im_check_locals.specs.im_rules.BodyBreaks as b
use Rattle.im_check_locals.specs.im_rules.Breaks.{an_expression}
use Rattle.im_check_locals.specs.im_rules.BodyBreaks.{BodyBroken, here_in_body, in_inner, in_step, a_statement}
use Rattle.im_check_locals.specs.im_rules_limits.Limits.{Sized, size_in_inner, size_in_step}
use Rattle.im_check_scopes.specs.declared.entity.Entry.TheVariants.{Opened}
use Rattle.im_check_stop.specs.declared.stop.Stop.{Stop}
use Rattle.im_check_stop.specs.declared.stop.Stop.TheVariants.{Rule, Large, Memory}
use Rattle.im_check_stop.specs.Answers.{IsNoRule}
use Rattle.im_check_place.specs.Contexts.{context_of}
use Rattle.im_check_sites.specs.declared.body.Body.{Body}
use Rattle.im_check_sites.specs.declared.position.Position.{Position}
use Rattle.im_check_sites.specs.Sites.{site_of}
use Rattle.im_check_sites.specs.Stmts.{stmts_from}
use Rattle.im_check_sites.proofs.Sites.{past_none, past_then, declared_none, declared_past, structs_stay}
use Rattle.im_check_locals.specs.Declarations.{DeclarationDone, IsDeclarationFault}
use Rattle.im_check_statement_forms.specs.declared.heads.ForHead.{ForHead}
use Rattle.im_check_statement_forms.specs.Asked.{Asked, AskedBreaks, in_it, of_it, IsAskedFault}
use Rattle.im_check_statement_forms.specs.Done.{BeginDone, IsBeginFault, MaybeWithin, TestDone, StepDone, IsMaybeFault, HeadDone, IsHeadFault}
use Rattle.im_check_statement_forms.specs.Opening.{IsOpened}
use Rattle.im_check_statement_forms.proofs.Asking.{valued}
use Rattle.im_check_statement_forms.proofs.Behind.{site_behind, opened_site, opened_structs, opened_declared}
use Rattle.im_check_statement_forms.proofs.Parts.{moved_within, part_fault}
use Rattle.im_check_statement_forms.proofs.Within.{begun_declaration_within, begun_nothing_within, begun_expression_within}

pub begun_by_declaration : {s0 s1 : Body} {done done' : List rs.Stmt} {d : t.Declaration} (u : rs.Stmt)
    → DeclarationDone s0 s1 done done' d
    → done ≡ []
    → stmt_of s0.place.structs u ≡ p.Block (stmts_from s0.place.structs done')
    → BeginDone s0 (t.for_declaration d) s1 u
begun_by_declaration {s0 = s0} {s1 = s1} {done' = done'} {d = d} u h none made = record {
  entries = h.entries;
  added = h.added;
  behind = h.behind;
  begins = λ w.
      let same : done' ≡ h.statements = h.done_grown ∙ ap (λ z. z ++ h.statements) none in
      subst (λ z. Begins (site_of s0 w) (t.for_declaration d) z h.added (site_of s1 w)) (sym (made ∙ ap (λ z. p.Block (stmts_from s0.place.structs z)) same)) (by_declaration (h.typed w));
  within = λ w. begun_declaration_within (h.within w);
}

pub begun_by_nothing : (s : Body) (u : rs.Stmt) → stmt_of s.place.structs u ≡ p.Block p.no_stmts → BeginDone s (t.for_expression t.no_expression) s u
begun_by_nothing s u made = record {
  entries = [];
  added = nothing_added;
  behind = declared_none s;
  begins = λ w. subst (λ z. Begins (site_of s w) (t.for_expression t.no_expression) z nothing_added (site_of s w)) (sym made) by_nothing;
  within = λ w. begun_nothing_within;
}

pub begun_by_expression : {s0 s1 : Body} {e : t.Expression} {x : re.Expr} (u : rs.Stmt)
    → Asked (λ x. []) valued s0 e s1 x
    → stmt_of s0.place.structs u ≡ p.Do (expr_of s0.place.structs x)
    → BeginDone s0 (t.for_expression (t.an_expression e)) s1 u
begun_by_expression {s0 = s0} {s1 = s1} {e = e} u d made = record {
  entries = [];
  added = just_strings (strings_in e);
  behind = declared_past d.past;
  begins = λ w.
      subst (λ z. Begins (site_of s0 w) (t.for_expression (t.an_expression e)) (stmt_of s0.place.structs u) (just_strings (strings_in e)) z) (sym (site_behind w d.past))
      (subst (λ z. Begins (site_of s0 w) (t.for_expression (t.an_expression e)) z (just_strings (strings_in e)) (past_expression e (site_of s0 w))) (sym (made ∙ ap p.Do d.is)) (by_expression d.typed));
  within = λ w. begun_expression_within d.within;
}

pub begun_declaration_fault : (s : Body) (d : t.Declaration) (f : Stop) → IsDeclarationFault s d f → IsBeginFault s (t.for_declaration d) f
begun_declaration_fault s d f h = λ w. part_fault s s w w b.begun_by refl f (h w)

begun_broken : (s : Body) {e : t.Expression} {rule token : ℕ} (w : Position) → AskedBreaks (λ x. []) (context_of s.place) e 0 rule token → BodyBroken (site_of s w) (b.a_beginning (t.for_expression (t.an_expression e))) rule token
begun_broken s w (in_it h) = in_inner b.begun h
begun_broken s w (of_it d h) = absurd h

pub begun_expression_fault : (s : Body) (e : t.Expression) (f : Stop) → IsAskedFault (λ x. []) s e 0 f → IsBeginFault s (t.for_expression (t.an_expression e)) f
begun_expression_fault s e (Rule rule token) h = λ w. begun_broken s w h
begun_expression_fault s e (Large bytes) h = λ w. (size_in_inner b.begun h.0, h.1)
begun_expression_fault s e Memory h = λ w. tt

-- conditions and steps

pub tests_by : {s0 s1 : Body} {e : t.Expression} {x : re.Expr} → Asked condition_asks valued s0 e s1 x → TestDone s0 (t.an_expression e) s1 x
tests_by {s0 = s0} {e = e} d = record {
  tests = λ w. subst (λ z. MayTest (site_of s0 w) (t.an_expression e) z) (sym d.is) (a_test d.typed d.meets);
  past = d.past;
  within = d.within;
}

pub steps_by : {s0 s1 : Body} {e : t.Expression} {x : re.Expr} → Asked (λ x. []) valued s0 e s1 x → StepDone s0 (t.an_expression e) s1 x
steps_by {s0 = s0} {e = e} d = record {
  steps = λ w. subst (λ z. MayStep (site_of s0 w) (t.an_expression e) z) (sym d.is) (a_step d.typed);
  past = d.past;
  within = d.within;
}

pub tests_none : (s : Body) (x : re.Expr) → expr_of s.place.structs x ≡ one_or_zero (pos 1) → TestDone s t.no_expression s x
tests_none s x e = record { tests = λ w. subst (λ z. MayTest (site_of s w) t.no_expression z) (sym e) no_test; past = past_none s; within = tt }

pub steps_none : (s : Body) (x : re.Expr) → expr_of s.place.structs x ≡ one_or_zero (pos 0) → StepDone s t.no_expression s x
steps_none s x e = record { steps = λ w. subst (λ z. MayStep (site_of s w) t.no_expression z) (sym e) no_step; past = past_none s; within = tt }

pub maybe_fault : (asks : r.Term → List Demand) (s : Body) (e : t.Expression) (at : ℕ) (f : Stop) → IsAskedFault asks s e at f → IsMaybeFault asks s (t.an_expression e) at f
maybe_fault asks s e at (Rule rule token) h = h
maybe_fault asks s e at (Large bytes) h = h
maybe_fault asks s e at Memory h = tt

-- the head, behind its scope that is opened

opened_begins : {s0 s1 s2 : Body} {i : t.ForInit} {u : rs.Stmt} → IsOpened s0 s1 → (d : BeginDone s1 i s2 u) → (w : Position)
    → Begins (in_block (site_of s0 w)) i (stmt_of s0.place.structs u) d.added (site_of s2 w)
opened_begins {s0 = s0} {s1 = s1} {s2 = s2} {i = i} {u = u} opened d w =
    subst (λ z. Begins z i (stmt_of s0.place.structs u) d.added (site_of s2 w)) (opened_site w opened)
    (subst (λ z. Begins (site_of s1 w) i (stmt_of z u) d.added (site_of s2 w)) (opened_structs opened) (d.begins w))

pub done_head : {s0 s1 s2 s3 s4 : Body} {i : t.ForInit} {c n : t.MaybeExpression} (h : ForHead)
    → IsOpened s0 s1
    → BeginDone s1 i s2 h.first
    → TestDone s2 c s3 h.test
    → StepDone s3 n s4 h.step
    → HeadDone s0 i c n s4 h
done_head {s0 = s0} {s1 = s1} {s2 = s2} {s3 = s3} {c = c} {n = n} h opened d test step =
    let same2 : s2.place.structs ≡ s0.place.structs = structs_stay d.behind.added ∙ opened_structs opened in
    let same3 : s3.place.structs ≡ s0.place.structs = structs_stay test.past.added ∙ same2 in
    record {
      begun = s2;
      entries = Opened ∷ d.entries;
      added = d.added;
      behind = opened_declared opened d.behind;
      begins = opened_begins opened d;
      tests = λ w. subst (λ z. MayTest (site_of s2 w) c (expr_of z h.test)) same2 (test.tests w);
      steps = λ w. subst (λ z. MayStep z n (expr_of s0.place.structs h.step)) (site_behind w test.past) (subst (λ z. MayStep (site_of s3 w) n (expr_of z h.step)) same3 (step.steps w));
      past = past_then test.past step.past;
      within_beginning = λ w. moved_within (opened_site w opened) (d.within w);
      within_test = test.within;
      within_step = λ w. subst (λ (z : Site). MaybeWithin z.context n) (site_behind w test.past) step.within;
    }

pub head_begin_fault : {s0 s1 : Body} (at : ℕ) (i : t.ForInit) (c n : t.MaybeExpression) (f : Stop) → IsOpened s0 s1 → IsBeginFault s1 i f → IsHeadFault s0 at i c n f
head_begin_fault {s0 = s0} {s1 = s1} at i c n f opened h = λ w turn. part_fault s0 s1 w w b.for_beginning (opened_site w opened) f (h w)

condition_broken : {s z : Site} {i : t.ForInit} {e : t.Expression} {n : t.MaybeExpression} {f : p.Stmt} {m : Added} {at rule token : ℕ} (turn : t.Statement)
    → Begins (in_block s) i f m z
    → AskedBreaks condition_asks z.context e at rule token
    → BodyBroken s (a_statement (t.for_statement at i (t.an_expression e) n turn)) rule token
condition_broken turn d (in_it h) = in_step (b.for_condition d) h
condition_broken turn d (of_it x h) = here_in_body (b.at_for d x h)

pub head_test_fault : {s0 s1 s2 : Body} {i : t.ForInit} {u : rs.Stmt} (at : ℕ) (c n : t.MaybeExpression) (f : Stop)
    → IsOpened s0 s1
    → BeginDone s1 i s2 u
    → IsMaybeFault condition_asks s2 c at f
    → IsHeadFault s0 at i c n f
head_test_fault at t.no_expression n (Rule rule token) opened d h = absurd h
head_test_fault at (t.an_expression e) n (Rule rule token) opened d h = λ w turn. condition_broken turn (opened_begins opened d w) h
head_test_fault at t.no_expression n (Large bytes) opened d h = absurd h
head_test_fault at (t.an_expression e) n (Large bytes) opened d h = λ w turn. (size_in_step (b.for_condition (opened_begins opened d w)) h.0, h.1)
head_test_fault at c n Memory opened d h = λ w turn. tt

step_broken : {s z : Site} {i : t.ForInit} {e : t.Expression} {c : t.MaybeExpression} {f : p.Stmt} {m : Added} {at rule token : ℕ} (turn : t.Statement)
    → Begins (in_block s) i f m z
    → AskedBreaks (λ x. []) (past_maybe c z).context e 0 rule token
    → BodyBroken s (a_statement (t.for_statement at i c (t.an_expression e) turn)) rule token
step_broken turn d (in_it h) = in_step (b.for_step d) h
step_broken turn d (of_it x h) = absurd h

pub head_step_fault : {s0 s1 s2 s3 : Body} {i : t.ForInit} {u : rs.Stmt} {c : t.MaybeExpression} {x : re.Expr} (at : ℕ) (n : t.MaybeExpression) (f : Stop)
    → IsOpened s0 s1
    → BeginDone s1 i s2 u
    → TestDone s2 c s3 x
    → IsMaybeFault (λ x. []) s3 n 0 f
    → IsHeadFault s0 at i c n f
head_step_fault at t.no_expression (Rule rule token) opened d test h = absurd h
head_step_fault at (t.an_expression e) (Rule rule token) opened d test h = λ w turn.
    step_broken turn (opened_begins opened d w) (subst (λ (z : Site). AskedBreaks (λ x. []) z.context e 0 rule token) (site_behind w test.past) h)
head_step_fault at t.no_expression (Large bytes) opened d test h = absurd h
head_step_fault at (t.an_expression e) (Large bytes) opened d test h = λ w turn.
    (size_in_step (b.for_step (opened_begins opened d w)) (subst (λ (z : Site). Sized z.context (an_expression e) bytes) (site_behind w test.past) h.0), h.1)
head_step_fault at n Memory opened d test h = λ w turn. tt

-- no scope is opened for want of memory
pub head_no_rule : (s : Body) (at : ℕ) (i : t.ForInit) (c n : t.MaybeExpression) (f : Stop) → IsNoRule f → IsHeadFault s at i c n f
head_no_rule s at i c n (Rule rule token) h = absurd h
head_no_rule s at i c n (Large bytes) h = absurd h
head_no_rule s at i c n Memory h = λ w turn. tt
