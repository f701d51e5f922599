-- What is answered of statements, and of the head of a `for`.
use Rattle.std.specs.Prelude.{ℕ, ◌<◌, List, ◌++◌, MatchResult, Result}
use Rattle.im_ctree.specs.Tree as t
use Rattle.im_typed.specs.ProgramOf.{expr_of, stmt_of}
use Rattle.im_typed.specs.declared.expression.Expr as re
use Rattle.im_typed.specs.declared.statement.Stmt as rs
use Rattle.im_check_locals.specs.im_rules.Demands.{Demand}
use Rattle.im_check_locals.specs.im_rules.Strings.{strings_maybe}
use Rattle.im_check_locals.specs.im_rules.Terms as r
use Rattle.im_check_locals.specs.im_rules.Statements.{Added, just_strings, in_block, past_maybe, MayTest, MayStep, Begins, TypedStatement}
use Rattle.im_check_locals.specs.im_rules.Context.{Context}
use Rattle.im_check_locals.specs.im_rules.Breaks.{an_expression}
use Rattle.im_check_locals.specs.im_rules.BodyBreaks.{a_beginning, a_statement}
use Rattle.im_check_locals.specs.im_rules_limits.Limits.{size_limit, Sized, IsWithin, IsBodyWithin}
use Rattle.im_check_scopes.specs.declared.entity.Entry.{Entry}
use Rattle.im_check_stop.specs.declared.stop.Stop.{Stop}
use Rattle.im_check_stop.specs.declared.stop.Stop.TheVariants.{Rule, Large, Memory}
use Rattle.im_check_place.specs.Contexts.{context_of}
use Rattle.im_check_sites.specs.declared.body.Body.{Body}
use Rattle.im_check_sites.specs.declared.position.Position.{Position}
use Rattle.im_check_sites.specs.Sites.{site_of, IsDeclared, IsPast, IsBodyFault}
use Rattle.im_check_statement_forms.specs.declared.heads.ForHead.{ForHead}
use Rattle.im_check_statement_forms.specs.Asked.{AskedBreaks}

-- what a statement is typed to, and what it leaves; no size in it is over the limit
pub record StatementDone (w : Position) (before : Body) (tree : t.Statement) (after : Body) (u : rs.Stmt) : Type 0 where
  pub added : Added
  pub past : IsPast added before after
  pub typed : TypedStatement (site_of before w) tree (stmt_of before.place.structs u) added
  pub within : IsBodyWithin (site_of before w) (a_statement tree)

-- a statement is typed, or a node in it is at fault
abbrev pub IsLeaf : Position → Body → t.Statement → Body → Result rs.Stmt Stop → Type 0
IsLeaf w before tree after result = MatchResult result (StatementDone w before tree after) (IsBodyFault before w (a_statement tree))

-- what a `for` begins with, wherever it stands
pub record BeginDone (before : Body) (i : t.ForInit) (after : Body) (u : rs.Stmt) : Type 0 where
  pub entries : List Entry
  pub added : Added
  pub behind : IsDeclared entries added before after
  pub begins : (w : Position) → Begins (site_of before w) i (stmt_of before.place.structs u) added (site_of after w)
  pub within : (w : Position) → IsBodyWithin (site_of before w) (a_beginning i)

abbrev pub IsBeginFault : Body → t.ForInit → Stop → Type 0
IsBeginFault before i f = (w : Position) → IsBodyFault before w (a_beginning i) f

-- no size is over the limit in an expression, where there is one
abbrev pub MaybeWithin : Context → t.MaybeExpression → Type 0
MaybeWithin c t.no_expression = Unit {0}
MaybeWithin c (t.an_expression e) = IsWithin c (an_expression e)

-- what it tests before each turn, and what ends each turn
pub record TestDone (before : Body) (c : t.MaybeExpression) (after : Body) (x : re.Expr) : Type 0 where
  pub tests : (w : Position) → MayTest (site_of before w) c (expr_of before.place.structs x)
  pub past : IsPast (just_strings (strings_maybe c)) before after
  pub within : MaybeWithin (context_of before.place) c

pub record StepDone (before : Body) (n : t.MaybeExpression) (after : Body) (x : re.Expr) : Type 0 where
  pub steps : (w : Position) → MayStep (site_of before w) n (expr_of before.place.structs x)
  pub past : IsPast (just_strings (strings_maybe n)) before after
  pub within : MaybeWithin (context_of before.place) n

-- an expression's fault, where there is one
abbrev pub MaybeFault : (r.Term → List Demand) → Body → t.MaybeExpression → ℕ → ℕ → ℕ → Type 0
MaybeFault asks before t.no_expression at rule token = ⊥
MaybeFault asks before (t.an_expression e) at rule token = AskedBreaks asks (context_of before.place) e at rule token

abbrev pub MaybeLarge : Context → t.MaybeExpression → ℕ → Type 0
MaybeLarge c t.no_expression bytes = ⊥
MaybeLarge c (t.an_expression e) bytes = Sized c (an_expression e) bytes × (size_limit < bytes)

abbrev pub IsMaybeFault : (r.Term → List Demand) → Body → t.MaybeExpression → ℕ → Stop → Type 0
IsMaybeFault asks before e at (Rule rule token) = MaybeFault asks before e at rule token
IsMaybeFault asks before e at (Large bytes) = MaybeLarge (context_of before.place) e bytes
IsMaybeFault asks before e at Memory = Unit {0}

-- what the head of a `for` leaves: its scope is open. The condition stands behind what the statement begins with
pub record HeadDone (before : Body) (i : t.ForInit) (c n : t.MaybeExpression) (after : Body) (h : ForHead) : Type 0 where
  pub begun : Body
  pub entries : List Entry
  pub added : Added
  pub behind : IsDeclared entries added before begun
  pub begins : (w : Position) → Begins (in_block (site_of before w)) i (stmt_of before.place.structs h.first) added (site_of begun w)
  pub tests : (w : Position) → MayTest (site_of begun w) c (expr_of before.place.structs h.test)
  pub steps : (w : Position) → MayStep (past_maybe c (site_of begun w)) n (expr_of before.place.structs h.step)
  pub past : IsPast (just_strings (strings_maybe c ++ strings_maybe n)) begun after
  pub within_beginning : (w : Position) → IsBodyWithin (in_block (site_of before w)) (a_beginning i)
  pub within_test : MaybeWithin (context_of begun.place) c
  pub within_step : (w : Position) → MaybeWithin (past_maybe c (site_of begun w)).context n

-- the head's fault is one of the statement, wherever it stands and whatever its body is
abbrev pub IsHeadFault : Body → ℕ → t.ForInit → t.MaybeExpression → t.MaybeExpression → Stop → Type 0
IsHeadFault before at i c n f = (w : Position) (turn : t.Statement) → IsBodyFault before w (a_statement (t.for_statement at i c n turn)) f
