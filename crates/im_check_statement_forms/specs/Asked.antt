-- What is answered of an expression of which a statement asks something more.
use Rattle.std.specs.Prelude.{◌≡◌, ◌<◌, ℕ, List, MatchResult, Result}
use Rattle.im_ctree.specs.Tree as t
use Rattle.im_ctype.specs.Table.{structs_of}
use Rattle.im_ctype.specs.Types.{Structs}
use Rattle.im_typed.specs.Program as p
use Rattle.im_typed.specs.ProgramOf.{expr_of}
use Rattle.im_typed.specs.declared.expression.Expr as re
use Rattle.im_check_locals.specs.im_rules.Context.{Context}
use Rattle.im_check_locals.specs.im_rules.Demands.{Demand, Meets, Refuses}
use Rattle.im_check_locals.specs.im_rules.Statements.{just_strings}
use Rattle.im_check_locals.specs.im_rules.Strings.{strings_in}
use Rattle.im_check_locals.specs.im_rules.Terms as r
use Rattle.im_check_locals.specs.im_rules.Typed.{Typed}
use Rattle.im_check_locals.specs.im_rules.Breaks.{Broken, an_expression}
use Rattle.im_check_locals.specs.im_rules_limits.Limits.{size_limit, Sized, IsWithin}
use Rattle.im_check_stop.specs.declared.stop.Stop.{Stop}
use Rattle.im_check_stop.specs.declared.stop.Stop.TheVariants.{Rule, Large, Memory}
use Rattle.im_check_operands.specs.declared.term.Term.{Term}
use Rattle.im_check_operands.specs.Shape.{term_in}
use Rattle.im_check_locals.specs.im_check_declarators.Suffixes.{IsFault}
use Rattle.im_check_place.specs.Contexts.{context_of}
use Rattle.im_check_sites.specs.declared.body.Body.{Body}
use Rattle.im_check_sites.specs.Sites.{IsPast}

-- an expression's term, what it leaves, and each size in it within the limit; or a node in it that is at fault
abbrev pub IsTermRead : Body → t.Expression → Body → Result Term Stop → Type 0
IsTermRead before e after result = MatchResult result (λ x. Typed (context_of before.place) e (term_in before.place.structs x) × IsPast (just_strings (strings_in e)) before after × IsWithin (context_of before.place) (an_expression e)) (IsFault (context_of before.place) (an_expression e))

-- it is typed, meets what is asked, becomes this, leaves its string literals, and no size in it is over the limit
pub record Asked (asks : r.Term → List Demand) (becomes : Structs → r.Term → p.Expr) (before : Body) (e : t.Expression) (after : Body) (x : re.Expr) : Type 0 where
  pub term : r.Term
  pub typed : Typed (context_of before.place) e term
  pub meets : Meets (asks term)
  pub is : expr_of before.place.structs x ≡ becomes (structs_of before.place.structs) term
  pub past : IsPast (just_strings (strings_in e)) before after
  pub within : IsWithin (context_of before.place) (an_expression e)

-- a node in it breaks a rule; or it is typed, and refused at the token of what asks
pub data AskedBreaks (asks : r.Term → List Demand) (c : Context) (e : t.Expression) (at : ℕ) (rule : ℕ) : ℕ → Type 0 where
  in_it : {token : ℕ} → Broken c (an_expression e) rule token → AskedBreaks asks c e at rule token
  of_it : {x : r.Term} → Typed c e x → Refuses rule (asks x) → AskedBreaks asks c e at rule at

abbrev pub IsAskedFault : (r.Term → List Demand) → Body → t.Expression → ℕ → Stop → Type 0
IsAskedFault asks before e at (Rule rule token) = AskedBreaks asks (context_of before.place) e at rule token
IsAskedFault asks before e at (Large bytes) = Sized (context_of before.place) (an_expression e) bytes × (size_limit < bytes)
IsAskedFault asks before e at Memory = Unit {0}

abbrev pub IsAsked : (r.Term → List Demand) → (Structs → r.Term → p.Expr) → Body → t.Expression → ℕ → Body → Result re.Expr Stop → Type 0
IsAsked asks becomes before e at after result = MatchResult result (Asked asks becomes before e after) (IsAskedFault asks before e at)
