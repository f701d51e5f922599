-- From a checked expression to what is asked of it.
use Rattle.std.proofs.Common.{◌≡◌, ℕ, List, subst}
use Rattle.im_ctree.specs.Tree as t
use Rattle.im_ctype.specs.Types.{Structs}
use Rattle.im_typed.specs.Program as p
use Rattle.im_check_locals.specs.im_rules.Context.{Context}
use Rattle.im_check_locals.specs.im_rules.Demands.{Demand, Refuses}
use Rattle.im_check_locals.specs.im_rules.Terms as r
use Rattle.im_check_locals.specs.im_rules.Typed.{Typed}
use Rattle.im_check_locals.specs.im_rules.Breaks.{an_expression}
use Rattle.im_check_locals.specs.im_rules.Statements.{Site}
use Rattle.im_check_locals.specs.im_rules.BodyBreaks.{BodyNode, BodyBreaks, InnerPart, BodyBroken, here_in_body, in_inner, body_token}
use Rattle.im_check_locals.specs.im_rules_limits.Limits.{size_in_inner}
use Rattle.im_check_stop.specs.declared.stop.Stop.{Stop}
use Rattle.im_check_stop.specs.declared.stop.Stop.TheVariants.{Rule, Large, Memory}
use Rattle.im_check_stop.specs.Answers.{IsNoRule}
use Rattle.im_check_locals.specs.im_check_declarators.Suffixes.{IsFault}
use Rattle.im_check_place.specs.Contexts.{context_of}
use Rattle.im_check_sites.specs.declared.body.Body.{Body}
use Rattle.im_check_sites.specs.declared.position.Position.{Position}
use Rattle.im_check_sites.specs.Sites.{site_of, IsBodyFault}
use Rattle.im_check_statement_forms.specs.Asked.{AskedBreaks, in_it, of_it, IsAskedFault}

-- the value of an expression
abbrev pub valued : Structs → r.Term → p.Expr
valued known x = (r.value_of known x).expr

pub asked_inside : (asks : r.Term → List Demand) (b : Body) (e : t.Expression) (at : ℕ) (f : Stop) → IsFault (context_of b.place) (an_expression e) f → IsAskedFault asks b e at f
asked_inside asks b e at (Rule rule token) h = in_it h
asked_inside asks b e at (Large bytes) h = h
asked_inside asks b e at Memory h = tt

pub body_no_rule : (b : Body) (v : Position) (node : BodyNode) (f : Stop) → IsNoRule f → IsBodyFault b v node f
body_no_rule b v node (Rule rule token) h = absurd h
body_no_rule b v node (Large bytes) h = absurd h
body_no_rule b v node Memory h = tt

pub asked_broken : {asks : r.Term → List Demand} {c : Context} {e : t.Expression} {at rule token : ℕ} (z : Site) (node : BodyNode)
    → InnerPart z node c (an_expression e)
    → ((x : r.Term) → Typed c e x → Refuses rule (asks x) → BodyBreaks z rule node)
    → body_token node ≡ at
    → AskedBreaks asks c e at rule token
    → BodyBroken z node rule token
asked_broken z node part breaks same (in_it b) = in_inner part b
asked_broken {rule = rule} z node part breaks same (of_it {x = x} d refused) = subst (λ w. BodyBroken z node rule w) same (here_in_body (breaks x d refused))

-- what is answered of an expression that stands at the place where its node does
pub asked_fault : (b : Body) (v : Position) (node : BodyNode) (asks : r.Term → List Demand) (e : t.Expression) (at : ℕ)
    → InnerPart (site_of b v) node (context_of b.place) (an_expression e)
    → ((rule : ℕ) (x : r.Term) → Typed (context_of b.place) e x → Refuses rule (asks x) → BodyBreaks (site_of b v) rule node)
    → body_token node ≡ at
    → (f : Stop) → IsAskedFault asks b e at f → IsBodyFault b v node f
asked_fault b v node asks e at part breaks same (Rule rule token) h = asked_broken (site_of b v) node part (λ x. breaks rule x) same h
asked_fault b v node asks e at part breaks same (Large bytes) h = (size_in_inner part h.0, h.1)
asked_fault b v node asks e at part breaks same Memory h = tt
