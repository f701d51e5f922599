-- From the term of an expression to the value that is wanted of it.
use Rattle.std.proofs.Common.{◌≡◌, List, ap, subst}
use Rattle.im_ctree.specs.Tree as t
use Rattle.im_ctype.specs.Table.{Table, structs_of}
use Rattle.im_ctype.specs.Types.{Structs}
use Rattle.im_typed.specs.Program as p
use Rattle.im_typed.specs.ProgramOf.{expr_of}
use Rattle.im_typed.specs.declared.expression.Expr as re
use Rattle.im_check_locals.specs.im_rules.Demands.{Demand, Meets}
use Rattle.im_check_locals.specs.im_rules.Strings.{strings_in}
use Rattle.im_check_locals.specs.im_rules.Statements.{just_strings}
use Rattle.im_check_locals.specs.im_rules.Terms as r
use Rattle.im_check_locals.specs.im_rules.Typed.{Typed}
use Rattle.im_check_locals.specs.im_rules.Breaks.{an_expression}
use Rattle.im_check_locals.specs.im_rules_limits.Limits.{IsWithin}
use Rattle.im_check_operands.specs.declared.term.Term.{Term}
use Rattle.im_check_operands.specs.declared.term.Value as rv
use Rattle.im_check_operands.specs.Shape.{term_in, value_in}
use Rattle.im_check_place.specs.Contexts.{context_of}
use Rattle.im_check_sites.specs.declared.body.Body.{Body}
use Rattle.im_check_sites.specs.Sites.{IsPast}
use Rattle.im_check_sites.proofs.Sites.{structs_stay}
use Rattle.im_check_statement_forms.specs.Asked.{Asked}
use Rattle.im_check_statement_forms.proofs.Asking.{valued}

abbrev IsRead : Body → t.Expression → Body → Term → Type 0
IsRead b0 e b1 x = Typed (context_of b0.place) e (term_in b0.place.structs x) × IsPast (just_strings (strings_in e)) b0 b1 × IsWithin (context_of b0.place) (an_expression e)

-- what a value is by the table behind the expression it is by the one before it
pub read_value : (b0 b1 : Body) (e : t.Expression) (x : Term) (v : rv.Value)
    → IsRead b0 e b1 x
    → value_in b1.place.structs v ≡ r.value_of (structs_of b1.place.structs) (term_in b1.place.structs x)
    → value_in b0.place.structs v ≡ r.value_of (structs_of b0.place.structs) (term_in b0.place.structs x)
read_value b0 b1 e x v d is = subst (λ (z : Table). value_in z v ≡ r.value_of (structs_of z) (term_in z x)) (structs_stay (d.1).added) is

pub asked_as : (asks : r.Term → List Demand) (becomes : Structs → r.Term → p.Expr) (b0 b1 : Body) (e : t.Expression) (x : Term) (y : re.Expr)
    → IsRead b0 e b1 x
    → Meets (asks (term_in b0.place.structs x))
    → expr_of b0.place.structs y ≡ becomes (structs_of b0.place.structs) (term_in b0.place.structs x)
    → Asked asks becomes b0 e b1 y
asked_as asks becomes b0 b1 e x y d meets is = record { term = term_in b0.place.structs x; typed = d.0; meets = meets; is = is; past = d.1; within = d.2 }

pub evaluated_as : (asks : r.Term → List Demand) (b0 b1 : Body) (e : t.Expression) (x : Term) (v : rv.Value)
    → IsRead b0 e b1 x
    → Meets (asks (term_in b0.place.structs x))
    → value_in b1.place.structs v ≡ r.value_of (structs_of b1.place.structs) (term_in b1.place.structs x)
    → Asked asks valued b0 e b1 v.expr.tree
evaluated_as asks b0 b1 e x v d meets is = asked_as asks valued b0 b1 e x v.expr.tree d meets (ap (λ (z : r.Value). z.expr) (read_value b0 b1 e x v d is))
