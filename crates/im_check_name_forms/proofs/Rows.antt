-- The row of a call's arguments is the vector that it was made of; what a service is given.
use Rattle.std.proofs.Common.{◌≡◌, ℕ, ◌<◌, List, [], ◌∷◌, length, refl, ap, ◌∙◌, Vec, Global, arith}
use mathlib.Core.Former.{Count}
use Rattle.im_ctype.specs.Table.{Table}
use Rattle.im_typed.specs.declared.expression.Expr.{Expr, Call, Call', Row_of-Expr, end_of-Expr, more_of-Expr, items-the_row-Expr, items_hidden-the_row-Expr-0}
use Rattle.im_typed.specs.ProgramOf.{expr_of, exprs_of}
use Rattle.im_typed.specs.Program as p
use Rattle.im_check_conversions.specs.im_rules.Conversions.{argument_in, first_of}
use Rattle.im_check_name_forms.specs.Lists.{exprs_from}

abbrev row_in : Expr → (n : Count) × Row_of-Expr n
row_in (Call' f _ row) = (_, row)
row_in _ = (_, end_of-Expr)

exprs_row : (types : Table) (n : _) (row : Row_of-Expr n) → exprs_of types row ≡ exprs_from types (items-the_row-Expr n row)
exprs_row types n end_of-Expr = refl
exprs_row types n (more_of-Expr e rest) = ap (λ z. p.more_exprs (expr_of types e) z) (exprs_row types _ rest)

pub call-of : (types : Table) (f : ℕ) (args : Vec Expr Global) → expr_of types (Call f args) ≡ p.Call f (exprs_from types args.items)
call-of types f args =
    let row = row_in (Call f args) in
    ap (λ z. p.Call f z) (exprs_row types row.0 row.1 ∙ ap (exprs_from types) (items_hidden-the_row-Expr-0 args))

-- a service with a parameter is given the first of the arguments
pub given-first : (types : Table) (es : List Expr) → 0 < length es → argument_in (exprs_from types es) ≡ p.an_argument (first_of (exprs_from types es))
given-first types [] some = absurd (omega (arith, some))
given-first types (e ∷ es) some = refl
