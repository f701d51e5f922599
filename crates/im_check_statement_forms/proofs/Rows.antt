-- The rows of typed statements are the vectors that they were made of.
use Rattle.std.proofs.Common.{◌≡◌, ℕ, List, [], ◌∷◌, length, refl, ap, ◌∙◌, Vec, Global, suc}
use mathlib.Core.Former.{Count}
use Rattle.im_ctype.specs.Table.{Table}
use Rattle.im_typed.specs.declared.expression.Expr as re
use Rattle.im_typed.specs.declared.statement.Case.{Case}
use Rattle.im_typed.specs.declared.statement.Stmt as rs
use Rattle.im_typed.specs.ProgramOf.{expr_of, stmt_of, stmts_of}
use Rattle.im_typed.specs.Program as p
use Rattle.im_check_locals.specs.im_rules.Statements.{count_stmts}
use Rattle.im_check_sites.specs.Stmts.{stmts_from}

abbrev stmts_row_in : rs.Stmt → (n : Count) × rs.Row_of-Stmt n
stmts_row_in (rs.Block' _ row) = (_, row)
stmts_row_in (rs.Switch' e ks o _ row) = (_, row)
stmts_row_in _ = (_, rs.end_of-Stmt)

stmts-items : (types : Table) (n : _) (row : rs.Row_of-Stmt n) → stmts_of types row ≡ stmts_from types (rs.items-the_row-Stmt n row)
stmts-items types n rs.end_of-Stmt = refl
stmts-items types n (rs.more_of-Stmt s rest) = ap (λ z. p.more_stmts (stmt_of types s) z) (stmts-items types _ rest)

pub block-of : (types : Table) (ss : Vec rs.Stmt Global) → stmt_of types (rs.Block ss) ≡ p.Block (stmts_from types ss.items)
block-of types ss =
    let row = stmts_row_in (rs.Block ss) in
    ap p.Block (stmts-items types row.0 row.1 ∙ ap (stmts_from types) (rs.items_hidden-the_row-Stmt-0 ss))

pub switch-of : (types : Table) (e : re.Expr) (ks : Vec Case Global) (o : ℕ) (ss : Vec rs.Stmt Global) → stmt_of types (rs.Switch e ks o ss) ≡ p.Switch (expr_of types e) ks.items o (stmts_from types ss.items)
switch-of types e ks o ss =
    let row = stmts_row_in (rs.Switch e ks o ss) in
    ap (p.Switch (expr_of types e) ks.items o) (stmts-items types row.0 row.1 ∙ ap (stmts_from types) (rs.items_hidden-the_row-Stmt-0 ss))

pub count_from : (types : Table) (us : List rs.Stmt) → count_stmts (stmts_from types us) ≡ length us
count_from types [] = refl
count_from types (u ∷ us) = ap suc (count_from types us)
