-- Counts of a row of expressions or statements, as sums over lists.
use Rattle.std.proofs.Common.{◌≡◌, ℕ, ◌+◌, ◌*◌, length, sum_by, refl, ap, sym, ◌∙◌, Vec, Global}
use Rattle.std.proofs.lemmas.List.Sums.{sum_by-cons}
use mathlib.Core.Former.{Count}
use Rattle.im_store.specs.im_ctype.Table.{Table}
use Rattle.im_typed.specs.declared.expression.Expr.{Expr, Call, Call', Row_of-Expr, end_of-Expr, more_of-Expr, items-the_row-Expr, items_hidden-the_row-Expr-0}
use Rattle.im_typed.specs.declared.statement.Stmt.{Stmt, Block, Block', Switch, Row_of-Stmt, end_of-Stmt, more_of-Stmt, items-the_row-Stmt, items_hidden-the_row-Stmt-0}
use Rattle.im_typed.specs.declared.statement.Case.{Case}
use Rattle.im_typed.specs.ProgramOf.{expr_of, exprs_of, stmt_of, stmts_of}
use Rattle.im_typed.specs.Counts.{expr_nodes, exprs_nodes, stmt_nodes, stmts_nodes}

abbrev row_of : Expr → (n : Count) × Row_of-Expr n
row_of (Call' f _ row) = (_, row)
row_of _ = (_, end_of-Expr)

abbrev block_of : Stmt → (n : Count) × Row_of-Stmt n
block_of (Block' _ row) = (_, row)
block_of _ = (_, end_of-Stmt)

module _ (types : Table) where
  abbrev pub nodes_of : Expr → ℕ
  nodes_of e = expr_nodes (expr_of types e)

  abbrev pub nodes_in : Stmt → ℕ
  nodes_in s = stmt_nodes (stmt_of types s)

  row-sum : (n : _) (row : Row_of-Expr n) → exprs_nodes (exprs_of types row) ≡ sum_by nodes_of (items-the_row-Expr n row)
  row-sum n end_of-Expr = refl
  row-sum n (more_of-Expr e rest) = ap (λ x. nodes_of e + x) (row-sum _ rest) ∙ sym (sum_by-cons nodes_of e (items-the_row-Expr _ rest))

  block-sum : (n : _) (row : Row_of-Stmt n) → stmts_nodes (stmts_of types row) ≡ sum_by nodes_in (items-the_row-Stmt n row)
  block-sum n end_of-Stmt = refl
  block-sum n (more_of-Stmt s rest) = ap (λ x. nodes_in s + x) (block-sum _ rest) ∙ sym (sum_by-cons nodes_in s (items-the_row-Stmt _ rest))

  pub call-nodes : (f : ℕ) (args : Vec Expr Global) → nodes_of (Call f args) ≡ 1 + sum_by nodes_of args.items
  call-nodes f args =
      let row = row_of (Call f args) in
      let same = items_hidden-the_row-Expr-0 args in
      ap (λ n. 1 + n) (row-sum row.0 row.1 ∙ ap (sum_by nodes_of) same)

  pub block-nodes : (ss : Vec Stmt Global) → nodes_in (Block ss) ≡ 1 + sum_by nodes_in ss.items
  block-nodes ss =
      let row = block_of (Block ss) in
      let same = items_hidden-the_row-Stmt-0 ss in
      ap (λ n. 1 + n) (block-sum row.0 row.1 ∙ ap (sum_by nodes_in) same)

  pub switch-nodes : (e : Expr) (ks : Vec Case Global) (otherwise : ℕ) (ss : Vec Stmt Global) → nodes_in (Switch e ks otherwise ss) ≡ 1 + nodes_of e + 2 * length ks.items + sum_by nodes_in ss.items
  switch-nodes e ks otherwise ss =
      let row = block_of (Block ss) in
      let same = items_hidden-the_row-Stmt-0 ss in
      ap (λ n. 1 + nodes_of e + 2 * length ks.items + n) (block-sum row.0 row.1 ∙ ap (sum_by nodes_in) same)
