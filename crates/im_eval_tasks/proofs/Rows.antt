-- Arguments, statements and pieces that stand in vectors, as those of the plain program.
use Rattle.std.proofs.Common.{◌≡◌, ◌∙◌, refl, ap, ℕ, zero, suc, List, [], ◌∷◌, map, drop, Vec, Global}
use mathlib.Core.Former.{Count}
use Rattle.im_ctype.specs.Table.{Table}
use Rattle.im_typed.specs.declared.expression.Expr.{Expr, Row_of-Expr, end_of-Expr, more_of-Expr, items-the_row-Expr, items_hidden-the_row-Expr-0}
use Rattle.im_typed.specs.declared.expression.Expr.TheVariants.{Call, Call'}
use Rattle.im_typed.specs.declared.statement.Case.{Case}
use Rattle.im_typed.specs.declared.statement.Piece.{Piece}
use Rattle.im_typed.specs.declared.statement.Stmt.{Stmt, Row_of-Stmt, end_of-Stmt, more_of-Stmt, items-the_row-Stmt, items_hidden-the_row-Stmt-0}
use Rattle.im_typed.specs.declared.statement.Stmt.TheVariants.{Block, Block', Switch}
use Rattle.im_typed.specs.Program as p
use Rattle.im_typed.specs.ProgramOf.{expr_of, exprs_of, stmt_of, stmts_of, piece_of}
use Rattle.im_typed.specs.Meaning.{Around, does_from}
use Rattle.im_eval_machine.specs.Small.{small_expr, small_exprs, small_stmt, small_stmts, small_piece}
use Rattle.im_eval_tasks.specs.Tasks.{does_all, exprs_in, stmts_in, piece_in}

-- the statements of a block, as a row
abbrev pub row_of : Stmt → (n : Count) × Row_of-Stmt n
row_of (Block' _ row) = (_, row)
row_of _ = (_, end_of-Stmt)

-- the arguments of a call, as a row
abbrev pub arguments_of : Expr → (n : Count) × Row_of-Expr n
arguments_of (Call' _ _ row) = (_, row)
arguments_of _ = (_, end_of-Expr)

module _ (types : Table) where
  stmts_row : (n : _) (row : Row_of-Stmt n) → small_stmts (stmts_of types row) ≡ stmts_in types (items-the_row-Stmt n row)
  stmts_row n end_of-Stmt = refl
  stmts_row n (more_of-Stmt s rest) = ap (λ r. p.more_stmts (small_stmt (stmt_of types s)) r) (stmts_row _ rest)

  stmts_in_block : (ss : Vec Stmt Global) → let row = row_of (Block ss) in small_stmts (stmts_of types row.1) ≡ stmts_in types ss.items
  stmts_in_block ss =
      let row = row_of (Block ss) in
      stmts_row row.0 row.1 ∙ ap (stmts_in types) (items_hidden-the_row-Stmt-0 ss)

  pub block_is : (ss : Vec Stmt Global) → small_stmt (stmt_of types (Block ss)) ≡ p.Block (stmts_in types ss.items)
  block_is ss = ap p.Block (stmts_in_block ss)

  pub switch_is : (e : Expr) (ks : Vec Case Global) (otherwise : ℕ) (ss : Vec Stmt Global)
      → small_stmt (stmt_of types (Switch e ks otherwise ss)) ≡ p.Switch (small_expr (expr_of types e)) ks.items otherwise (stmts_in types ss.items)
  switch_is e ks otherwise ss = ap (p.Switch (small_expr (expr_of types e)) ks.items otherwise) (stmts_in_block ss)

  exprs_row : (n : _) (row : Row_of-Expr n) → small_exprs (exprs_of types row) ≡ exprs_in types (items-the_row-Expr n row)
  exprs_row n end_of-Expr = refl
  exprs_row n (more_of-Expr e rest) = ap (λ r. p.more_exprs (small_expr (expr_of types e)) r) (exprs_row _ rest)

  pub call_is : (k : ℕ) (es : Vec Expr Global) → small_expr (expr_of types (Call k es)) ≡ p.Call k (exprs_in types es.items)
  call_is k es =
      let row = arguments_of (Call k es) in
      ap (p.Call k) (exprs_row row.0 row.1 ∙ ap (exprs_in types) (items_hidden-the_row-Expr-0 es))

  pub pieces_are : (ps : List Piece) → map small_piece (map (piece_of types) ps) ≡ map (piece_in types) ps
  pieces_are [] = refl
  pieces_are (x ∷ ps) = ap (λ r. piece_in types x ∷ r) (pieces_are ps)

  -- the statements of a block from the k-th on
  pub does_later : (c : Around) (n k : ℕ) (ss : List Stmt) → does_from c n k (stmts_in types ss) ≡ does_all types c n (drop k ss)
  does_later c n zero [] = refl
  does_later c n (suc k) [] = refl
  does_later c n zero (s ∷ ss) = refl
  does_later c n (suc k) (s ∷ ss) = does_later c n k ss
