-- Places, expressions and statements by a table with more structs.
use Rattle.std.proofs.Common.{◌≡◌, Bool, true, List, [], ◌∷◌, map, Option, Some, None, refl, ap, arith}
use Rattle.std.specs.Option.{option_map}
use Rattle.im_ctype.specs.Table.{Table, structs_of}
use Rattle.im_ctype.specs.declared.cell.Cell.{Cell}
use Rattle.im_typed.specs.declared.expression.Access.{Access}
use Rattle.im_typed.specs.declared.expression.Access.TheVariants as ra
use Rattle.im_typed.specs.declared.expression.Place as rp
use Rattle.im_typed.specs.declared.expression.Expr as re
use Rattle.im_typed.specs.declared.statement.Piece as rpi
use Rattle.im_typed.specs.declared.statement.Stmt as rs
use Rattle.im_typed.specs.Program as p
use Rattle.im_typed.specs.ProgramOf.{access_of, place_of, expr_of, exprs_of, piece_of, stmt_of, stmts_of}
use Rattle.im_typed.specs.Typing.{Each, IsAccess, IsTypedPlace, IsTyped, AreArguments, IsPieceOf, IsReturned, IsTypedStmt, AreTyped}
use Rattle.im_typed.specs.StructsLaws.{IsLonger}
use Rattle.im_typed.proofs.Layouts.{same_struct}

module _ (before after : Table) (longer : IsLonger (structs_of before) (structs_of after)) where
  same_access : (x : Access) → IsAccess (access_of before x) → access_of after x ≡ access_of before x
  same_access (ra.Scalar kind) h = refl
  same_access (ra.Struct number cells) h =
      ap (λ l. p.Struct cells l.cells) (same_struct (structs_of before) (structs_of after) number longer (omega (arith, h.0, h.1)))

  module _ (g : p.Prog) (f : p.Func) where
    mutual
      same_place : (a : rp.Place) → IsTypedPlace g f (place_of before a) → place_of after a ≡ place_of before a
      same_place (rp.Static n) h = refl
      same_place (rp.Local n) h = refl
      same_place (rp.Target' b e) h = ap p.Target (same_expr e h.0)
      same_place (rp.Member' b a d) h = ap (λ z. p.Member z d) (same_place a h.0)

      same_expr : (e : re.Expr) → IsTyped g f (expr_of before e) → expr_of after e ≡ expr_of before e
      same_expr (re.Number k z) h = refl
      same_expr re.Null h = refl
      same_expr (re.Read' x b a) h = λ i. p.Read (same_access x h.0 i) (same_place a h.1 i)
      same_expr (re.Address' b a) h = ap p.Address (same_place a h)
      same_expr (re.Convert' k b e) h = ap (p.Convert k) (same_expr e h.1)
      same_expr (re.Unary' op k b e) h = ap (p.Unary op k) (same_expr e h.1)
      same_expr (re.Binary' op k b x c y) h = λ i. p.Binary op k (same_expr x h.1 i) (same_expr y h.2 i)
      same_expr (re.Move' size back b x c y) h = λ i. p.Move size back (same_expr x h.1 i) (same_expr y h.2 i)
      same_expr (re.MoveBy' size b x c y) h = λ i. p.MoveBy size (same_expr x h.1 i) (same_expr y h.2 i)
      same_expr (re.Distance' size b x c y) h = λ i. p.Distance size (same_expr x h.1 i) (same_expr y h.2 i)
      same_expr (re.Compare' op k b x c y) h = λ i. p.Compare op k (same_expr x h.0 i) (same_expr y h.1 i)
      same_expr (re.Not' b e) h = ap p.Not (same_expr e h.0)
      same_expr (re.And' b x c y) h = λ i. p.And (same_expr x h.0 i) (same_expr y h.1 i)
      same_expr (re.Or' b x c y) h = λ i. p.Or (same_expr x h.0 i) (same_expr y h.1 i)
      same_expr (re.Choose' b t c x d y) h = λ i. p.Choose (same_expr t h.0 i) (same_expr x h.1 i) (same_expr y h.2 i)
      same_expr (re.Comma' b x c y) h = λ i. p.Comma (same_expr x h.0 i) (same_expr y h.1 i)
      same_expr (re.Discard' b e) h = ap p.Discard (same_expr e h)
      same_expr (re.Assign' x b a c e) h = λ i. p.Assign (same_access x h.0 i) (same_place a h.1 i) (same_expr e h.2 i)
      same_expr (re.Update' b a change c e) h = λ i. p.Update (same_place a h.0 i) change (same_expr e h.1 i)
      same_expr (re.Increment' b a change old) h = ap (λ z. p.Increment z change old) (same_place a h.0)
      same_expr (re.Part' from x b e) h = λ i. p.Part from (same_access x h.0 i) (same_expr e h.1 i)
      same_expr (re.Call' n shape es) h = ap (p.Call n) (same_exprs _ es h.1)
      same_expr (re.Serve service) h = refl
      same_expr (re.ServeWith' service b e) h = ap (λ z. p.Serve service (p.an_argument z)) (same_expr e h.0)

      same_exprs : {m : _} (os : List p.LocalObject) (es : re.Row_of-Expr m) → AreArguments g f os (exprs_of before es) → exprs_of after es ≡ exprs_of before es
      same_exprs [] re.end_of-Expr h = refl
      same_exprs [] (re.more_of-Expr e rest) h = absurd h
      same_exprs (o ∷ os) re.end_of-Expr h = refl
      same_exprs (o ∷ os) (re.more_of-Expr e rest) h = λ i. p.more_exprs (same_expr e h.0 i) (same_exprs os rest h.2 i)

    same_piece : (cells : List Cell) (x : rpi.Piece) → IsPieceOf g f cells (piece_of before x) → piece_of after x ≡ piece_of before x
    same_piece cells x h = λ i. record { offset = x.offset; access = same_access x.access h.0 i; value = same_expr x.value h.1 i }

    same_pieces : (cells : List Cell) (xs : List rpi.Piece) → Each (IsPieceOf g f cells) (map (piece_of before) xs) → map (piece_of after) xs ≡ map (piece_of before) xs
    same_pieces cells [] h = refl
    same_pieces cells (x ∷ xs) h = λ i. same_piece cells x h.0 i ∷ same_pieces cells xs h.1 i

    same_returned : (e : Option re.Expr) → IsReturned g f (option_map (expr_of before) e) → option_map (expr_of after) e ≡ option_map (expr_of before) e
    same_returned None h = refl
    same_returned (Some e) h = ap Some (same_expr e h.0)

    mutual
      pub same_stmt : (breaks continues : Bool) (s : rs.Stmt) → IsTypedStmt g f breaks continues (stmt_of before s) → stmt_of after s ≡ stmt_of before s
      same_stmt b c (rs.Expr e) h = ap p.Do (same_expr e h)
      same_stmt b c (rs.Forget x) h = refl
      same_stmt b c (rs.Initialise x cells ps) h = ap (p.Initialise x cells) (same_pieces _ ps.items h.2)
      same_stmt b c (rs.Block' shape ss) h = ap p.Block (same_stmts b c ss h)
      same_stmt b c (rs.If' t v x w y) h = λ i. p.If (same_expr t h.0.0 i) (same_stmt b c x h.1 i) (same_stmt b c y h.2 i)
      same_stmt b c (rs.While' t v x) h = λ i. p.While (same_expr t h.0.0 i) (same_stmt true true x h.1 i)
      same_stmt b c (rs.DoWhile' v x t) h = λ i. p.DoWhile (same_stmt true true x h.0 i) (same_expr t h.1.0 i)
      same_stmt b c (rs.For' v x t step w y) h =
          λ i. p.For (same_stmt b c x h.0 i) (same_expr t h.1.0 i) (same_expr step h.2 i) (same_stmt true true y h.3 i)
      same_stmt b c (rs.Switch' e ks otherwise shape ss) h =
          λ i. p.Switch (same_expr e h.0 i) ks.items otherwise (same_stmts true c ss h.4 i)
      same_stmt b c rs.Break h = refl
      same_stmt b c rs.Continue h = refl
      same_stmt b c (rs.Return e) h = ap p.Return (same_returned e h)

      same_stmts : {m : _} (breaks continues : Bool) (ss : rs.Row_of-Stmt m) → AreTyped g f breaks continues (stmts_of before ss) → stmts_of after ss ≡ stmts_of before ss
      same_stmts b c rs.end_of-Stmt h = refl
      same_stmts b c (rs.more_of-Stmt s rest) h = λ i. p.more_stmts (same_stmt b c s h.0 i) (same_stmts b c rest h.1 i)
