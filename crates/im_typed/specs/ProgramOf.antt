-- The program that a Rust value stands for. Its table of types has the cells of structs and objects.
use Rattle.std.specs.Prelude.{map}
use Rattle.std.specs.Option.{option_map}
use Rattle.im_num.specs.declared.kind.Kind.TheVariants.{Ptr}
use Rattle.im_store.specs.im_ctype.Layout.{layouts, layout_at}
use Rattle.im_store.specs.im_ctype.Table.{Table, structs_of, layout_of}
use Rattle.im_store.specs.Objects.{Value, Number, Null, Pointer, static}
use Rattle.im_store.specs.Statics.{StaticObject}
use Rattle.im_typed.specs.declared.expression.Access.{Access}
use Rattle.im_typed.specs.declared.expression.Access.TheVariants as ra
use Rattle.im_typed.specs.declared.expression.Place as rp
use Rattle.im_typed.specs.declared.expression.Expr as re
use Rattle.im_typed.specs.declared.statement.Piece as rpi
use Rattle.im_typed.specs.declared.statement.Stmt as rs
use Rattle.im_typed.specs.declared.program.Constant.{Constant}
use Rattle.im_typed.specs.declared.program.Constant.TheVariants as rc
use Rattle.im_typed.specs.declared.program.Object as ro
use Rattle.im_typed.specs.declared.program.Static as rst
use Rattle.im_typed.specs.declared.program.Func as rf
use Rattle.im_typed.specs.declared.program.Prog as rpr
use Rattle.im_typed.specs.Program as p

module _ (types : Table) where
  abbrev pub access_of : Access → p.Access
  access_of (ra.Scalar kind) = p.Scalar kind
  access_of (ra.Struct number cells) = p.Struct cells (layout_at (layouts (structs_of types)) number).cells

  abbrev mutual
    pub place_of : rp.Place → p.Place
    place_of (rp.Static n) = p.Static n
    place_of (rp.Local n) = p.Local n
    place_of (rp.Target' b e) = p.Target (expr_of e)
    place_of (rp.Member' b a d) = p.Member (place_of a) d

    pub expr_of : re.Expr → p.Expr
    expr_of (re.Number k z) = p.Constant k z
    expr_of re.Null = p.NullPointer Ptr
    expr_of (re.Read' x b a) = p.Read (access_of x) (place_of a)
    expr_of (re.Address' b a) = p.Address (place_of a)
    expr_of (re.Convert' k b e) = p.Convert k (expr_of e)
    expr_of (re.Unary' op k b e) = p.Unary op k (expr_of e)
    expr_of (re.Binary' op k b x c y) = p.Binary op k (expr_of x) (expr_of y)
    expr_of (re.Move' size back b x c y) = p.Move size back (expr_of x) (expr_of y)
    expr_of (re.MoveBy' size b x c y) = p.MoveBy size (expr_of x) (expr_of y)
    expr_of (re.Distance' size b x c y) = p.Distance size (expr_of x) (expr_of y)
    expr_of (re.Compare' op k b x c y) = p.Compare op k (expr_of x) (expr_of y)
    expr_of (re.Not' b e) = p.Not (expr_of e)
    expr_of (re.And' b x c y) = p.And (expr_of x) (expr_of y)
    expr_of (re.Or' b x c y) = p.Or (expr_of x) (expr_of y)
    expr_of (re.Choose' b t c x d y) = p.Choose (expr_of t) (expr_of x) (expr_of y)
    expr_of (re.Comma' b x c y) = p.Comma (expr_of x) (expr_of y)
    expr_of (re.Discard' b e) = p.Discard (expr_of e)
    expr_of (re.Assign' x b a c e) = p.Assign (access_of x) (place_of a) (expr_of e)
    expr_of (re.Update' b a change c e) = p.Update (place_of a) change (expr_of e)
    expr_of (re.Increment' b a change old) = p.Increment (place_of a) change old
    expr_of (re.Part' from x b e) = p.Part from (access_of x) (expr_of e)
    expr_of (re.Call' f shape es) = p.Call f (exprs_of es)
    expr_of (re.Serve service) = p.Serve service p.no_argument
    expr_of (re.ServeWith' service b e) = p.Serve service (p.an_argument (expr_of e))

    pub exprs_of : {m : _} → re.Row_of-Expr m → p.Exprs
    exprs_of re.end_of-Expr = p.no_exprs
    exprs_of (re.more_of-Expr e rest) = p.more_exprs (expr_of e) (exprs_of rest)

  abbrev pub piece_of : rpi.Piece → p.Piece
  piece_of x = record { offset = x.offset; access = access_of x.access; value = expr_of x.value }

  abbrev mutual
    pub stmt_of : rs.Stmt → p.Stmt
    stmt_of (rs.Expr e) = p.Do (expr_of e)
    stmt_of (rs.Forget x) = p.Forget x
    stmt_of (rs.Initialise x cells ps) = p.Initialise x cells (map piece_of ps.items)
    stmt_of (rs.Block' shape ss) = p.Block (stmts_of ss)
    stmt_of (rs.If' t b x c y) = p.If (expr_of t) (stmt_of x) (stmt_of y)
    stmt_of (rs.While' t b x) = p.While (expr_of t) (stmt_of x)
    stmt_of (rs.DoWhile' b x t) = p.DoWhile (stmt_of x) (expr_of t)
    stmt_of (rs.For' b x t step c y) = p.For (stmt_of x) (expr_of t) (expr_of step) (stmt_of y)
    stmt_of (rs.Switch' e ks otherwise shape ss) = p.Switch (expr_of e) ks.items otherwise (stmts_of ss)
    stmt_of rs.Break = p.Break
    stmt_of rs.Continue = p.Continue
    stmt_of (rs.Return e) = p.Return (option_map expr_of e)

    pub stmts_of : {m : _} → rs.Row_of-Stmt m → p.Stmts
    stmts_of rs.end_of-Stmt = p.no_stmts
    stmts_of (rs.more_of-Stmt s rest) = p.more_stmts (stmt_of s) (stmts_of rest)

  abbrev pub object_of : ro.Object → p.LocalObject
  object_of o = record { name = o.name.items; size = o.size; cells = (layout_of types o.ty).cells }

  abbrev pub func_of : rf.Func → p.Func
  func_of f =
      record {
        name = f.name.items;
        params = f.params;
        result = f.result;
        objects = map object_of f.objects.items;
        body = stmt_of f.body;
      }

  abbrev pub first_of : Constant → Value
  first_of (rc.Number z) = Number z
  first_of rc.Null = Null
  first_of (rc.Inside o offset) = Pointer (static o) offset

  abbrev pub static_of : rst.Static → StaticObject
  static_of s =
      record {
        name = s.object.name.items;
        size = s.object.size;
        cells = (layout_of types s.object.ty).cells;
        first = map first_of s.cells.items;
      }

abbrev pub program_of : rpr.Prog → p.Prog
program_of g =
    record {
      statics = map (static_of g.types) g.statics.items;
      funcs = map (func_of g.types) g.funcs.items;
      main = g.main;
    }
