-- The numbers of a well-typed program are small: it is its own small view.
use Rattle.std.proofs.Common.{◌≡◌, ◌∙◌, refl, ap, ℕ, ◌^◌, ◌+◌, ◌<◌, List, [], ◌∷◌, map, Bool, true, false, arith, rules}
use Rattle.std.proofs.lemmas.Int.{ints}
use Rattle.std.specs.Prelude.{ℤ, pos, negsuc, Option, Some, None, slice_get}
use Rattle.std.specs.Option.{option_map}
use Rattle.im_num.specs.declared.kind.Kind.{Kind}
use Rattle.im_num.specs.declared.kind.Kind.TheVariants.{I8, U8, I16, U16, I32, U32, Ptr}
use Rattle.im_num.specs.Kinds.{IsOfKind}
use Rattle.im_ctype.specs.declared.cell.Cell.{Cell}
use Rattle.im_store.specs.Objects as o
use Rattle.im_store.specs.Statics.{StaticObject}
use Rattle.im_typed.specs.Program.{Place, Static, Local, Target, Member, Expr, Constant, NullPointer, Read, Address, Convert, Unary, Binary, Move, MoveBy, Distance, Compare, Not, And, Or, Choose, Comma, Discard, Assign, Update, Increment, Part, Call, Serve, no_argument, an_argument, Exprs, no_exprs, more_exprs, Piece, Stmt, Do, Forget, Initialise, Block, If, While, DoWhile, For, Switch, Break, Continue, Return, Stmts, no_stmts, more_stmts, LocalObject, Func, Prog}
use Rattle.im_typed.specs.Typing.{Each, IsInteger, IsTypedPlace, IsTyped, AreArguments, IsPieceOf, IsReturned, IsTypedStmt, AreTyped, IsTypedFunc, IsFirstValue, AreFirstValues, IsTypedStatic, IsWellTyped, cells_at, parameters}
use Rattle.im_eval_machine.specs.Small.{small, small_place, small_expr, small_exprs, small_piece, small_stmt, small_stmts, small_func, small_value, small_static, small_prog}

within : (m : ℕ) → m < 2 ^ 64 → small (pos m) ≡ pos m
within m h = search rules

within-neg : (m : ℕ) → m + 1 < 2 ^ 64 → small (negsuc m) ≡ negsuc m
within-neg m h = search rules

pub same_number : (kind : Kind) (z : ℤ) → IsInteger kind → IsOfKind kind z → small z ≡ z
same_number I8 (pos m) h k = within m (omega (arith, ints, k.high))
same_number U8 (pos m) h k = within m (omega (arith, ints, k.high))
same_number I16 (pos m) h k = within m (omega (arith, ints, k.high))
same_number U16 (pos m) h k = within m (omega (arith, ints, k.high))
same_number I32 (pos m) h k = within m (omega (arith, ints, k.high))
same_number U32 (pos m) h k = within m (omega (arith, ints, k.high))
same_number I8 (negsuc m) h k = within-neg m (omega (arith, ints, k.low))
same_number I16 (negsuc m) h k = within-neg m (omega (arith, ints, k.low))
same_number I32 (negsuc m) h k = within-neg m (omega (arith, ints, k.low))
same_number U8 (negsuc m) h k = absurd (omega (arith, ints, k.low))
same_number U16 (negsuc m) h k = absurd (omega (arith, ints, k.low))
same_number U32 (negsuc m) h k = absurd (omega (arith, ints, k.low))
same_number Ptr z h k = absurd h

module _ (g : Prog) (f : Func) where
  mutual
    pub same_place : (a : Place) → IsTypedPlace g f a → small_place a ≡ a
    same_place (Static n) h = refl
    same_place (Local n) h = refl
    same_place (Target e) h = ap Target (same_expr e h.0)
    same_place (Member a d) h = ap (λ x. Member x d) (same_place a h.0)

    pub same_expr : (e : Expr) → IsTyped g f e → small_expr e ≡ e
    same_expr (Constant k z) h = ap (Constant k) (same_number k z h.0 h.1)
    same_expr (NullPointer kind) h = refl
    same_expr (Read x a) h = ap (Read x) (same_place a h.1)
    same_expr (Address a) h = ap Address (same_place a h)
    same_expr (Convert k e) h = ap (Convert k) (same_expr e h.1)
    same_expr (Unary op k e) h = ap (Unary op k) (same_expr e h.1)
    same_expr (Binary op k a b) h = ap (λ x. Binary op k x (small_expr b)) (same_expr a h.1) ∙ ap (Binary op k a) (same_expr b h.2)
    same_expr (Move size back a b) h = ap (λ x. Move size back x (small_expr b)) (same_expr a h.1) ∙ ap (Move size back a) (same_expr b h.2)
    same_expr (MoveBy size a b) h = ap (λ x. MoveBy size x (small_expr b)) (same_expr a h.1) ∙ ap (MoveBy size a) (same_expr b h.2)
    same_expr (Distance size a b) h = ap (λ x. Distance size x (small_expr b)) (same_expr a h.1) ∙ ap (Distance size a) (same_expr b h.2)
    same_expr (Compare op k a b) h = ap (λ x. Compare op k x (small_expr b)) (same_expr a h.0) ∙ ap (Compare op k a) (same_expr b h.1)
    same_expr (Not a) h = ap Not (same_expr a h.0)
    same_expr (And a b) h = ap (λ x. And x (small_expr b)) (same_expr a h.0) ∙ ap (And a) (same_expr b h.1)
    same_expr (Or a b) h = ap (λ x. Or x (small_expr b)) (same_expr a h.0) ∙ ap (Or a) (same_expr b h.1)
    same_expr (Choose t a b) h =
        ap (λ x. Choose x (small_expr a) (small_expr b)) (same_expr t h.0)
        ∙ ap (λ x. Choose t x (small_expr b)) (same_expr a h.1)
        ∙ ap (Choose t a) (same_expr b h.2)
    same_expr (Comma a b) h = ap (λ x. Comma x (small_expr b)) (same_expr a h.0) ∙ ap (Comma a) (same_expr b h.1)
    same_expr (Discard a) h = ap Discard (same_expr a h)
    same_expr (Assign x a e) h = ap (λ y. Assign x y (small_expr e)) (same_place a h.1) ∙ ap (Assign x a) (same_expr e h.2)
    same_expr (Update a change e) h = ap (λ y. Update y change (small_expr e)) (same_place a h.0) ∙ ap (Update a change) (same_expr e h.1)
    same_expr (Increment a change old) h = ap (λ y. Increment y change old) (same_place a h.0)
    same_expr (Part from x e) h = ap (Part from x) (same_expr e h.1)
    same_expr (Call k es) h = ap (Call k) (same_exprs (parameters (slice_get g.funcs k)) es h.1)
    same_expr (Serve service no_argument) h = refl
    same_expr (Serve service (an_argument e)) h = ap (λ z. Serve service (an_argument z)) (same_expr e h.0)

    same_exprs : (os : List LocalObject) (es : Exprs) → AreArguments g f os es → small_exprs es ≡ es
    same_exprs [] no_exprs h = refl
    same_exprs [] (more_exprs e rest) h = absurd h
    same_exprs (o ∷ os) no_exprs h = absurd h
    same_exprs (o ∷ os) (more_exprs e rest) h =
        ap (λ x. more_exprs x (small_exprs rest)) (same_expr e h.0) ∙ ap (more_exprs e) (same_exprs os rest h.2)

  same_pieces : (cells : List Cell) (ps : List Piece) → Each (IsPieceOf g f cells) ps → map small_piece ps ≡ ps
  same_pieces cells [] h = refl
  same_pieces cells (p ∷ ps) h =
      ap (λ e. let q : Piece = record p { value = e } in q ∷ map small_piece ps) (same_expr p.value h.0.1)
      ∙ ap (λ qs. p ∷ qs) (same_pieces cells ps h.1)

  same_returned : (e : Option Expr) → IsReturned g f e → option_map small_expr e ≡ e
  same_returned None h = refl
  same_returned (Some e) h = ap Some (same_expr e h.0)

  mutual
    pub same_stmt : (b c : Bool) (s : Stmt) → IsTypedStmt g f b c s → small_stmt s ≡ s
    same_stmt b c (Do e) h = ap Do (same_expr e h)
    same_stmt b c (Forget x) h = refl
    same_stmt b c (Initialise x count ps) h = ap (Initialise x count) (same_pieces (cells_at (slice_get f.objects x)) ps h.2)
    same_stmt b c (Block ss) h = ap Block (same_stmts b c ss h)
    same_stmt b c (If t x y) h =
        ap (λ e. If e (small_stmt x) (small_stmt y)) (same_expr t h.0.0)
        ∙ ap (λ z. If t z (small_stmt y)) (same_stmt b c x h.1)
        ∙ ap (If t x) (same_stmt b c y h.2)
    same_stmt b c (While t x) h = ap (λ e. While e (small_stmt x)) (same_expr t h.0.0) ∙ ap (While t) (same_stmt true true x h.1)
    same_stmt b c (DoWhile x t) h = ap (λ z. DoWhile z (small_expr t)) (same_stmt true true x h.0) ∙ ap (DoWhile x) (same_expr t h.1.0)
    same_stmt b c (For x t step y) h =
        ap (λ z. For z (small_expr t) (small_expr step) (small_stmt y)) (same_stmt b c x h.0)
        ∙ ap (λ e. For x e (small_expr step) (small_stmt y)) (same_expr t h.1.0)
        ∙ ap (λ e. For x t e (small_stmt y)) (same_expr step h.2)
        ∙ ap (For x t step) (same_stmt true true y h.3)
    same_stmt b c (Switch e ks otherwise ss) h =
        ap (λ x. Switch x ks otherwise (small_stmts ss)) (same_expr e h.0) ∙ ap (Switch e ks otherwise) (same_stmts true c ss h.4)
    same_stmt b c Break h = refl
    same_stmt b c Continue h = refl
    same_stmt b c (Return e) h = ap Return (same_returned e h)

    same_stmts : (b c : Bool) (ss : Stmts) → AreTyped g f b c ss → small_stmts ss ≡ ss
    same_stmts b c no_stmts h = refl
    same_stmts b c (more_stmts s rest) h =
        ap (λ x. more_stmts x (small_stmts rest)) (same_stmt b c s h.0) ∙ ap (more_stmts s) (same_stmts b c rest h.1)

same_func : (g : Prog) (f : Func) → IsTypedFunc g f → small_func f ≡ f
same_func g f h = ap (λ s. let q : Func = record f { body = s } in q) (same_stmt g f false false f.body h.3)

same_funcs : (g : Prog) (fs : List Func) → Each (IsTypedFunc g) fs → map small_func fs ≡ fs
same_funcs g [] h = refl
same_funcs g (f ∷ fs) h = ap (λ x. x ∷ map small_func fs) (same_func g f h.0) ∙ ap (λ xs. f ∷ xs) (same_funcs g fs h.1)

same_value : (statics : List StaticObject) (k : Kind) (v : o.Value) → IsFirstValue statics k v → small_value v ≡ v
same_value statics k (o.Number z) h = ap o.Number (same_number k z h.0 h.1)
same_value statics k o.Null h = refl
same_value statics k (o.Pointer x offset) h = refl
same_value statics k o.Unset h = absurd h

same_values : (statics : List StaticObject) (cs : List Cell) (vs : List o.Value) → AreFirstValues statics cs vs → map small_value vs ≡ vs
same_values statics [] [] h = refl
same_values statics [] (v ∷ vs) h = absurd h
same_values statics (c ∷ cs) [] h = absurd h
same_values statics (c ∷ cs) (v ∷ vs) h =
    ap (λ x. x ∷ map small_value vs) (same_value statics c.kind v h.0) ∙ ap (λ xs. v ∷ xs) (same_values statics cs vs h.1)

same_statics : (statics ss : List StaticObject) → Each (IsTypedStatic statics) ss → map small_static ss ≡ ss
same_statics statics [] h = refl
same_statics statics (s ∷ ss) h =
    ap (λ vs. let q : StaticObject = record s { first = vs } in q ∷ map small_static ss) (same_values statics s.cells s.first h.0.1)
    ∙ ap (λ xs. s ∷ xs) (same_statics statics ss h.1)

pub same_prog : (g : Prog) → IsWellTyped g → small_prog g ≡ g
same_prog g h =
    ap (λ ss. let q : Prog = record { statics = ss; funcs = map small_func g.funcs; main = g.main } in q) (same_statics g.statics g.statics h.statics)
    ∙ ap (λ fs. let q : Prog = record { statics = g.statics; funcs = fs; main = g.main } in q) (same_funcs g g.funcs h.funcs)
