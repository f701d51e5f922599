-- Small programs, whose meaning the laws of `examples` compute. Each stands below its source.
use Rattle.std.specs.Prelude.{◌≡◌, ℕ, ◌+◌, zero, suc, true, false, List, [], ◌∷◌, ◌++◌, ℤ, pos, negsuc, Option, Some, None}
use Rattle.im_num.specs.declared.kind.Kind.{Kind}
use Rattle.im_num.specs.declared.kind.Kind.TheVariants.{I8, U8, I32, Ptr}
use Rattle.im_store.specs.im_ctype.declared.cell.Cell.{Cell}
use Rattle.im_store.specs.declared.operators.BinaryOp.{BinaryOp}
use Rattle.im_store.specs.declared.operators.BinaryOp.TheVariants.{Add, Subtract, Multiply, Divide}
use Rattle.im_store.specs.declared.operators.Comparison.TheVariants.{Less, Equal}
use Rattle.im_store.specs.Objects.{Value}
use Rattle.im_store.specs.Objects as v
use Rattle.im_num.specs.Variables.{Variable}
use Rattle.im_store.specs.Statics.{StaticObject, with_statics}
use Rattle.im_store.specs.Outcomes.{Outcome, Undef, More, End, variables}
use Rattle.im_typed.specs.declared.expression.Change.TheVariants.{Number as NumberBy}
use Rattle.im_typed.specs.declared.statement.Case.{Case}
use Rattle.im_typed.specs.Program.{Access, Scalar, Struct, Place, Static, Local, Target, Member, Expr, Constant, NullPointer, Read, Address, Convert, Binary, Move, Distance, Compare, Choose, Assign, Update, Increment, Part, Call, Serve, no_argument, an_argument, Exprs, no_exprs, more_exprs, Piece, Stmt, Do, Forget, Initialise, Block, If, For, Switch, Break, Return, Stmts, no_stmts, more_stmts, LocalObject, Func}
use Rattle.im_typed.specs.Programs.{Setting}
use Rattle.im_serve.specs.declared.service.Service.TheVariants.{Getchar, Putchar}

-- expressions, places and statements of ints

abbrev pub int : ℕ → Expr
int n = Constant I32 (pos n)

abbrev pub get : Place → Expr
get a = Read (Scalar I32) a

abbrev pub set : Place → Expr → Stmt
set a e = Do (Assign (Scalar I32) a e)

abbrev pub plus : Expr → Expr → Expr
plus a b = Binary Add I32 a b

abbrev pub times : Expr → Expr → Expr
times a b = Binary Multiply I32 a b

-- `x += n` and `x++`
abbrev pub add_to : Place → ℕ → Expr
add_to a n = Update a (NumberBy I32 Add I32) (int n)

abbrev pub count_up : Place → Expr
count_up a = Increment a (NumberBy I32 Add I32) true

abbrev pub pointer : Place → Expr
pointer a = Read (Scalar Ptr) a

-- what a local pointer points to
abbrev pub target : ℕ → Place
target n = Target (pointer (Local n))

-- the i-th of elements of so many bytes, from a place on
abbrev pub element : ℕ → Place → ℕ → Place
element size a i = Target (Move size false (Address a) (int i))

abbrev pub arguments : List Expr → Exprs
arguments [] = no_exprs
arguments (e ∷ es) = more_exprs e (arguments es)

abbrev pub statements : List Stmt → Stmts
statements [] = no_stmts
statements (s ∷ ss) = more_stmts s (statements ss)

abbrev pub returns : Expr → Stmt
returns e = Return (Some e)

abbrev pub piece : ℕ → Access → Expr → Piece
piece offset x e = record { offset = offset; access = x; value = e }

abbrev pub case : ℕ → ℕ → Case
case z at = record { value = pos z; at = at }

-- cells, objects, functions, programs

abbrev pub cell : ℕ → Kind → Cell
cell offset kind = record { offset = offset; kind = kind }

abbrev pub ints : ℕ → ℕ → List Cell
ints offset zero = []
ints offset (suc n) = cell offset I32 ∷ ints (offset + 4) n

abbrev pub chars : ℕ → ℕ → List Cell
chars offset zero = []
chars offset (suc n) = cell offset U8 ∷ chars (offset + 1) n

abbrev pub object : ℕ → List Cell → LocalObject
object size cells = record { name = []; size = size; cells = cells }

abbrev pub int_object : LocalObject
int_object = object 4 (ints 0 1)

abbrev pub pointer_object : LocalObject
pointer_object = object 4 (cell 0 Ptr ∷ [])

abbrev pub static_of : ℕ → List Cell → List Value → StaticObject
static_of size cells first = record { name = 120 ∷ []; size = size; cells = cells; first = first }

abbrev pub function : ℕ → Option Kind → List LocalObject → List Stmt → Func
function params result objects body =
    record { name = []; params = params; result = result; objects = objects; body = Block (statements body) }

-- functions of which the first is main, with frames of 8 bytes, a stack of 64 bytes, and room for one byte of output
abbrev pub program : List StaticObject → List Func → Setting
program statics funcs =
    record { prog = record { statics = statics; funcs = funcs; main = 0 }; frames = 8 ∷ 8 ∷ 8 ∷ []; stack = 64; capacity = 1 }

abbrev pub main_only : List LocalObject → List Stmt → Setting
main_only objects body = program [] (function 0 (Some I32) objects body ∷ [])

-- an end of main with that status
abbrev pub IsEnd : ℕ → Outcome → Type 0
IsEnd n (Undef why) = ⊥
IsEnd n (More output) = ⊥
IsEnd n (End reason status output variables) = (reason ≡ 0) × (status ≡ pos n)

-- the statics as they are shown before the start of main
abbrev pub first_shown : Setting → List Variable
first_shown g = variables g.prog.statics (with_statics g.prog.statics)

-- `int z; z = 0; return 1 / z;`
abbrev pub divides_by_zero : Setting
divides_by_zero =
    main_only (int_object ∷ []) (Forget 0 ∷ set (Local 0) (int 0) ∷ returns (Binary Divide I32 (int 1) (get (Local 0))) ∷ [])

-- `int i; i = 1; i = i++ + 2 * i; return i;`
abbrev pub counts_within : Setting
counts_within =
    main_only (int_object ∷ [])
    (Forget 0 ∷ set (Local 0) (int 1) ∷ set (Local 0) (plus (count_up (Local 0)) (times (int 2) (get (Local 0)))) ∷ returns (get (Local 0)) ∷ [])

-- `return a op b;`
abbrev pub computes : BinaryOp → ℤ → ℤ → Setting
computes op a b = main_only [] (returns (Binary op I32 (Constant I32 a) (Constant I32 b)) ∷ [])

-- `return (signed char)200;`
abbrev pub signed_char_of_200 : Setting
signed_char_of_200 = main_only [] (returns (Convert I32 (Convert I8 (int 200))) ∷ [])

-- `for (;;) ;`
abbrev pub endless : Setting
endless = main_only [] (For (Block no_stmts) (int 1) (int 0) (Block no_stmts) ∷ [])

-- `int i; return i;`
abbrev pub reads_unset : Setting
reads_unset = main_only (int_object ∷ []) (Forget 0 ∷ returns (get (Local 0)) ∷ [])

-- `int f(int n) { if (n) return f(n - 1); return 7; } int main(void) { return f(depth); }`, where main's frame has 8 bytes,
-- f's has 16, and the stack has so many
abbrev pub recurses : ℕ → ℕ → Setting
recurses depth stack =
    record {
      prog = record {
        statics = [];
        funcs = function 0 (Some I32) [] (returns (Call 1 (arguments (int depth ∷ []))) ∷ [])
            ∷ function 1 (Some I32) (int_object ∷ []) (If (get (Local 0)) (returns (Call 1 (arguments (Binary Subtract I32 (get (Local 0)) (int 1) ∷ [])))) (Block no_stmts) ∷ returns (int 7) ∷ [])
            ∷ [];
        main = 0;
      };
      frames = 8 ∷ 16 ∷ [];
      stack = stack;
      capacity = 0;
    }

-- `int g; int main(void) { if (g) return 5; g = 1; return main(); }`
abbrev pub calls_main : Setting
calls_main =
    program (static_of 4 (ints 0 1) (v.Number (pos 0) ∷ []) ∷ [])
    (function 0 (Some I32) []
    (If (get (Static 0)) (returns (int 5)) (Block no_stmts) ∷ set (Static 0) (int 1) ∷ returns (Call 0 no_exprs) ∷ []) ∷ [])

-- `int f(int *p, int n) { int x; if (n) return f(&x, 0); return p == &x; } int main(void) { return f(0, 1); }`
abbrev pub has_two_activations : Setting
has_two_activations =
    program []
    (function 0 (Some I32) [] (returns (Call 1 (arguments (NullPointer Ptr ∷ int 1 ∷ []))) ∷ [])
    ∷ function 2 (Some I32) (pointer_object ∷ int_object ∷ int_object ∷ [])
    (Forget 2
    ∷ If (get (Local 1)) (returns (Call 1 (arguments (Address (Local 2) ∷ int 0 ∷ [])))) (Block no_stmts)
    ∷ returns (Compare Equal Ptr (pointer (Local 0)) (Address (Local 2)))
    ∷ []) ∷ [])

-- `int *g; void f(void) { int x; g = &x; } int main(void) { f(); return g == 0; }`
abbrev pub reads_dead_pointer : Setting
reads_dead_pointer =
    program (static_of 4 (cell 0 Ptr ∷ []) (v.Null ∷ []) ∷ [])
    (function 0 (Some I32) [] (Do (Call 1 no_exprs) ∷ returns (Compare Equal Ptr (pointer (Static 0)) (NullPointer Ptr)) ∷ [])
    ∷ function 0 None (int_object ∷ []) (Forget 0 ∷ Do (Assign (Scalar Ptr) (Static 0) (Address (Local 0))) ∷ []) ∷ [])

-- `int *f(void) { int x; return &x; } int main(void) { return f() == f(); }`
abbrev pub uses_dead_result : Setting
uses_dead_result =
    program []
    (function 0 (Some I32) [] (returns (Compare Equal Ptr (Call 1 no_exprs) (Call 1 no_exprs)) ∷ [])
    ∷ function 0 (Some Ptr) (int_object ∷ []) (Forget 0 ∷ returns (Address (Local 0)) ∷ []) ∷ [])

-- `int f(void) { } int main(void) { f(); return f() + 1; }`
abbrev pub uses_missing_result : Setting
uses_missing_result =
    program []
    (function 0 (Some I32) [] (Do (Call 1 no_exprs) ∷ returns (plus (Call 1 no_exprs) (int 1)) ∷ []) ∷ function 0 (Some I32) [] [] ∷ [])

abbrev pub byte_read : Expr
byte_read = Serve Getchar no_argument

abbrev pub byte_written : ℕ → Expr
byte_written n = Serve Putchar (an_argument (int n))

-- `putchar('a'); return putchar('b');`
abbrev pub writes_twice : Setting
writes_twice = main_only [] (Do (byte_written 97) ∷ returns (byte_written 98) ∷ [])

-- `int a; a = getchar(); return a * 1000 + getchar();`
abbrev pub reads_twice : Setting
reads_twice =
    main_only (int_object ∷ []) (Forget 0 ∷ set (Local 0) byte_read ∷ returns (plus (times (get (Local 0)) (int 1000)) byte_read) ∷ [])

-- `unsigned h(void) { return -1; } int main(void) { return h() < 1; }`, and the same of an int h
abbrev pub compares_with_one : Kind → Setting
compares_with_one kind =
    program []
    (function 0 (Some I32) [] (returns (Compare Less kind (Call 1 no_exprs) (Constant kind (pos 1))) ∷ [])
    ∷ function 0 (Some kind) [] (returns (Convert kind (Constant I32 (negsuc 0))) ∷ []) ∷ [])

-- `struct s { char c; int i; };`
abbrev pub struct_s : Access
struct_s = Struct 2 (cell 0 U8 ∷ cell 4 I32 ∷ [])

-- `t.c * 10 + t.i`
abbrev pub digits_of : Place → Expr
digits_of t =
    plus (times (Convert I32 (Read (Scalar U8) (Member t 0))) (int 10)) (get (Member t 4))

-- `struct u { struct s a[2]; char d[4]; int e; } g = {{{1, 2}, {3, 4}}, {5, 6, 7, 8}, 9};
--  int main(void) { struct s *p = &g.a[0] + n, t; t = *p; return t.c * 10 + t.i; }`
abbrev pub reads_struct : ℕ → Setting
reads_struct n =
    program
    (static_of 24 (cell 0 U8 ∷ cell 4 I32 ∷ cell 8 U8 ∷ cell 12 I32 ∷ (chars 16 4 ++ ints 20 1))
    (v.Number (pos 1) ∷ v.Number (pos 2) ∷ v.Number (pos 3) ∷ v.Number (pos 4) ∷ v.Number (pos 5) ∷ v.Number (pos 6) ∷ v.Number (pos 7) ∷ v.Number (pos 8) ∷ v.Number (pos 9) ∷ []) ∷ [])
    (function 0 (Some I32) (pointer_object ∷ object 8 (cell 0 U8 ∷ cell 4 I32 ∷ []) ∷ [])
    (Initialise 0 1 (piece 0 (Scalar Ptr) (Move 8 false (Address (element 8 (Member (Static 0) 0) 0)) (int n)) ∷ [])
    ∷ Forget 1
    ∷ Do (Assign struct_s (Local 1) (Read struct_s (target 0)))
    ∷ returns (digits_of (Local 1)) ∷ []) ∷ [])

-- `struct s { int x; int y; }; struct u { struct s a; int z; } g; *(&g.a + 1);`, of a local g
abbrev pub reads_unset_struct : Setting
reads_unset_struct =
    main_only (object 12 (ints 0 3) ∷ [])
    (Forget 0 ∷ Do (Read (Struct 2 (ints 0 2)) (element 8 (Member (Local 0) 0) 1)) ∷ returns (int 0) ∷ [])

-- `struct s a = {7, 1}, b = {2, 3}; .. return (n ? a : b).i;`
abbrev pub takes_part : ℕ → Setting
takes_part n =
    main_only (object 8 (cell 0 U8 ∷ cell 4 I32 ∷ []) ∷ object 8 (cell 0 U8 ∷ cell 4 I32 ∷ []) ∷ [])
    (Initialise 0 2 (piece 0 (Scalar U8) (Convert U8 (int 7)) ∷ piece 4 (Scalar I32) (int 1) ∷ [])
    ∷ Initialise 1 2 (piece 0 (Scalar U8) (Convert U8 (int 2)) ∷ piece 4 (Scalar I32) (int 3) ∷ [])
    ∷ returns (Part 1 (Scalar I32) (Choose (int n) (Read struct_s (Local 0)) (Read struct_s (Local 1)))) ∷ [])

-- `struct s a = {7, 1}; a = a; return a.c * 10 + a.i;`
abbrev pub copies_itself : Setting
copies_itself =
    main_only (object 8 (cell 0 U8 ∷ cell 4 I32 ∷ []) ∷ [])
    (Initialise 0 2 (piece 0 (Scalar U8) (Convert U8 (int 7)) ∷ piece 4 (Scalar I32) (int 1) ∷ [])
    ∷ Do (Assign struct_s (Local 0) (Read struct_s (Local 0))) ∷ returns (digits_of (Local 0)) ∷ [])

-- `struct s { int x; int y; }; int a[4] = {1, 2, 3, 4}; *(struct s *) a = *(struct s *) (a + n); return a[0] * 10 + a[1];`
abbrev pub copies_within : ℕ → Setting
copies_within n =
    main_only (object 16 (ints 0 4) ∷ [])
    (Initialise 0 4 (piece 0 (Scalar I32) (int 1) ∷ piece 4 (Scalar I32) (int 2) ∷ piece 8 (Scalar I32) (int 3) ∷ piece 12 (Scalar I32) (int 4) ∷ [])
    ∷ Do (Assign (Struct 2 (ints 0 2)) (Local 0) (Read (Struct 2 (ints 0 2)) (element 4 (Local 0) n)))
    ∷ returns (plus (times (get (Local 0)) (int 10)) (get (Member (Local 0) 4))) ∷ [])

-- `int i = 1, a[3] = {i++, i++}; return a[0] + a[1] * 10 + a[2] * 100 + i * 1000;`
abbrev pub initialises_in_order : Setting
initialises_in_order =
    main_only (int_object ∷ object 12 (ints 0 3) ∷ [])
    (Initialise 0 1 (piece 0 (Scalar I32) (int 1) ∷ [])
    ∷ Initialise 1 3 (piece 0 (Scalar I32) (count_up (Local 0)) ∷ piece 4 (Scalar I32) (count_up (Local 0)) ∷ [])
    ∷ returns (plus (plus (plus (get (element 4 (Local 1) 0)) (times (get (element 4 (Local 1) 1)) (int 10)))
    (times (get (element 4 (Local 1) 2)) (int 100))) (times (get (Local 0)) (int 1000))) ∷ [])

-- `struct t { int x; int y[2]; } a[2] = {{i++, {i++}}, {i++}}; .. return a[0].y[0] * 100 + a[1].x * 10 + a[1].y[1];`, with i from 1
abbrev pub initialises_nested : Setting
initialises_nested =
    main_only (int_object ∷ object 24 (ints 0 6) ∷ [])
    (Initialise 0 1 (piece 0 (Scalar I32) (int 1) ∷ [])
    ∷ Initialise 1 6 (piece 0 (Scalar I32) (count_up (Local 0)) ∷ piece 4 (Scalar I32) (count_up (Local 0)) ∷ piece 12 (Scalar I32) (count_up (Local 0)) ∷ [])
    ∷ returns (plus (plus (times (get (element 4 (Member (element 12 (Local 1) 0) 4) 0)) (int 100)) (times (get (Member (element 12 (Local 1) 1) 0)) (int 10)))
    (get (element 4 (Member (element 12 (Local 1) 1) 4) 1))) ∷ [])

-- `int a[2] = {1, a[0]}; return a[1];`
abbrev pub initialises_from_itself : Setting
initialises_from_itself =
    main_only (object 8 (ints 0 2) ∷ [])
    (Initialise 0 2 (piece 0 (Scalar I32) (int 1) ∷ piece 4 (Scalar I32) (get (element 4 (Local 0) 0)) ∷ [])
    ∷ returns (get (element 4 (Local 0) 1)) ∷ [])

-- `int r = 0; switch (n) { case 1: case 2: r += 1; case 3: r += 10; break; default: r += 100; } return r;`
abbrev pub switches : ℕ → Setting
switches n =
    main_only (int_object ∷ [])
    (Initialise 0 1 (piece 0 (Scalar I32) (int 0) ∷ [])
    ∷ Switch (int n) (case 1 0 ∷ case 2 0 ∷ case 3 1 ∷ []) 3 (statements (Do (add_to (Local 0) 1) ∷ Do (add_to (Local 0) 10) ∷ Break ∷ Do (add_to (Local 0) 100) ∷ []))
    ∷ returns (get (Local 0)) ∷ [])

-- `int a[2][2] = {{1, 2}, {3, 4}}, *p = a[0]; return *(p + n);`
abbrev pub goes_on_in_rows : ℕ → Setting
goes_on_in_rows n =
    main_only (object 16 (ints 0 4) ∷ pointer_object ∷ [])
    (Initialise 0 4 (piece 0 (Scalar I32) (int 1) ∷ piece 4 (Scalar I32) (int 2) ∷ piece 8 (Scalar I32) (int 3) ∷ piece 12 (Scalar I32) (int 4) ∷ [])
    ∷ Initialise 1 1 (piece 0 (Scalar Ptr) (Address (element 8 (Local 0) 0)) ∷ [])
    ∷ returns (get (Target (Move 4 false (pointer (Local 1)) (int n)))) ∷ [])

-- `int a[3]; return (&a[m] - &a[n]);`, and `&a[m] < &a[n]`
abbrev pub subtracts : ℕ → ℕ → Setting
subtracts m n =
    main_only (object 12 (ints 0 3) ∷ []) (Forget 0 ∷ returns (Distance 4 (Address (element 4 (Local 0) m)) (Address (element 4 (Local 0) n))) ∷ [])

abbrev pub orders : ℕ → ℕ → Setting
orders m n =
    main_only (object 12 (ints 0 3) ∷ []) (Forget 0 ∷ returns (Compare Less Ptr (Address (element 4 (Local 0) m)) (Address (element 4 (Local 0) n))) ∷ [])

-- `int a, b; return &a < &b;`
abbrev pub orders_two_objects : Setting
orders_two_objects =
    main_only (int_object ∷ int_object ∷ []) (Forget 0 ∷ Forget 1 ∷ returns (Compare Less Ptr (Address (Local 0)) (Address (Local 1))) ∷ [])

-- `int *p; p = 0; return e;`
abbrev pub with_null : Expr → Setting
with_null e = main_only (pointer_object ∷ []) (Forget 0 ∷ Do (Assign (Scalar Ptr) (Local 0) (NullPointer Ptr)) ∷ returns e ∷ [])
