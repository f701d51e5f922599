use Rattle.std.proofs.Common.{◌≡◌, ◌≤◌, ◌+◌, ℕ, drop}
use Rattle.im_ctype.specs.Table.{Table}
use Rattle.im_typed.specs.Program.{Prog}
use Rattle.im_typed.specs.declared.expression.Expr.{size-Expr}
use Rattle.im_typed.specs.ProgramOf.{expr_of, program_of}
use Rattle.im_lower_plain.specs.Made.{Made}
use Rattle.im_lower_plain.specs.Make.{make}
use Rattle.im_lower.specs.MakeEach.{make_each}
use Rattle.im_lower.proofs.expressions.+expressions.Given as goal

-- the arguments from the index on stand
abbrev pub invariant-lower_arguments-loop-index : goal.invariant-lower_arguments-loop-index
invariant-lower_arguments-loop-index l =
    l.code ≡ make_each (program_of l.prog) l.first l.prog.types (drop l.index l.arguments) (l.free + l.index) l.initial.code

-- the code that is left is that of the rest
abbrev pub invariant-lower_expression-loop-operand : goal.invariant-lower_expression-loop-operand
invariant-lower_expression-loop-operand l =
    (make (program_of l.prog) l.first (expr_of l.prog.types l.expression) l.initial.to l.initial.free l.initial.code
    ≡ make (program_of l.prog) l.first (expr_of l.prog.types l.rest) l.to l.free l.code)
    × (size-Expr l.rest ≤ size-Expr l.expression)

-- what is left of the code is that of what is kept
abbrev pub invariant-lower_behind-loop-operand : goal.invariant-lower_behind-loop-operand
invariant-lower_behind-loop-operand l =
    (make (program_of l.prog) l.first (expr_of l.prog.types l.kept) l.to l.free l.code
    ≡ make (program_of l.prog) l.first (expr_of l.prog.types l.expression) l.to l.free l.initial.code)
    × (size-Expr l.kept ≤ size-Expr l.expression)
