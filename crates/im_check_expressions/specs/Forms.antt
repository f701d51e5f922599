-- Which form an expression has: what a function that types one form of them is given.
use Rattle.std.specs.Prelude.{◌≡◌, ◌⊎◌, Box, Vec}
use Rattle.std.specs.Global.{Global}
use Rattle.im_ctree.specs.declared.declarator.TypeName.{TypeName}
use Rattle.im_ctree.specs.declared.expression.Expression.{Expression}
use Rattle.im_ctree.specs.declared.expression.ExpressionKind as k
use Rattle.im_ctree.specs.declared.operator.AssignOp.{AssignOp}
use Rattle.im_ctree.specs.declared.operator.BinaryOp.{BinaryOp}
use Rattle.im_ctree.specs.declared.operator.StepOp.{StepOp}
use Rattle.im_ctree.specs.declared.operator.UnaryOp.{UnaryOp}

-- a call (C11 6.5.2.2)
abbrev pub IsCall : k.ExpressionKind → Type 0
IsCall e = (f : Box Expression Global) × (xs : Vec Expression Global) × (e ≡ k.Call f xs)

-- one operand, before which it stands (C11 6.5.3)
abbrev pub IsUnary : k.ExpressionKind → Type 0
IsUnary e = ((o : StepOp) × (a : Box Expression Global) × (e ≡ k.PreStep o a))
    ⊎ ((o : UnaryOp) × (a : Box Expression Global) × (e ≡ k.Unary o a))
    ⊎ ((a : Box Expression Global) × (e ≡ k.SizeOfExpression a))
    ⊎ ((n : Box TypeName Global) × (e ≡ k.SizeOfType n))

-- a binary or conditional expression or an assignment (C11 6.5.5 to 6.5.16)
abbrev pub IsOperation : k.ExpressionKind → Type 0
IsOperation e = ((o : BinaryOp) × (a : Box Expression Global) × (b : Box Expression Global) × (e ≡ k.Binary o a b))
    ⊎ ((a : Box Expression Global) × (b : Box Expression Global) × (c : Box Expression Global) × (e ≡ k.Conditional a b c))
    ⊎ ((o : AssignOp) × (a : Box Expression Global) × (b : Box Expression Global) × (e ≡ k.Assign o a b))
