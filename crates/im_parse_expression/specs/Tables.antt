-- The operator that a punctuator stands for, if it stands for one: the grammar's tables as functions.
use Rattle.std.specs.Prelude.{ℕ, Option, Some, None}
use Rattle.im_tok.specs.declared.punctuator.Punctuator.{Punctuator}
use Rattle.im_tok.specs.declared.punctuator.Punctuator.TheVariants as mark
use Rattle.im_tok.specs.declared.keyword.Keyword.{Keyword}
use Rattle.im_tok.specs.declared.keyword.Keyword.TheVariants as key
use Rattle.im_ctree.specs.declared.operator.StepOp.{StepOp}
use Rattle.im_ctree.specs.declared.operator.StepOp.TheVariants as step
use Rattle.im_ctree.specs.declared.operator.UnaryOp.{UnaryOp}
use Rattle.im_ctree.specs.declared.operator.UnaryOp.TheVariants as op
use Rattle.im_ctree.specs.declared.operator.BinaryOp.{BinaryOp}
use Rattle.im_ctree.specs.declared.operator.BinaryOp.TheVariants as bin
use Rattle.im_ctree.specs.declared.operator.AssignOp.{AssignOp}
use Rattle.im_ctree.specs.declared.operator.AssignOp.TheVariants as asg
use Rattle.im_ctree.specs.declared.specifier.SpecifierWord.{SpecifierWord}
use Rattle.im_ctree.specs.declared.specifier.SpecifierWord.TheVariants as word

-- a binary operator, and its level
abbrev pub binary_operator : Punctuator → Option (BinaryOp × ℕ)
binary_operator mark.OrOr = Some (bin.Or, 0)
binary_operator mark.AndAnd = Some (bin.And, 1)
binary_operator mark.Bar = Some (bin.BitOr, 2)
binary_operator mark.Caret = Some (bin.BitXor, 3)
binary_operator mark.Ampersand = Some (bin.BitAnd, 4)
binary_operator mark.EqualEqual = Some (bin.Equal, 5)
binary_operator mark.NotEqual = Some (bin.NotEqual, 5)
binary_operator mark.Less = Some (bin.Less, 6)
binary_operator mark.Greater = Some (bin.Greater, 6)
binary_operator mark.LessEqual = Some (bin.LessEqual, 6)
binary_operator mark.GreaterEqual = Some (bin.GreaterEqual, 6)
binary_operator mark.ShiftLeft = Some (bin.ShiftLeft, 7)
binary_operator mark.ShiftRight = Some (bin.ShiftRight, 7)
binary_operator mark.Plus = Some (bin.Add, 8)
binary_operator mark.Minus = Some (bin.Subtract, 8)
binary_operator mark.Star = Some (bin.Multiply, 9)
binary_operator mark.Slash = Some (bin.Divide, 9)
binary_operator mark.Percent = Some (bin.Remainder, 9)
binary_operator _ = None

abbrev pub assign_operator : Punctuator → Option AssignOp
assign_operator mark.Assign = Some asg.Plain
assign_operator mark.StarAssign = Some asg.Multiply
assign_operator mark.SlashAssign = Some asg.Divide
assign_operator mark.PercentAssign = Some asg.Remainder
assign_operator mark.PlusAssign = Some asg.Add
assign_operator mark.MinusAssign = Some asg.Subtract
assign_operator mark.ShiftLeftAssign = Some asg.ShiftLeft
assign_operator mark.ShiftRightAssign = Some asg.ShiftRight
assign_operator mark.AndAssign = Some asg.BitAnd
assign_operator mark.XorAssign = Some asg.BitXor
assign_operator mark.OrAssign = Some asg.BitOr
assign_operator _ = None

abbrev pub step_operator : Punctuator → Option StepOp
step_operator mark.Increment = Some step.Increment
step_operator mark.Decrement = Some step.Decrement
step_operator _ = None

abbrev pub prefix_operator : Punctuator → Option UnaryOp
prefix_operator mark.Ampersand = Some op.AddressOf
prefix_operator mark.Star = Some op.Dereference
prefix_operator mark.Plus = Some op.Plus
prefix_operator mark.Minus = Some op.Minus
prefix_operator mark.Tilde = Some op.BitNot
prefix_operator mark.Exclamation = Some op.Not
prefix_operator _ = None

abbrev pub specifier_word : Keyword → Option SpecifierWord
specifier_word key.Typedef = Some word.Typedef
specifier_word key.Extern = Some word.Extern
specifier_word key.Static = Some word.Static
specifier_word key.Const = Some word.Const
specifier_word key.Void = Some word.Void
specifier_word key.Char = Some word.Char
specifier_word key.Short = Some word.Short
specifier_word key.Int = Some word.Int
specifier_word key.Long = Some word.Long
specifier_word key.Signed = Some word.Signed
specifier_word key.Unsigned = Some word.Unsigned
specifier_word _ = None
