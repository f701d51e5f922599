-- Which punctuators and keywords stand for which operators and specifiers.
use Rattle.std.specs.Prelude.{ℕ}
use Rattle.im_tok.specs.declared.keyword.Keyword.{Keyword}
use Rattle.im_tok.specs.declared.keyword.Keyword.TheVariants as keyword
use Rattle.im_tok.specs.declared.punctuator.Punctuator.{Punctuator}
use Rattle.im_tok.specs.declared.punctuator.Punctuator.TheVariants as mark
use Rattle.im_ctree.specs.declared.operator.StepOp.{StepOp}
use Rattle.im_ctree.specs.declared.operator.StepOp.TheVariants as step
use Rattle.im_ctree.specs.declared.operator.UnaryOp.{UnaryOp}
use Rattle.im_ctree.specs.declared.operator.UnaryOp.TheVariants as op
use Rattle.im_ctree.specs.declared.operator.BinaryOp.{BinaryOp}
use Rattle.im_ctree.specs.declared.operator.BinaryOp.TheVariants.{Or, And, BitOr, BitXor, BitAnd, Equal, NotEqual, Less, Greater, LessEqual, GreaterEqual, ShiftLeft, ShiftRight, Add, Subtract, Multiply, Divide, Remainder}
use Rattle.im_ctree.specs.declared.operator.AssignOp.{AssignOp}
use Rattle.im_ctree.specs.declared.operator.AssignOp.TheVariants as op_assign
use Rattle.im_ctree.specs.declared.specifier.SpecifierWord.{SpecifierWord}
use Rattle.im_ctree.specs.declared.specifier.SpecifierWord.TheVariants as word

-- a level of binary operators, of which 0 binds loosest, and its punctuators (C11 6.5.5 to 6.5.14)
pub data IsBinaryOperator : ℕ → BinaryOp → Punctuator → Type 0 where
  or : IsBinaryOperator 0 Or mark.OrOr
  and : IsBinaryOperator 1 And mark.AndAnd
  bit_or : IsBinaryOperator 2 BitOr mark.Bar
  bit_xor : IsBinaryOperator 3 BitXor mark.Caret
  bit_and : IsBinaryOperator 4 BitAnd mark.Ampersand
  equal : IsBinaryOperator 5 Equal mark.EqualEqual
  not_equal : IsBinaryOperator 5 NotEqual mark.NotEqual
  less : IsBinaryOperator 6 Less mark.Less
  greater : IsBinaryOperator 6 Greater mark.Greater
  less_equal : IsBinaryOperator 6 LessEqual mark.LessEqual
  greater_equal : IsBinaryOperator 6 GreaterEqual mark.GreaterEqual
  shift_left : IsBinaryOperator 7 ShiftLeft mark.ShiftLeft
  shift_right : IsBinaryOperator 7 ShiftRight mark.ShiftRight
  add : IsBinaryOperator 8 Add mark.Plus
  subtract : IsBinaryOperator 8 Subtract mark.Minus
  multiply : IsBinaryOperator 9 Multiply mark.Star
  divide : IsBinaryOperator 9 Divide mark.Slash
  remainder : IsBinaryOperator 9 Remainder mark.Percent

-- C11 6.5.16
pub data IsAssignOperator : AssignOp → Punctuator → Type 0 where
  assign : IsAssignOperator op_assign.Plain mark.Assign
  assign_multiply : IsAssignOperator op_assign.Multiply mark.StarAssign
  assign_divide : IsAssignOperator op_assign.Divide mark.SlashAssign
  assign_remainder : IsAssignOperator op_assign.Remainder mark.PercentAssign
  assign_add : IsAssignOperator op_assign.Add mark.PlusAssign
  assign_subtract : IsAssignOperator op_assign.Subtract mark.MinusAssign
  assign_shift_left : IsAssignOperator op_assign.ShiftLeft mark.ShiftLeftAssign
  assign_shift_right : IsAssignOperator op_assign.ShiftRight mark.ShiftRightAssign
  assign_and : IsAssignOperator op_assign.BitAnd mark.AndAssign
  assign_xor : IsAssignOperator op_assign.BitXor mark.XorAssign
  assign_or : IsAssignOperator op_assign.BitOr mark.OrAssign

-- C11 6.5.2.4, 6.5.3.1
pub data IsStep : StepOp → Punctuator → Type 0 where
  increment : IsStep step.Increment mark.Increment
  decrement : IsStep step.Decrement mark.Decrement

-- C11 6.5.3.2, 6.5.3.3
pub data IsPrefix : UnaryOp → Punctuator → Type 0 where
  address_of : IsPrefix op.AddressOf mark.Ampersand
  dereference : IsPrefix op.Dereference mark.Star
  plus : IsPrefix op.Plus mark.Plus
  minus : IsPrefix op.Minus mark.Minus
  bit_not : IsPrefix op.BitNot mark.Tilde
  not : IsPrefix op.Not mark.Exclamation

-- a specifier's keyword (C11 6.7.1 to 6.7.3)
pub data IsSpecifierWord : SpecifierWord → Keyword → Type 0 where
  typedef : IsSpecifierWord word.Typedef keyword.Typedef
  extern : IsSpecifierWord word.Extern keyword.Extern
  static : IsSpecifierWord word.Static keyword.Static
  const : IsSpecifierWord word.Const keyword.Const
  void : IsSpecifierWord word.Void keyword.Void
  char : IsSpecifierWord word.Char keyword.Char
  short : IsSpecifierWord word.Short keyword.Short
  int : IsSpecifierWord word.Int keyword.Int
  long : IsSpecifierWord word.Long keyword.Long
  signed : IsSpecifierWord word.Signed keyword.Signed
  unsigned : IsSpecifierWord word.Unsigned keyword.Unsigned
