-- The words of a source's tokens are as every source has them.
use Rattle.std.proofs.Common.{ℕ, ◌<◌, false, List, length, sym, subst, arith}
use Rattle.im_tok.specs.declared.token.TokenKind.{TokenKind}
use Rattle.im_tok.specs.declared.token.TokenKind.TheVariants as kind
use Rattle.im_tok.specs.declared.keyword.Keyword.{Keyword}
use Rattle.im_tok.specs.declared.keyword.Keyword.TheVariants as keyword
use Rattle.im_tok.specs.declared.punctuator.Punctuator.{Punctuator}
use Rattle.im_tok.specs.declared.punctuator.Punctuator.TheVariants as mark
use Rattle.im_tok.specs.Keywords.{keyword_text}
use Rattle.im_tok.specs.Punctuators.{punctuator_text}
use Rattle.im_lex.specs.declared.piece.PieceKind.TheVariants.{Token as TokenPiece}
use Rattle.im_lex.specs.Pieces.{IsPiece}

keyword_some : (k : Keyword) → 0 < length (keyword_text k)
keyword_some keyword.Auto = omega arith
keyword_some keyword.Break = omega arith
keyword_some keyword.Case = omega arith
keyword_some keyword.Char = omega arith
keyword_some keyword.Const = omega arith
keyword_some keyword.Continue = omega arith
keyword_some keyword.Default = omega arith
keyword_some keyword.Do = omega arith
keyword_some keyword.Double = omega arith
keyword_some keyword.Else = omega arith
keyword_some keyword.Enum = omega arith
keyword_some keyword.Extern = omega arith
keyword_some keyword.Float = omega arith
keyword_some keyword.For = omega arith
keyword_some keyword.Goto = omega arith
keyword_some keyword.If = omega arith
keyword_some keyword.Inline = omega arith
keyword_some keyword.Int = omega arith
keyword_some keyword.Long = omega arith
keyword_some keyword.Register = omega arith
keyword_some keyword.Restrict = omega arith
keyword_some keyword.Return = omega arith
keyword_some keyword.Short = omega arith
keyword_some keyword.Signed = omega arith
keyword_some keyword.Sizeof = omega arith
keyword_some keyword.Static = omega arith
keyword_some keyword.Struct = omega arith
keyword_some keyword.Switch = omega arith
keyword_some keyword.Typedef = omega arith
keyword_some keyword.Union = omega arith
keyword_some keyword.Unsigned = omega arith
keyword_some keyword.Void = omega arith
keyword_some keyword.Volatile = omega arith
keyword_some keyword.While = omega arith
keyword_some keyword.Alignas = omega arith
keyword_some keyword.Alignof = omega arith
keyword_some keyword.Atomic = omega arith
keyword_some keyword.Bool = omega arith
keyword_some keyword.Complex = omega arith
keyword_some keyword.Generic = omega arith
keyword_some keyword.Imaginary = omega arith
keyword_some keyword.Noreturn = omega arith
keyword_some keyword.StaticAssert = omega arith
keyword_some keyword.ThreadLocal = omega arith

mark_some : (m : Punctuator) → 0 < length (punctuator_text m)
mark_some mark.OpenBracket = omega arith
mark_some mark.CloseBracket = omega arith
mark_some mark.OpenParen = omega arith
mark_some mark.CloseParen = omega arith
mark_some mark.OpenBrace = omega arith
mark_some mark.CloseBrace = omega arith
mark_some mark.Dot = omega arith
mark_some mark.Arrow = omega arith
mark_some mark.Increment = omega arith
mark_some mark.Decrement = omega arith
mark_some mark.Ampersand = omega arith
mark_some mark.Star = omega arith
mark_some mark.Plus = omega arith
mark_some mark.Minus = omega arith
mark_some mark.Tilde = omega arith
mark_some mark.Exclamation = omega arith
mark_some mark.Slash = omega arith
mark_some mark.Percent = omega arith
mark_some mark.ShiftLeft = omega arith
mark_some mark.ShiftRight = omega arith
mark_some mark.Less = omega arith
mark_some mark.Greater = omega arith
mark_some mark.LessEqual = omega arith
mark_some mark.GreaterEqual = omega arith
mark_some mark.EqualEqual = omega arith
mark_some mark.NotEqual = omega arith
mark_some mark.Caret = omega arith
mark_some mark.Bar = omega arith
mark_some mark.AndAnd = omega arith
mark_some mark.OrOr = omega arith
mark_some mark.Question = omega arith
mark_some mark.Colon = omega arith
mark_some mark.Semicolon = omega arith
mark_some mark.Ellipsis = omega arith
mark_some mark.Assign = omega arith
mark_some mark.StarAssign = omega arith
mark_some mark.SlashAssign = omega arith
mark_some mark.PercentAssign = omega arith
mark_some mark.PlusAssign = omega arith
mark_some mark.MinusAssign = omega arith
mark_some mark.ShiftLeftAssign = omega arith
mark_some mark.ShiftRightAssign = omega arith
mark_some mark.AndAssign = omega arith
mark_some mark.XorAssign = omega arith
mark_some mark.OrAssign = omega arith
mark_some mark.Comma = omega arith

pub token_some : (k : TokenKind) (bytes : List ℕ) → IsPiece false (TokenPiece k) bytes → 0 < length bytes
token_some kind.Name bytes h = h.0.some
token_some kind.Keyword bytes h = subst (λ z. 0 < length z) (sym h.1) (keyword_some h.0)
token_some kind.Number bytes h = h.some
token_some kind.Character bytes h = (let w = h.1.1.whole in omega arith)
token_some kind.Text bytes h = (let w = h.1.1.whole in omega arith)
token_some kind.Punctuator bytes h = subst (λ z. 0 < length z) (sym h.1) (mark_some h.0)
