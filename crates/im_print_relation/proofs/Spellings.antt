-- What is seen of the spellings of keywords and punctuators: no blank stands in them, and what they begin with.
use Rattle.std.proofs.Common.{◌≡◌, ℕ, nat_le, ◌==◌, ◌&&◌, ◌⊎◌, inl, inr, not, Bool, true, false, length, refl}
use Rattle.std.specs.Prelude.{slice_index}
use Rattle.std.specs.List.{list_all}
use Rattle.im_tok.specs.Keywords.{keyword_text}
use Rattle.im_tok.specs.Punctuators.{punctuator_text}
use Rattle.im_tok.specs.declared.keyword.Keyword.{Keyword}
use Rattle.im_tok.specs.declared.keyword.Keyword.TheVariants as key
use Rattle.im_tok.specs.declared.punctuator.Punctuator.{Punctuator}
use Rattle.im_tok.specs.declared.punctuator.Punctuator.TheVariants as punctuator

-- neither a blank nor an LF
abbrev pub no_blank : ℕ → Bool
no_blank b = not (b == 32) && not (b == 10)

-- no `"`, `'` or `#`
abbrev pub no_quote : ℕ → Bool
no_quote b = not (b == 34) && (not (b == 39) && not (b == 35))

pub keyword_seen : (k : Keyword) → (list_all no_blank (keyword_text k) && nat_le 65 (slice_index (keyword_text k) 0)) ≡ true
keyword_seen key.Auto = refl
keyword_seen key.Break = refl
keyword_seen key.Case = refl
keyword_seen key.Char = refl
keyword_seen key.Const = refl
keyword_seen key.Continue = refl
keyword_seen key.Default = refl
keyword_seen key.Do = refl
keyword_seen key.Double = refl
keyword_seen key.Else = refl
keyword_seen key.Enum = refl
keyword_seen key.Extern = refl
keyword_seen key.Float = refl
keyword_seen key.For = refl
keyword_seen key.Goto = refl
keyword_seen key.If = refl
keyword_seen key.Inline = refl
keyword_seen key.Int = refl
keyword_seen key.Long = refl
keyword_seen key.Register = refl
keyword_seen key.Restrict = refl
keyword_seen key.Return = refl
keyword_seen key.Short = refl
keyword_seen key.Signed = refl
keyword_seen key.Sizeof = refl
keyword_seen key.Static = refl
keyword_seen key.Struct = refl
keyword_seen key.Switch = refl
keyword_seen key.Typedef = refl
keyword_seen key.Union = refl
keyword_seen key.Unsigned = refl
keyword_seen key.Void = refl
keyword_seen key.Volatile = refl
keyword_seen key.While = refl
keyword_seen key.Alignas = refl
keyword_seen key.Alignof = refl
keyword_seen key.Atomic = refl
keyword_seen key.Bool = refl
keyword_seen key.Complex = refl
keyword_seen key.Generic = refl
keyword_seen key.Imaginary = refl
keyword_seen key.Noreturn = refl
keyword_seen key.StaticAssert = refl
keyword_seen key.ThreadLocal = refl

pub mark_seen : (p : Punctuator) → (list_all no_blank (punctuator_text p) && no_quote (slice_index (punctuator_text p) 0)) ≡ true
mark_seen punctuator.OpenBracket = refl
mark_seen punctuator.CloseBracket = refl
mark_seen punctuator.OpenParen = refl
mark_seen punctuator.CloseParen = refl
mark_seen punctuator.OpenBrace = refl
mark_seen punctuator.CloseBrace = refl
mark_seen punctuator.Dot = refl
mark_seen punctuator.Arrow = refl
mark_seen punctuator.Increment = refl
mark_seen punctuator.Decrement = refl
mark_seen punctuator.Ampersand = refl
mark_seen punctuator.Star = refl
mark_seen punctuator.Plus = refl
mark_seen punctuator.Minus = refl
mark_seen punctuator.Tilde = refl
mark_seen punctuator.Exclamation = refl
mark_seen punctuator.Slash = refl
mark_seen punctuator.Percent = refl
mark_seen punctuator.ShiftLeft = refl
mark_seen punctuator.ShiftRight = refl
mark_seen punctuator.Less = refl
mark_seen punctuator.Greater = refl
mark_seen punctuator.LessEqual = refl
mark_seen punctuator.GreaterEqual = refl
mark_seen punctuator.EqualEqual = refl
mark_seen punctuator.NotEqual = refl
mark_seen punctuator.Caret = refl
mark_seen punctuator.Bar = refl
mark_seen punctuator.AndAnd = refl
mark_seen punctuator.OrOr = refl
mark_seen punctuator.Question = refl
mark_seen punctuator.Colon = refl
mark_seen punctuator.Semicolon = refl
mark_seen punctuator.Ellipsis = refl
mark_seen punctuator.Assign = refl
mark_seen punctuator.StarAssign = refl
mark_seen punctuator.SlashAssign = refl
mark_seen punctuator.PercentAssign = refl
mark_seen punctuator.PlusAssign = refl
mark_seen punctuator.MinusAssign = refl
mark_seen punctuator.ShiftLeftAssign = refl
mark_seen punctuator.ShiftRightAssign = refl
mark_seen punctuator.AndAssign = refl
mark_seen punctuator.XorAssign = refl
mark_seen punctuator.OrAssign = refl
mark_seen punctuator.Comma = refl

-- a `/` stands first in two punctuators alone
pub slash_led : (p : Punctuator) → (p ≡ punctuator.Slash) ⊎ ((p ≡ punctuator.SlashAssign) ⊎ ((slice_index (punctuator_text p) 0 == 47) ≡ false))
slash_led punctuator.OpenBracket = inr (inr refl)
slash_led punctuator.CloseBracket = inr (inr refl)
slash_led punctuator.OpenParen = inr (inr refl)
slash_led punctuator.CloseParen = inr (inr refl)
slash_led punctuator.OpenBrace = inr (inr refl)
slash_led punctuator.CloseBrace = inr (inr refl)
slash_led punctuator.Dot = inr (inr refl)
slash_led punctuator.Arrow = inr (inr refl)
slash_led punctuator.Increment = inr (inr refl)
slash_led punctuator.Decrement = inr (inr refl)
slash_led punctuator.Ampersand = inr (inr refl)
slash_led punctuator.Star = inr (inr refl)
slash_led punctuator.Plus = inr (inr refl)
slash_led punctuator.Minus = inr (inr refl)
slash_led punctuator.Tilde = inr (inr refl)
slash_led punctuator.Exclamation = inr (inr refl)
slash_led punctuator.Slash = inl refl
slash_led punctuator.Percent = inr (inr refl)
slash_led punctuator.ShiftLeft = inr (inr refl)
slash_led punctuator.ShiftRight = inr (inr refl)
slash_led punctuator.Less = inr (inr refl)
slash_led punctuator.Greater = inr (inr refl)
slash_led punctuator.LessEqual = inr (inr refl)
slash_led punctuator.GreaterEqual = inr (inr refl)
slash_led punctuator.EqualEqual = inr (inr refl)
slash_led punctuator.NotEqual = inr (inr refl)
slash_led punctuator.Caret = inr (inr refl)
slash_led punctuator.Bar = inr (inr refl)
slash_led punctuator.AndAnd = inr (inr refl)
slash_led punctuator.OrOr = inr (inr refl)
slash_led punctuator.Question = inr (inr refl)
slash_led punctuator.Colon = inr (inr refl)
slash_led punctuator.Semicolon = inr (inr refl)
slash_led punctuator.Ellipsis = inr (inr refl)
slash_led punctuator.Assign = inr (inr refl)
slash_led punctuator.StarAssign = inr (inr refl)
slash_led punctuator.SlashAssign = inr (inl refl)
slash_led punctuator.PercentAssign = inr (inr refl)
slash_led punctuator.PlusAssign = inr (inr refl)
slash_led punctuator.MinusAssign = inr (inr refl)
slash_led punctuator.ShiftLeftAssign = inr (inr refl)
slash_led punctuator.ShiftRightAssign = inr (inr refl)
slash_led punctuator.AndAssign = inr (inr refl)
slash_led punctuator.XorAssign = inr (inr refl)
slash_led punctuator.OrAssign = inr (inr refl)
slash_led punctuator.Comma = inr (inr refl)

pub some_byte : (p : Punctuator) → (nat_le 1 (length (punctuator_text p))) ≡ true
some_byte punctuator.OpenBracket = refl
some_byte punctuator.CloseBracket = refl
some_byte punctuator.OpenParen = refl
some_byte punctuator.CloseParen = refl
some_byte punctuator.OpenBrace = refl
some_byte punctuator.CloseBrace = refl
some_byte punctuator.Dot = refl
some_byte punctuator.Arrow = refl
some_byte punctuator.Increment = refl
some_byte punctuator.Decrement = refl
some_byte punctuator.Ampersand = refl
some_byte punctuator.Star = refl
some_byte punctuator.Plus = refl
some_byte punctuator.Minus = refl
some_byte punctuator.Tilde = refl
some_byte punctuator.Exclamation = refl
some_byte punctuator.Slash = refl
some_byte punctuator.Percent = refl
some_byte punctuator.ShiftLeft = refl
some_byte punctuator.ShiftRight = refl
some_byte punctuator.Less = refl
some_byte punctuator.Greater = refl
some_byte punctuator.LessEqual = refl
some_byte punctuator.GreaterEqual = refl
some_byte punctuator.EqualEqual = refl
some_byte punctuator.NotEqual = refl
some_byte punctuator.Caret = refl
some_byte punctuator.Bar = refl
some_byte punctuator.AndAnd = refl
some_byte punctuator.OrOr = refl
some_byte punctuator.Question = refl
some_byte punctuator.Colon = refl
some_byte punctuator.Semicolon = refl
some_byte punctuator.Ellipsis = refl
some_byte punctuator.Assign = refl
some_byte punctuator.StarAssign = refl
some_byte punctuator.SlashAssign = refl
some_byte punctuator.PercentAssign = refl
some_byte punctuator.PlusAssign = refl
some_byte punctuator.MinusAssign = refl
some_byte punctuator.ShiftLeftAssign = refl
some_byte punctuator.ShiftRightAssign = refl
some_byte punctuator.AndAssign = refl
some_byte punctuator.XorAssign = refl
some_byte punctuator.OrAssign = refl
some_byte punctuator.Comma = refl

pub some_letter : (k : Keyword) → (nat_le 1 (length (keyword_text k))) ≡ true
some_letter key.Auto = refl
some_letter key.Break = refl
some_letter key.Case = refl
some_letter key.Char = refl
some_letter key.Const = refl
some_letter key.Continue = refl
some_letter key.Default = refl
some_letter key.Do = refl
some_letter key.Double = refl
some_letter key.Else = refl
some_letter key.Enum = refl
some_letter key.Extern = refl
some_letter key.Float = refl
some_letter key.For = refl
some_letter key.Goto = refl
some_letter key.If = refl
some_letter key.Inline = refl
some_letter key.Int = refl
some_letter key.Long = refl
some_letter key.Register = refl
some_letter key.Restrict = refl
some_letter key.Return = refl
some_letter key.Short = refl
some_letter key.Signed = refl
some_letter key.Sizeof = refl
some_letter key.Static = refl
some_letter key.Struct = refl
some_letter key.Switch = refl
some_letter key.Typedef = refl
some_letter key.Union = refl
some_letter key.Unsigned = refl
some_letter key.Void = refl
some_letter key.Volatile = refl
some_letter key.While = refl
some_letter key.Alignas = refl
some_letter key.Alignof = refl
some_letter key.Atomic = refl
some_letter key.Bool = refl
some_letter key.Complex = refl
some_letter key.Generic = refl
some_letter key.Imaginary = refl
some_letter key.Noreturn = refl
some_letter key.StaticAssert = refl
some_letter key.ThreadLocal = refl
