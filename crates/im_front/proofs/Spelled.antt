-- How keywords and punctuators are spelled tells which they are.
use Rattle.std.proofs.Common.{◌≡◌, ℕ, true, false, ◌&&◌, eqb, List, [], ◌∷◌, Option, Some, None, if◌then◌else◌, refl, sym, ap, ◌∙◌}
use Rattle.std.proofs.Common.{Bool as Truth}
use Rattle.im_tok.specs.Keywords.{keyword_text}
use Rattle.im_tok.specs.declared.keyword.Keyword.{Keyword}
use Rattle.im_tok.specs.declared.keyword.Keyword.TheVariants as k
use Rattle.im_tok.specs.Punctuators.{punctuator_text}
use Rattle.im_tok.specs.declared.punctuator.Punctuator.{Punctuator}
use Rattle.im_tok.specs.declared.punctuator.Punctuator.TheVariants as p

abbrev is_same : List ℕ → List ℕ → Truth
is_same [] [] = true
is_same [] (y ∷ ys) = false
is_same (x ∷ xs) [] = false
is_same (x ∷ xs) (y ∷ ys) = eqb x y && is_same xs ys

-- the first of the list that is spelled so
abbrev first_spelled : {A : Type 0} → (A → List ℕ) → List ℕ → List A → Option A
first_spelled spelling text [] = None
first_spelled spelling text (x ∷ xs) = if is_same text (spelling x) then Some x else first_spelled spelling text xs

abbrev keywords : List Keyword
keywords = k.Auto ∷ k.Break ∷ k.Case ∷ k.Char ∷ k.Const ∷ k.Continue ∷ k.Default ∷ k.Do ∷ k.Double ∷ k.Else ∷ k.Enum ∷ k.Extern ∷ k.Float ∷ k.For ∷ k.Goto ∷ k.If ∷ k.Inline ∷ k.Int ∷ k.Long ∷ k.Register ∷ k.Restrict ∷ k.Return ∷ k.Short ∷ k.Signed ∷ k.Sizeof ∷ k.Static ∷ k.Struct ∷ k.Switch ∷ k.Typedef ∷ k.Union ∷ k.Unsigned ∷ k.Void ∷ k.Volatile ∷ k.While ∷ k.Alignas ∷ k.Alignof ∷ k.Atomic ∷ k.Bool ∷ k.Complex ∷ k.Generic ∷ k.Imaginary ∷ k.Noreturn ∷ k.StaticAssert ∷ k.ThreadLocal ∷ []

abbrev marks : List Punctuator
marks = p.OpenBracket ∷ p.CloseBracket ∷ p.OpenParen ∷ p.CloseParen ∷ p.OpenBrace ∷ p.CloseBrace ∷ p.Dot ∷ p.Arrow ∷ p.Increment ∷ p.Decrement ∷ p.Ampersand ∷ p.Star ∷ p.Plus ∷ p.Minus ∷ p.Tilde ∷ p.Exclamation ∷ p.Slash ∷ p.Percent ∷ p.ShiftLeft ∷ p.ShiftRight ∷ p.Less ∷ p.Greater ∷ p.LessEqual ∷ p.GreaterEqual ∷ p.EqualEqual ∷ p.NotEqual ∷ p.Caret ∷ p.Bar ∷ p.AndAnd ∷ p.OrOr ∷ p.Question ∷ p.Colon ∷ p.Semicolon ∷ p.Ellipsis ∷ p.Assign ∷ p.StarAssign ∷ p.SlashAssign ∷ p.PercentAssign ∷ p.PlusAssign ∷ p.MinusAssign ∷ p.ShiftLeftAssign ∷ p.ShiftRightAssign ∷ p.AndAssign ∷ p.XorAssign ∷ p.OrAssign ∷ p.Comma ∷ []

keyword-found : (x : Keyword) → first_spelled keyword_text (keyword_text x) keywords ≡ Some x
keyword-found k.Auto = refl
keyword-found k.Break = refl
keyword-found k.Case = refl
keyword-found k.Char = refl
keyword-found k.Const = refl
keyword-found k.Continue = refl
keyword-found k.Default = refl
keyword-found k.Do = refl
keyword-found k.Double = refl
keyword-found k.Else = refl
keyword-found k.Enum = refl
keyword-found k.Extern = refl
keyword-found k.Float = refl
keyword-found k.For = refl
keyword-found k.Goto = refl
keyword-found k.If = refl
keyword-found k.Inline = refl
keyword-found k.Int = refl
keyword-found k.Long = refl
keyword-found k.Register = refl
keyword-found k.Restrict = refl
keyword-found k.Return = refl
keyword-found k.Short = refl
keyword-found k.Signed = refl
keyword-found k.Sizeof = refl
keyword-found k.Static = refl
keyword-found k.Struct = refl
keyword-found k.Switch = refl
keyword-found k.Typedef = refl
keyword-found k.Union = refl
keyword-found k.Unsigned = refl
keyword-found k.Void = refl
keyword-found k.Volatile = refl
keyword-found k.While = refl
keyword-found k.Alignas = refl
keyword-found k.Alignof = refl
keyword-found k.Atomic = refl
keyword-found k.Bool = refl
keyword-found k.Complex = refl
keyword-found k.Generic = refl
keyword-found k.Imaginary = refl
keyword-found k.Noreturn = refl
keyword-found k.StaticAssert = refl
keyword-found k.ThreadLocal = refl

mark-found : (x : Punctuator) → first_spelled punctuator_text (punctuator_text x) marks ≡ Some x
mark-found p.OpenBracket = refl
mark-found p.CloseBracket = refl
mark-found p.OpenParen = refl
mark-found p.CloseParen = refl
mark-found p.OpenBrace = refl
mark-found p.CloseBrace = refl
mark-found p.Dot = refl
mark-found p.Arrow = refl
mark-found p.Increment = refl
mark-found p.Decrement = refl
mark-found p.Ampersand = refl
mark-found p.Star = refl
mark-found p.Plus = refl
mark-found p.Minus = refl
mark-found p.Tilde = refl
mark-found p.Exclamation = refl
mark-found p.Slash = refl
mark-found p.Percent = refl
mark-found p.ShiftLeft = refl
mark-found p.ShiftRight = refl
mark-found p.Less = refl
mark-found p.Greater = refl
mark-found p.LessEqual = refl
mark-found p.GreaterEqual = refl
mark-found p.EqualEqual = refl
mark-found p.NotEqual = refl
mark-found p.Caret = refl
mark-found p.Bar = refl
mark-found p.AndAnd = refl
mark-found p.OrOr = refl
mark-found p.Question = refl
mark-found p.Colon = refl
mark-found p.Semicolon = refl
mark-found p.Ellipsis = refl
mark-found p.Assign = refl
mark-found p.StarAssign = refl
mark-found p.SlashAssign = refl
mark-found p.PercentAssign = refl
mark-found p.PlusAssign = refl
mark-found p.MinusAssign = refl
mark-found p.ShiftLeftAssign = refl
mark-found p.ShiftRightAssign = refl
mark-found p.AndAssign = refl
mark-found p.XorAssign = refl
mark-found p.OrAssign = refl
mark-found p.Comma = refl

some-same : {A : Type 0} {x y : A} → Some x ≡ Some y → x ≡ y
some-same e = cc

pub same-keyword : (x y : Keyword) → keyword_text x ≡ keyword_text y → x ≡ y
same-keyword x y e =
    some-same (sym (keyword-found x) ∙ ap (λ text. first_spelled keyword_text text keywords) e ∙ keyword-found y)

pub same-mark : (x y : Punctuator) → punctuator_text x ≡ punctuator_text y → x ≡ y
same-mark x y e = some-same (sym (mark-found x) ∙ ap (λ text. first_spelled punctuator_text text marks) e ∙ mark-found y)
